-- The three columns around a place.
use Rattle.std.proofs.Common.{◌≡◌, ℕ, zero, suc, ◌+◌, ◌-◌, ◌*◌, ◌/◌, ◌%◌, ◌^◌, ◌<◌, ◌≤◌, Bool, true, false, ap, ◌∙◌, sym, inl, inr, arith}
use Rattle.std.specs.Prelude.{◌&&◌, ◌||◌, nat_eq}
use Rattle.std.specs.Int.RustNames.{bit_or, bit_and}
use Rattle.std.proofs.lemmas.Nat.{or_lt, and_le_r}
use Rattle.std.proofs.lemmas.Bool.{cases_lt}
use Rattle.std.proofs.lemmas.Bool.Decides.{nat_tests}
use Rattle.jk_scan.specs.Bits.{on}
use Rattle.jk_scan.specs.Words.{Truths, of_gathered, Shows, bordered, IsColumn, IsNeighbourhood}
use Rattle.jk_scan.proofs.BitLaws.{on_or, on_and, on_above, on_shl, on_shl_low, on_shr, on_shr_at}
use Rattle.jk_scan.proofs.Seen.{AreSeen, AreFour, seen}
use Rattle.jk_scan.proofs.Nines.{column_at, first, second, third}

gathered_up : (i : ℕ) → i < 6 → of_gathered i ≡ true
gathered_up i h = grind (arith, nat_tests)

left_of : (a b v : Bool) → a ≡ v → b ≡ false → (a || b) ≡ v
left_of a b v e g = grind (arith, nat_tests)

right_of : (a b v : Bool) → a ≡ false → b ≡ v → (a || b) ≡ v
right_of a b v e g = grind (arith, nat_tests)

-- what a gathered word shows at a place
pub at_place : (f : Truths) (j s w c i m n : ℕ) → Shows of_gathered f j s w → c < 8 → i < 6 → m ≡ 8 * j + c → n ≡ 4 * s + i - 1 → on w (8 * c + i) ≡ f m n
at_place f j s w c i m n h p q e g =
    h c i p (omega arith) ∙ ap (λ b. b && f (8 * j + c) (4 * s + i - 1)) (gathered_up i q) ∙ ap (λ x. f x (4 * s + i - 1)) (sym e) ∙ ap (f m) (sym g)

pub right_moved : (x west : ℕ) → x < 2 ^ 64 → west < 2 ^ 64 → (f : Truths) (j s c i : ℕ) → Shows of_gathered f (j + 1) s x → Shows of_gathered f j s west
    → c < 8 → i < 6 → on (bit_or (x * 2 ^ 8 % 2 ^ 64) (west / 2 ^ 56)) (8 * c + i) ≡ f (8 * (j + 1) + c - 1) (4 * s + i - 1)
right_moved x west xb lb f j s c i hx hl p q =
    on_or (x * 2 ^ 8 % 2 ^ 64) (west / 2 ^ 56) (8 * c + i) ∙ by_column c p
  where
    by_column : (c : ℕ) → c < 8 → (on (x * 2 ^ 8 % 2 ^ 64) (8 * c + i) || on (west / 2 ^ 56) (8 * c + i)) ≡ f (8 * (j + 1) + c - 1) (4 * s + i - 1)
    by_column zero p =
        right_of (on (x * 2 ^ 8 % 2 ^ 64) (8 * zero + i)) (on (west / 2 ^ 56) (8 * zero + i)) (f (8 * (j + 1) + zero - 1) (4 * s + i - 1))
        (on_shl_low x 8 64 (8 * zero + i) (omega arith) (omega arith))
        (on_shr_at west 56 (8 * 7 + i) (8 * zero + i) (omega arith) ∙ at_place f j s west 7 i (8 * (j + 1) + zero - 1) (4 * s + i - 1) hl (omega arith) q (omega arith) (omega arith))
    by_column (suc c) p =
        left_of (on (x * 2 ^ 8 % 2 ^ 64) (8 * suc c + i)) (on (west / 2 ^ 56) (8 * suc c + i)) (f (8 * (j + 1) + suc c - 1) (4 * s + i - 1))
        (on_shl x 8 64 (8 * c + i) (8 * suc c + i) (omega arith) (omega arith) ∙ at_place f (j + 1) s x c i (8 * (j + 1) + suc c - 1) (4 * s + i - 1) hx (omega arith) q (omega arith) (omega arith))
        (on_shr west 56 (8 * suc c + i) ∙ on_above west 64 (56 + (8 * suc c + i)) lb (omega arith))

pub left_moved : (x east : ℕ) → x < 2 ^ 64 → east < 2 ^ 64 → (f : Truths) (j s c i : ℕ) → Shows of_gathered f (j + 1) s x → Shows of_gathered f (j + 2) s east
    → c < 8 → i < 6 → on (bit_or (x / 2 ^ 8) (east * 2 ^ 56 % 2 ^ 64)) (8 * c + i) ≡ f (8 * (j + 1) + c + 1) (4 * s + i - 1)
left_moved x east xb rb f j s c i hx hr p q =
    on_or (x / 2 ^ 8) (east * 2 ^ 56 % 2 ^ 64) (8 * c + i) ∙ elim (cases_lt c 7) [
      | inl less ↦
          left_of (on (x / 2 ^ 8) (8 * c + i)) (on (east * 2 ^ 56 % 2 ^ 64) (8 * c + i)) (f (8 * (j + 1) + c + 1) (4 * s + i - 1))
          (on_shr_at x 8 (8 * (c + 1) + i) (8 * c + i) (omega arith) ∙ at_place f (j + 1) s x (c + 1) i (8 * (j + 1) + c + 1) (4 * s + i - 1) hx (omega arith) q (omega arith) (omega arith))
          (on_shl_low east 56 64 (8 * c + i) (omega arith) (omega arith))
      | inr last ↦
          right_of (on (x / 2 ^ 8) (8 * c + i)) (on (east * 2 ^ 56 % 2 ^ 64) (8 * c + i)) (f (8 * (j + 1) + c + 1) (4 * s + i - 1))
          (on_shr x 8 (8 * c + i) ∙ on_above x 64 (8 + (8 * c + i)) xb (omega arith))
          (on_shl east 56 64 (8 * 0 + i) (8 * c + i) (omega arith) (omega arith) ∙ at_place f (j + 2) s east 0 i (8 * (j + 1) + c + 1) (4 * s + i - 1) hr (omega arith) q (omega arith) (omega arith))
    ]

-- three bits of a word from a place's row on
pub column_from : (word : ℕ) (f : Truths) (C m s k : ℕ) → k < 64 → 1 ≤ k % 8 → k % 8 < 5 → C ≡ m
    → ((i : ℕ) → i < 6 → on word (8 * (k / 8) + i) ≡ f m (4 * (s + 1) + i - 1))
    → IsColumn f C (4 * (s + 1) + k % 8 - 1) (word / 2 ^ (k - 1))
column_from word f C m s k b lo hi e h t p =
    on_shr_at word (k - 1) (8 * (k / 8) + (k % 8 - 1 + t)) t (omega arith)
    ∙ h (k % 8 - 1 + t) (omega arith)
    ∙ ap (λ x. f x (4 * (s + 1) + (k % 8 - 1 + t) - 1)) (sym e)
    ∙ ap (f C) (omega arith)

-- three columns without gaps
abbrev pub nine_of : (l o r : ℕ) → ℕ
nine_of l o r = bit_or (bit_or (bit_and l 7) (bit_and (o * 2 ^ 3 % 2 ^ 64) 0x38)) (bit_and (r * 2 ^ 6 % 2 ^ 64) 0x1c0)

nine_on : (l o r a t : ℕ) (v : Bool) → a < 3 → t < 3
    → (a ≡ 0 → on l (3 * a + t) ≡ v) → (a ≡ 1 → on (o * 2 ^ 3 % 2 ^ 64) (3 * a + t) ≡ v) → (a ≡ 2 → on (r * 2 ^ 6 % 2 ^ 64) (3 * a + t) ≡ v)
    → on (nine_of l o r) (3 * a + t) ≡ v
nine_on l o r a t v p q e g h =
    let k = 3 * a + t in
    let y = o * 2 ^ 3 % 2 ^ 64 in
    let z = r * 2 ^ 6 % 2 ^ 64 in
    on_or (bit_or (bit_and l 7) (bit_and y 0x38)) (bit_and z 0x1c0) k ∙ ap (λ b. b || on (bit_and z 0x1c0) k) (on_or (bit_and l 7) (bit_and y 0x38) k)
    ∙ chosen a (on l k) (on y k) (on z k) (on (bit_and l 7) k) (on (bit_and y 0x38) k) (on (bit_and z 0x1c0) k) v p
    (on_and l 7 k ∙ ap (λ b. on l k && b) (column_at 7 0 first a t p q))
    (on_and y 0x38 k ∙ ap (λ b. on y k && b) (column_at 0x38 1 second a t p q))
    (on_and z 0x1c0 k ∙ ap (λ b. on z k && b) (column_at 0x1c0 2 third a t p q))
    e g h
  where
    chosen : (a : ℕ) (x y z x' y' z' v : Bool) → a < 3 → x' ≡ (x && nat_eq a 0) → y' ≡ (y && nat_eq a 1) → z' ≡ (z && nat_eq a 2) → (a ≡ 0 → x ≡ v) → (a ≡ 1 → y ≡ v) → (a ≡ 2 → z ≡ v) → ((x' || y') || z') ≡ v
    chosen a x y z x' y' z' v p h k l e g i = grind (arith, nat_tests)

pub nine_left : (l o r t : ℕ) → t < 3 → on (nine_of l o r) (3 * 0 + t) ≡ on l t
nine_left l o r t q = nine_on l o r 0 t (on l t) (omega arith) q (λ _. ap (on l) (omega arith)) (λ e. absurd (omega arith)) (λ e. absurd (omega arith))

pub nine_own : (l o r t : ℕ) → t < 3 → on (nine_of l o r) (3 * 1 + t) ≡ on o t
nine_own l o r t q = nine_on l o r 1 t (on o t) (omega arith) q (λ e. absurd (omega arith)) (λ _. on_shl o 3 64 t (3 * 1 + t) (omega arith) (omega arith)) (λ e. absurd (omega arith))

pub nine_right : (l o r t : ℕ) → t < 3 → on (nine_of l o r) (3 * 2 + t) ≡ on r t
nine_right l o r t q = nine_on l o r 2 t (on r t) (omega arith) q (λ e. absurd (omega arith)) (λ e. absurd (omega arith)) (λ _. on_shl r 6 64 t (3 * 2 + t) (omega arith) (omega arith))

pub nine_few : (l o r : ℕ) → nine_of l o r < 512
nine_few l o r =
    let y = o * 2 ^ 3 % 2 ^ 64 in
    let z = r * 2 ^ 6 % 2 ^ 64 in
    or_lt 9 (bit_or (bit_and l 7) (bit_and y 0x38)) (bit_and z 0x1c0)
    (or_lt 9 (bit_and l 7) (bit_and y 0x38) (let e = and_le_r l 7 in omega (arith, e)) (let e = and_le_r y 0x38 in omega (arith, e)))
    (let e = and_le_r z 0x1c0 in omega (arith, e))

-- The nine places are those of a neighbourhood.
pub nine_of_neighbourhood : (f : Truths) (C R l o r nine neighbourhood : ℕ) → IsNeighbourhood f C R neighbourhood → IsColumn f (C + 0 - 1) R l → IsColumn f (C + 1 - 1) R o → IsColumn f (C + 2 - 1) R r
    → ((t : ℕ) → t < 3 → on nine (3 * 0 + t) ≡ on l t) → ((t : ℕ) → t < 3 → on nine (3 * 1 + t) ≡ on o t) → ((t : ℕ) → t < 3 → on nine (3 * 2 + t) ≡ on r t)
    → (a t : ℕ) → a < 3 → t < 3 → on nine (3 * a + t) ≡ on neighbourhood (8 * a + t)
nine_of_neighbourhood f C R l o r nine neighbourhood w cl co cr nl centre nr zero t p q = nl t q ∙ cl t q ∙ sym (w 0 t p q)
nine_of_neighbourhood f C R l o r nine neighbourhood w cl co cr nl centre nr (suc zero) t p q = centre t q ∙ co t q ∙ sym (w 1 t p q)
nine_of_neighbourhood f C R l o r nine neighbourhood w cl co cr nl centre nr (suc (suc zero)) t p q = nr t q ∙ cr t q ∙ sym (w 2 t p q)
nine_of_neighbourhood f C R l o r nine neighbourhood w cl co cr nl centre nr (suc (suc (suc a))) t p q = absurd (omega arith)

-- the four places beside a place, out of three columns
abbrev pub four_of : (l o r : ℕ) → ℕ
four_of l o r = bit_or (bit_or (bit_or (bit_and (l / 2 ^ 1) 1) (bit_and (o * 2 ^ 1 % 2 ^ 64) 2)) (bit_and o 4)) (bit_and (r * 2 ^ 2 % 2 ^ 64) 8)

four_at : (l o r k : ℕ) → on (four_of l o r) k ≡ ((((on l (1 + k) && on 1 k) || (on (o * 2 ^ 1 % 2 ^ 64) k && on 2 k)) || (on o k && on 4 k)) || (on (r * 2 ^ 2 % 2 ^ 64) k && on 8 k))
four_at l o r k =
    let y = o * 2 ^ 1 % 2 ^ 64 in
    let z = r * 2 ^ 2 % 2 ^ 64 in
    on_or (bit_or (bit_or (bit_and (l / 2 ^ 1) 1) (bit_and y 2)) (bit_and o 4)) (bit_and z 8) k
    ∙ same (on_or (bit_or (bit_and (l / 2 ^ 1) 1) (bit_and y 2)) (bit_and o 4) k
    ∙ same (on_or (bit_and (l / 2 ^ 1) 1) (bit_and y 2) k ∙ same (on_and (l / 2 ^ 1) 1 k ∙ ap (λ b. b && on 1 k) (on_shr l 1 k)) (on_and y 2 k)) (on_and o 4 k)) (on_and z 8 k)
  where
    same : {a b a' b' : Bool} → a ≡ a' → b ≡ b' → (a || b) ≡ (a' || b')
    same e g = cc

pub four_left : (l o r : ℕ) → on (four_of l o r) 0 ≡ on l 1
unfolding on
four_left l o r = four_at l o r 0 ∙ pick (on l 1) (on (o * 2 ^ 1 % 2 ^ 64) 0) (on o 0) (on (r * 2 ^ 2 % 2 ^ 64) 0)
  where
    pick : (a b d e : Bool) → ((((a && true) || (b && false)) || (d && false)) || (e && false)) ≡ a
    pick a b d e = grind (arith, nat_tests)

pub four_above : (l o r : ℕ) → on (four_of l o r) 1 ≡ on o 0
unfolding on
four_above l o r = four_at l o r 1 ∙ pick (on l 2) (on (o * 2 ^ 1 % 2 ^ 64) 1) (on o 1) (on (r * 2 ^ 2 % 2 ^ 64) 1) ∙ on_shl o 1 64 0 1 (omega arith) (omega arith)
  where
    pick : (a b d e : Bool) → ((((a && false) || (b && true)) || (d && false)) || (e && false)) ≡ b
    pick a b d e = grind (arith, nat_tests)

pub four_below : (l o r : ℕ) → on (four_of l o r) 2 ≡ on o 2
unfolding on
four_below l o r = four_at l o r 2 ∙ pick (on l 3) (on (o * 2 ^ 1 % 2 ^ 64) 2) (on o 2) (on (r * 2 ^ 2 % 2 ^ 64) 2)
  where
    pick : (a b d e : Bool) → ((((a && false) || (b && false)) || (d && true)) || (e && false)) ≡ d
    pick a b d e = grind (arith, nat_tests)

pub four_right : (l o r : ℕ) → on (four_of l o r) 3 ≡ on r 1
unfolding on
four_right l o r = four_at l o r 3 ∙ pick (on l 4) (on (o * 2 ^ 1 % 2 ^ 64) 3) (on o 3) (on (r * 2 ^ 2 % 2 ^ 64) 3) ∙ on_shl r 2 64 1 3 (omega arith) (omega arith)
  where
    pick : (a b d e : Bool) → ((((a && false) || (b && false)) || (d && false)) || (e && true)) ≡ e
    pick a b d e = grind (arith, nat_tests)

pub four_small : (l o r : ℕ) → four_of l o r < 16
four_small l o r =
    let y = o * 2 ^ 1 % 2 ^ 64 in
    let z = r * 2 ^ 2 % 2 ^ 64 in
    or_lt 4 (bit_or (bit_or (bit_and (l / 2 ^ 1) 1) (bit_and y 2)) (bit_and o 4)) (bit_and z 8)
    (or_lt 4 (bit_or (bit_and (l / 2 ^ 1) 1) (bit_and y 2)) (bit_and o 4)
    (or_lt 4 (bit_and (l / 2 ^ 1) 1) (bit_and y 2) (let e = and_le_r (l / 2 ^ 1) 1 in omega (arith, e)) (let e = and_le_r y 2 in omega (arith, e)))
    (let e = and_le_r o 4 in omega (arith, e)))
    (let e = and_le_r z 8 in omega (arith, e))

-- what they show of the neighbours of the place (x, y)
pub four_seen : (f : Truths) (x y C R l o r four neighbourhood : ℕ) → C ≡ x + 8 → R ≡ y + 4 → IsNeighbourhood (bordered f) C R neighbourhood
    → IsColumn (bordered f) (C + 0 - 1) R l → IsColumn (bordered f) (C + 1 - 1) R o → IsColumn (bordered f) (C + 2 - 1) R r
    → four < 16 → on four 0 ≡ on l 1 → on four 1 ≡ on o 0 → on four 2 ≡ on o 2 → on four 3 ≡ on r 1 → AreFour f x y four
four_seen f x y C R l o r four neighbourhood ex ey w cl co cr small fl fa fb fr =
    let a : AreSeen f x y neighbourhood = seen f x y C R neighbourhood ex ey w in
    record {
      small = small;
      left = fl ∙ cl 1 (omega arith) ∙ sym (w 0 1 (omega arith) (omega arith)) ∙ a.left;
      above = fa ∙ co 0 (omega arith) ∙ sym (w 1 0 (omega arith) (omega arith)) ∙ a.above;
      below = fb ∙ co 2 (omega arith) ∙ sym (w 1 2 (omega arith) (omega arith)) ∙ a.below;
      right = fr ∙ cr 1 (omega arith) ∙ sym (w 2 1 (omega arith) (omega arith)) ∙ a.right;
    }
