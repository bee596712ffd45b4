-- A place that becomes significant, and the later places of its word that it touches.
use Rattle.std.proofs.Common.{◌≡◌, ℕ, ◌+◌, ◌-◌, ◌*◌, ◌/◌, ◌%◌, ◌^◌, ◌<◌, ◌≤◌, Bool, true, false, not, refl, sym, ap, ◌∙◌, arith}
use Rattle.std.specs.Int.{bit_not, w64}
use Rattle.std.specs.Int.RustNames.{bit_or, bit_and}
use Rattle.std.specs.Prelude.{◌&&◌, ◌||◌, nat_eq, nat_le}
use Rattle.std.proofs.lemmas.Bool.Decides.{nat_tests}
use Rattle.jk_scan.specs.Bits.{on}
use Rattle.jk_scan.specs.Words.{Truths, of_rows, of_gathered, Shows, up_down, aside, is_member}
use Rattle.jk_scan.specs.WordPlaces.{column, row, also}
use Rattle.jk_scan.proofs.BitLaws.{on_and, on_not, on_shl_any, on_set}
use Rattle.jk_scan.proofs.Patterns.{all_below, all_at, same, same_is}

-- the one place of a field
one : (c r : ℕ) → Truths
one c r c' r' = nat_eq c' c && nat_eq r' r

both : Truths → Truths → Truths
both f g c r = f c r || g c r

three : (a b d a' b' d' : Bool) → (((a || a') || (b || b')) || (d || d')) ≡ (((a || b) || d) || ((a' || b') || d'))
three a b d a' b' d' = grind (arith, nat_tests)

up_down-both : (f g : Truths) (c r : ℕ) → up_down (both f g) c r ≡ (up_down f c r || up_down g c r)
unfolding both
up_down-both f g c r = three (f c r) (f c (r - 1)) (f c (r + 1)) (g c r) (g c (r - 1)) (g c (r + 1))

aside-both : (f g : Truths) (c r : ℕ) → aside (both f g) c r ≡ (aside f c r || aside g c r)
unfolding both
aside-both f g c r = three (f c r) (f (c - 1) r) (f (c + 1) r) (g c r) (g (c - 1) r) (g (c + 1) r)

aside-same : (f g : Truths) (c r : ℕ) → ((x : ℕ) → f x r ≡ g x r) → aside f c r ≡ aside g c r
aside-same f g c r h = let h0 = h c in let h1 = h (c - 1) in let h2 = h (c + 1) in cc

-- what is near now was near, or is near the new place
near-also : (f : Truths) (c r c' r' : ℕ) → aside (up_down (also f c r)) c' r' ≡ (aside (up_down f) c' r' || aside (up_down (one c r)) c' r')
unfolding both one
near-also f c r c' r' =
    aside-same (up_down (both f (one c r))) (both (up_down f) (up_down (one c r))) c' r' (λ x. up_down-both f (one c r) x r')
    ∙ aside-both (up_down f) (up_down (one c r)) c' r'

-- next to a place: by columns, and by rows
next_to : (c r c' r' : ℕ) → aside (up_down (one c r)) c' r' ≡ (((nat_eq c' c || nat_eq (c' - 1) c) || nat_eq (c' + 1) c) && ((nat_eq r' r || nat_eq (r' - 1) r) || nat_eq (r' + 1) r))
unfolding one
next_to c r c' r' = parts (nat_eq c' c) (nat_eq (c' - 1) c) (nat_eq (c' + 1) c) (nat_eq r' r) (nat_eq (r' - 1) r) (nat_eq (r' + 1) r)
  where
    parts : (a b d p q e : Bool) → (((((a && p) || (a && q)) || (a && e)) || (((b && p) || (b && q)) || (b && e))) || (((d && p) || (d && q)) || (d && e))) ≡ (((a || b) || d) && ((p || q) || e))
    parts a b d p q e = grind (arith, nat_tests)

-- the distances of the later places next to a place
steps : ℕ → Bool
steps d = nat_eq d 1 || (nat_eq d 7 || (nat_eq d 8 || nat_eq d 9))

steps_are : (d : ℕ) → d < 64 → on 0x382 d ≡ steps d
unfolding on all_below same steps
steps_are d h = same_is (on 0x382 d) (steps d) (all_at 64 (λ d. same (on 0x382 d) (steps d)) refl d h)

pub step_is : (d : ℕ) → d < 64 → on 0x382 d ≡ (nat_eq d 1 || (nat_eq d 7 || (nat_eq d 8 || nat_eq d 9)))
unfolding steps
step_is d h = steps_are d h

-- A later place of the word is next to a place where it is one of these steps from it.
later : (j s a p b q : ℕ) → 1 ≤ p → p < 5 → 1 ≤ q → q < 5 → 8 * b + q < 8 * a + p
    → (((nat_eq (8 * (j + 1) + a) (8 * (j + 1) + b) || nat_eq (8 * (j + 1) + a - 1) (8 * (j + 1) + b)) || nat_eq (8 * (j + 1) + a + 1) (8 * (j + 1) + b))
    && ((nat_eq (4 * (s + 1) + p - 1) (4 * (s + 1) + q - 1) || nat_eq (4 * (s + 1) + p - 1 - 1) (4 * (s + 1) + q - 1)) || nat_eq (4 * (s + 1) + p - 1 + 1) (4 * (s + 1) + q - 1)))
    ≡ steps (8 * a + p - (8 * b + q))
unfolding steps
later j s a p b q p0 p1 q0 q1 less = grind (arith, nat_tests)

-- two places of a word are one where their numbers are
one_place : (j s a p b q : ℕ) → p < 8 → 1 ≤ q → q < 5
    → nat_eq (8 * a + p) (8 * b + q) ≡ (of_gathered p && (nat_eq (8 * (j + 1) + a) (8 * (j + 1) + b) && nat_eq (4 * (s + 1) + p - 1) (4 * (s + 1) + q - 1)))
one_place j s a p b q p1 q0 q1 = grind (arith, nat_tests)

pub rows_between : (i : ℕ) → of_rows i ≡ true → (1 ≤ i) × (i < 5)
rows_between i h = grind (arith, nat_tests)

-- a place set in a word
pub set_shows : (f : Truths) (j s x z : ℕ) → z < 64 → of_rows (z % 8) ≡ true → Shows of_gathered f (j + 1) (s + 1) x
    → Shows of_gathered (also f (column (j + 1) z) (row (s + 1) z)) (j + 1) (s + 1) (bit_or x (1 * 2 ^ z % 2 ^ 64))
set_shows f j s x z lim on_row h c i p q =
    let between = rows_between (z % 8) on_row in
    let split : z ≡ 8 * (z / 8) + z % 8 = omega arith in
    on_set x z 64 (8 * c + i) (omega arith)
    ∙ joined (of_gathered i) (on x (8 * c + i)) (nat_eq (8 * c + i) z) (f (8 * (j + 1) + c) (4 * (s + 1) + i - 1)) (nat_eq (8 * (j + 1) + c) (column (j + 1) z) && nat_eq (4 * (s + 1) + i - 1) (row (s + 1) z)) (h c i p q)
    (ap (nat_eq (8 * c + i)) split ∙ one_place j s c i (z / 8) (z % 8) q between.0 between.1)
  where
    joined : (g x e f o : Bool) → x ≡ (g && f) → e ≡ (g && o) → (x || e) ≡ (g && (f || o))
    joined g x e f o a b = grind (arith, nat_tests)

-- the later members, once a place is added
pub added_at : (f m : Truths) (j s x inside z i : ℕ) → x < 2 ^ 64 → z < i → i < 64 → of_rows (z % 8) ≡ true
    → Shows of_gathered (also f (column (j + 1) z) (row (s + 1) z)) (j + 1) (s + 1) x → Shows of_rows m (j + 1) (s + 1) inside
    → ((of_rows (i % 8) && is_member m f (column (j + 1) i) (row (s + 1) i)) || on (bit_and (bit_and (0x382 * 2 ^ z % 2 ^ 64) inside) (bit_not w64 x)) i)
    ≡ (of_rows (i % 8) && is_member m (also f (column (j + 1) z) (row (s + 1) z)) (column (j + 1) i) (row (s + 1) i))
added_at f m j s x inside z i xb less lim on_row hx hi =
    let c = column (j + 1) i in
    let r = row (s + 1) i in
    let C = column (j + 1) z in
    let R = row (s + 1) z in
    let split : i ≡ 8 * (i / 8) + i % 8 = omega arith in
    let splitz : z ≡ 8 * (z / 8) + z % 8 = omega arith in
    let z_row = rows_between (z % 8) on_row in
    let here : on x i ≡ (of_gathered (i % 8) && (f c r || (nat_eq c C && nat_eq r R))) = ap (on x) split ∙ hx (i / 8) (i % 8) (omega arith) (omega arith) in
    let limit : on inside i ≡ (of_rows (i % 8) && m c r) = ap (on inside) split ∙ hi (i / 8) (i % 8) (omega arith) (omega arith) in
    let apart : (of_gathered (i % 8) && (nat_eq c C && nat_eq r R)) ≡ false =
    sym (one_place j s (i / 8) (i % 8) (z / 8) (z % 8) (omega arith) z_row.0 z_row.1) ∙ (let e : nat_eq (8 * (i / 8) + i % 8) (8 * (z / 8) + z % 8) ≡ false = grind (arith, nat_tests, less) in e) in
    let stepped : of_rows (i % 8) ≡ true → aside (up_down (one C R)) c r ≡ on 0x382 (i - z) = λ row_i.
    next_to C R c r
    ∙ (let i_row = rows_between (i % 8) row_i in later j s (i / 8) (i % 8) (z / 8) (z % 8) i_row.0 i_row.1 z_row.0 z_row.1 (omega (arith, less)))
    ∙ ap steps (omega arith) ∙ sym (steps_are (i - z) (omega arith)) in
    let moved : on (0x382 * 2 ^ z % 2 ^ 64) i ≡ on 0x382 (i - z) = on_shl_any 0x382 z 64 i lim ∙ ap (λ b. b && on 0x382 (i - z)) (let e : nat_le z i ≡ true = grind (arith, nat_tests, less) in e) in
    ap (λ b. (of_rows (i % 8) && is_member m f c r) || b)
    (on_and (bit_and (0x382 * 2 ^ z % 2 ^ 64) inside) (bit_not w64 x) i ∙ ap (λ b. b && on (bit_not w64 x) i) (on_and (0x382 * 2 ^ z % 2 ^ 64) inside i))
    ∙ gate (of_rows (i % 8)) (of_gathered (i % 8)) (m c r) (f c r) (nat_eq c C && nat_eq r R) (aside (up_down f) c r) (aside (up_down (one C R)) c r) (aside (up_down (also f C R)) c r)
    (on 0x382 (i - z)) (on (0x382 * 2 ^ z % 2 ^ 64) i) (on inside i) (on x i) (on (bit_not w64 x) i)
    (λ row_i. let b = rows_between (i % 8) row_i in grind (arith, nat_tests, b)) moved limit here (on_not w64 x i xb lim) apart stepped (near-also f C R c r)
  where
    gate : (row g m f hit near to near' step moved inside x notx : Bool) → (row ≡ true → g ≡ true) → moved ≡ step → inside ≡ (row && m) → x ≡ (g && (f || hit)) → notx ≡ not x → (g && hit) ≡ false
        → (row ≡ true → to ≡ step) → near' ≡ (near || to) → ((row && (m && (not f && near))) || ((moved && inside) && notx)) ≡ (row && (m && (not (f || hit) && near')))
    gate true g m f hit near to near' step moved inside x notx a b d e h k l n = let a1 = a refl in let l1 = l refl in grind (arith, nat_tests)
    gate false g m f hit near to near' step moved inside x notx a b d e h k l n = grind (arith, nat_tests)
