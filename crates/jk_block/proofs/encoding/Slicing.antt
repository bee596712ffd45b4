-- Slices filled and read.
use Rattle.std.proofs.Common.{◌≡◌, ℕ, zero, suc, ◌+◌, ◌-◌, ◌*◌, ◌/◌, ◌%◌, ◌^◌, ◌<◌, ◌≤◌, Bool, true, false, cond, min, ◌⊎◌, List, length, get_or, set, replicate, refl, sym, ap, ◌∙◌, subst, inl, inr, pos, ℤ, unsigned_abs, arith}
use Rattle.std.specs.Prelude.{◌&&◌, ◌||◌, nat_eq, nat_lt, nat_le, slice_index_or}
use Rattle.std.specs.Int.{is_negative, trailing_zeros, w64}
use Rattle.std.specs.Int.RustNames.{bit_or, bit_and}
use Rattle.std.proofs.lemmas.Bool.{cases_lt, and_parts}
use Rattle.std.proofs.lemmas.Bool.Decides.{nat_tests}
use Rattle.std.proofs.lemmas.List.{get_or-replicate, get_or_past, get_or-set_same, get_or-set_other, length-replicate}
use Rattle.std.proofs.lemmas.Nat.{same_from_place, mul-add-lt, or_lt, and_le_r}
use Rattle.std.proofs.Math.Nat.{mul-le-mul_left, mul-le-mul_right}
use Rattle.jk_scan.specs.declared.shape.BlockShape.{BlockShape}
use Rattle.jk_scan.specs.Bits.{on}
use Rattle.jk_scan.specs.Neighbours.{Field, is_inside}
use Rattle.jk_scan.specs.Moments.{stripes}
use Rattle.jk_scan.specs.Words.{of_rows}
use Rattle.jk_scan.specs.WordPlaces.{column, row}
use Rattle.jk_scan.specs.Flags.{IsSized, across}
use Rattle.jk_scan.proofs.Laws.{on_mod, on_above, on_shl_low, lowest}
use Rattle.jk_scan.proofs.Laws.{on_or, on_and, on_zero, on_shl_any, on_shr_at, rows_between}
use Rattle.jk_block.specs.Meaning.{value_in}
use Rattle.jk_block.specs.Meaning.{plane_at}
use Rattle.jk_scan.specs.Passes.{is_one, first_one}
use Rattle.jk_block.specs.declared.encoding.plane.BlockPlane.{BlockPlane}
use Rattle.jk_block.specs.declared.word_place.WordPlace.{WordPlace}
use Rattle.jk_block.specs.encoding.Viewed.{seen, ShowsOnes}
use Rattle.jk_block.specs.Steps.{IsBitPlace}
use Rattle.jk_block.proofs.Rows.{first_is}
use Rattle.jk_block.specs.encoding.Slices.{signed, bit_in, IsSliced, IsClearBehind, IsSlicedTo, IsPlaneWord, slices_of}

-- a byte of a magnitude
on_byte : (a s k : ℕ) → on (a / 2 ^ s % 2 ^ 8) k ≡ (nat_lt k 8 && on a (s + k))
on_byte a s k = elim (cases_lt k 8) [
  | inl less ↦ on_mod (a / 2 ^ s) 8 k less ∙ on_shr_at a s (s + k) k refl ∙ sym (ap (λ b. b && on a (s + k)) (let e : nat_lt k 8 ≡ true = grind (arith, nat_tests) in e))
  | inr past ↦ on_above (a / 2 ^ s % 2 ^ 8) 8 k (omega arith) past ∙ sym (ap (λ b. b && on a (s + k)) (let e : nat_lt k 8 ≡ false = grind (arith, nat_tests) in e))
]

-- the bytes of the first n magnitudes from a place on
abbrev pub HasBytes : List ℤ → (start shift n word : ℕ) → Type 0
HasBytes vs start shift n word = (c i : ℕ) → c < 8 → i < 8 → on word (8 * c + i) ≡ (nat_lt c n && on (signed (slice_index_or vs (start + c) (pos 0))) (shift + i))

pub bytes_none : (vs : List ℤ) (start shift : ℕ) → HasBytes vs start shift 0 0
bytes_none vs start shift c i p q = on_zero (8 * c + i) ∙ (let e : false ≡ nat_lt c 0 = grind (arith, nat_tests) in ap (λ b. b && on (signed (slice_index_or vs (start + c) (pos 0))) (shift + i)) e)

pub bytes_more : (vs : List ℤ) (start shift n word byte : ℕ) → n < 8 → byte ≡ signed (slice_index_or vs (start + n) (pos 0)) / 2 ^ shift % 2 ^ 8 → HasBytes vs start shift n word
    → HasBytes vs start shift (n + 1) (bit_or word (byte * 2 ^ (8 * n) % 2 ^ 64))
bytes_more vs start shift n word byte few e h c i p q =
    on_or word (byte * 2 ^ (8 * n) % 2 ^ 64) (8 * c + i)
    ∙ gate (on word (8 * c + i)) (on (byte * 2 ^ (8 * n) % 2 ^ 64) (8 * c + i)) (on (a c) (shift + i)) (h c i p q)
    (on_shl_any byte (8 * n) 64 (8 * c + i) (omega arith) ∙ ap (λ b. nat_le (8 * n) (8 * c + i) && b) (ap (λ x. on x (8 * c + i - 8 * n)) e ∙ on_byte (a n) shift (8 * c + i - 8 * n)))
    (elim (cases_lt c n) [
      | inl before ↦ early (on word (8 * c + i)) (on (a n) (shift + (8 * c + i - 8 * n))) (on (a c) (shift + i)) before
      | inr not_before ↦ elim (cases_lt n c) [
        | inl after ↦ late (on word (8 * c + i)) (on (a n) (shift + (8 * c + i - 8 * n))) (on (a c) (shift + i)) after
        | inr not_after ↦
            let same : n ≡ c = omega arith in
            let bit : on (a n) (shift + (8 * c + i - 8 * n)) ≡ on (a c) (shift + i) = ap (λ k. on (a k) (shift + (8 * c + i - 8 * n))) same ∙ ap (λ k. on (a c) (shift + k)) (omega arith) in
            now (on word (8 * c + i)) (on (a n) (shift + (8 * c + i - 8 * n))) (on (a c) (shift + i)) same bit
      ]
    ])
  where
    a : ℕ → ℕ
    a k = signed (slice_index_or vs (start + k) (pos 0))

    early : (w b v : Bool) → c < n → ((nat_lt c n && v) || (nat_le (8 * n) (8 * c + i) && (nat_lt (8 * c + i - 8 * n) 8 && b))) ≡ (nat_lt c (n + 1) && v)
    early w b v l = grind (arith, nat_tests)

    late : (w b v : Bool) → n < c → ((nat_lt c n && v) || (nat_le (8 * n) (8 * c + i) && (nat_lt (8 * c + i - 8 * n) 8 && b))) ≡ (nat_lt c (n + 1) && v)
    late w b v l = grind (arith, nat_tests)

    now : (w b v : Bool) → n ≡ c → b ≡ v → ((nat_lt c n && v) || (nat_le (8 * n) (8 * c + i) && (nat_lt (8 * c + i - 8 * n) 8 && b))) ≡ (nat_lt c (n + 1) && v)
    now w b v e g = grind (arith, nat_tests)

    gate : (w x v : Bool) → w ≡ (nat_lt c n && v) → x ≡ (nat_le (8 * n) (8 * c + i) && (nat_lt (8 * c + i - 8 * n) 8 && on (a n) (shift + (8 * c + i - 8 * n))))
        → ((nat_lt c n && v) || (nat_le (8 * n) (8 * c + i) && (nat_lt (8 * c + i - 8 * n) 8 && on (a n) (shift + (8 * c + i - 8 * n))))) ≡ (nat_lt c (n + 1) && v) → (w || x) ≡ (nat_lt c (n + 1) && v)
    gate w x v e g k = ap (λ w. w || x) e ∙ ap (λ x. (nat_lt c n && v) || x) g ∙ k

-- a slice of a row
pub slice_shows : (s : BlockShape) (vs : List ℤ) (j y shift count start word : ℕ) → y < s.height → 8 * j < s.width → count ≡ min (s.width - 8 * j) 8 → start ≡ y * s.width + 8 * j → HasBytes vs start shift count word
    → (c i : ℕ) → c < 8 → i < 8 → on word (8 * c + i) ≡ bit_in s (shift + i) (value_in s vs) (8 * j + c) y
slice_shows s vs j y shift count start word high wide ec es h c i p q =
    h c i p q ∙ ap (λ k. nat_lt c count && on (signed (slice_index_or vs k (pos 0))) (shift + i)) (let e : start + c ≡ y * s.width + (8 * j + c) = omega (arith, es) in e)
    ∙ ap (λ b. b && on (signed (value_in s vs (8 * j + c) y)) (shift + i)) (let e : nat_lt c count ≡ (nat_lt (8 * j + c) s.width && nat_lt y s.height) = grind (arith, nat_tests) in e)

-- slices of which none has a bit
pub clear_none : (s : BlockShape) (n : ℕ) (slices : List ℕ) → slices ≡ replicate n 0 → IsClearBehind s slices
clear_none s n slices e j y c i hj hy p r past = ap (λ (ws : List ℕ). on (get_or ws (y * across s + j) 0) (8 * c + i)) e ∙ ap (λ w. on w (8 * c + i)) (none_at n (y * across s + j) 0) ∙ on_zero (8 * c + i)
  where
    none_at : (n k d : ℕ) → get_or (replicate n d) k d ≡ d
    none_at n k d = elim (cases_lt k n) [ inl less ↦ get_or-replicate n k d d less | inr past ↦ get_or_past (replicate n d) k d (let l = length-replicate n d in omega (arith, l)) ]

-- the bits of a row behind the last one
bit_behind : (s : BlockShape) (b : ℕ) (q : Field ℤ) (x y : ℕ) → s.height ≤ y → bit_in s b q x y ≡ false
bit_behind s b q x y past = gate (nat_lt x s.width) (on (signed (q x y)) b)
  where
    gate : (w v : Bool) → ((w && nat_lt y s.height) && v) ≡ false
    gate w v = grind (arith, nat_tests)

pub clear_sliced : (s : BlockShape) (shift : ℕ) (q : Field ℤ) (slices : List ℕ) → IsSliced s shift q slices → IsClearBehind s slices
clear_sliced s shift q slices h j y c i hj hy p r past = h j y c i hj hy p r ∙ bit_behind s (shift + i) q (8 * j + c) y past

pub sliced_none : (s : BlockShape) (shift n : ℕ) (q : Field ℤ) (slices : List ℕ) → n ≡ 0 → IsClearBehind s slices → IsSlicedTo s shift q n slices
sliced_none s shift n q slices e h = record { first = λ j y c i hj hy p r less. absurd (omega (arith, less, e)); behind = h }

pub sliced_more : (s : BlockShape) (shift : ℕ) (q : Field ℤ) (slices : List ℕ) (j y p word : ℕ) → j < across s → y < s.height → p ≡ y * across s + j → p < length slices
    → ((c i : ℕ) → c < 8 → i < 8 → on word (8 * c + i) ≡ bit_in s (shift + i) q (8 * j + c) y) → IsSlicedTo s shift q p slices → IsSlicedTo s shift q (p + 1) (set slices p word)
sliced_more s shift q slices j y p word hj high ep room shows h = record {
  first = λ j' y' c i hj' hy' a b less. elim (cases_lt (y' * across s + j') p) [
    | inl before ↦ apart j' y' c i (λ e. omega (arith, e, before)) ∙ h.first j' y' c i hj' hy' a b before
    | inr not_before ↦
        let e : p ≡ y' * across s + j' = omega (arith, less, not_before) in
        let one = same_from_place y' j' y j (across s) hj' hj (sym e ∙ ep) in
        ap (λ k. on (get_or (set slices p word) k 0) (8 * c + i)) (sym e) ∙ ap (λ w. on w (8 * c + i)) (get_or-set_same slices p word 0 room)
        ∙ shows c i a b ∙ ap (λ k. bit_in s (shift + i) q (8 * k + c) y) (sym one.1) ∙ ap (λ k. bit_in s (shift + i) q (8 * j' + c) k) (sym one.0)
  ];
  behind = λ j' y' c i hj' hy' a b past. apart j' y' c i (λ e. let one = same_from_place y' j' y j (across s) hj' hj (e ∙ ep) in let ey = one.0 in omega (arith, ey, past, high)) ∙ h.behind j' y' c i hj' hy' a b past;
}
  where
    apart : (j' y' c i : ℕ) → (y' * across s + j' ≡ p → ⊥) → on (get_or (set slices p word) (y' * across s + j') 0) (8 * c + i) ≡ on (get_or slices (y' * across s + j') 0) (8 * c + i)
    apart j' y' c i away = ap (λ w. on w (8 * c + i)) (get_or-set_other slices p (y' * across s + j') word 0 away)

pub sliced_all : (s : BlockShape) (shift n : ℕ) (q : Field ℤ) (slices : List ℕ) → n ≡ s.height * across s → IsSlicedTo s shift q n slices → IsSliced s shift q slices
sliced_all s shift n q slices e h j y c i hj hy p r = elim (cases_lt y s.height) [
  | inl less ↦ h.first j y c i hj hy p r (let m = mul-add-lt y (across s) j s.height less hj in omega (arith, m, e))
  | inr past ↦ h.behind j y c i hj hy p r past ∙ sym (bit_behind s (shift + i) q (8 * j + c) y past)
]

-- the bits of a slice, put where a row has its bits
pub row_bits : (x z b r n i : ℕ) → ((n i : ℕ) → n < 8 → i < 8 → on z (8 * n + i) ≡ (nat_eq i 0 && on x (8 * n + b))) → 1 ≤ r → r < 5 → n < 8 → i < 8 → on (z * 2 ^ r % 2 ^ 64) (8 * n + i) ≡ (nat_eq i r && on x (8 * n + b))
row_bits x z b r n i h some few p q = on_shl_any z r 64 (8 * n + i) (omega arith) ∙ elim (cases_lt i r) [
  | inl low ↦ below low (cases_lt 0 n)
  | inr high ↦
      ap (λ k. nat_le r (8 * n + i) && on z k) (let e : 8 * n + i - r ≡ 8 * n + (i - r) = omega (arith, high) in e)
      ∙ ap (λ v. nat_le r (8 * n + i) && v) (h n (i - r) p (omega arith))
      ∙ past (on x (8 * n + b)) high
]
  where
    past : (v : Bool) → r ≤ i → (nat_le r (8 * n + i) && (nat_eq (i - r) 0 && v)) ≡ (nat_eq i r && v)
    past v l = grind (arith, nat_tests)

    first : (u v : Bool) → i < r → n ≤ 0 → (nat_le r (8 * n + i) && u) ≡ (nat_eq i r && v)
    first u v l e = grind (arith, nat_tests)

    later : (u v : Bool) → i < r → (nat_le r (8 * n + i) && (nat_eq (8 + i - r) 0 && u)) ≡ (nat_eq i r && v)
    later u v l = grind (arith, nat_tests)

    below : i < r → (0 < n) ⊎ (n ≤ 0) → (nat_le r (8 * n + i) && on z (8 * n + i - r)) ≡ (nat_eq i r && on x (8 * n + b))
    below low (inr none) = first (on z (8 * n + i - r)) (on x (8 * n + b)) low none
    below low (inl more) =
        ap (λ k. nat_le r (8 * n + i) && on z k) (let e : 8 * n + i - r ≡ 8 * (n - 1) + (8 + i - r) = omega (arith, more, low, few) in e)
        ∙ ap (λ v. nat_le r (8 * n + i) && v) (h (n - 1) (8 + i - r) (omega arith) (omega (arith, low)))
        ∙ later (on x (8 * (n - 1) + b)) (on x (8 * n + b)) low

-- the four rows of a word
rows_of : (f : ℕ → Bool) (i : ℕ) → i < 8 → ((((nat_eq i 1 && f 1) || (nat_eq i 2 && f 2)) || (nat_eq i 3 && f 3)) || (nat_eq i 4 && f 4)) ≡ (of_rows i && f i)
rows_of f zero h = refl
rows_of f (suc zero) h = last (f 1)
  where
    last : (a : Bool) → ((((true && a) || false) || false) || false) ≡ (true && a)
    last a = grind (arith, nat_tests)
rows_of f (suc (suc zero)) h = last (f 2)
  where
    last : (a : Bool) → (((false || (true && a)) || false) || false) ≡ (true && a)
    last a = grind (arith, nat_tests)
rows_of f (suc (suc (suc zero))) h = last (f 3)
  where
    last : (a : Bool) → (((false || false) || (true && a)) || false) ≡ (true && a)
    last a = grind (arith, nat_tests)
rows_of f (suc (suc (suc (suc zero)))) h = refl
rows_of f (suc (suc (suc (suc (suc i))))) h = more i (f 1) (f 2) (f 3) (f 4) (f (suc (suc (suc (suc (suc i)))))) refl
  where
    more : (i : ℕ) (a b c d e : Bool) {k : ℕ} → k ≡ suc (suc (suc (suc (suc i)))) → ((((nat_eq k 1 && a) || (nat_eq k 2 && b)) || (nat_eq k 3 && c)) || (nat_eq k 4 && d)) ≡ (of_rows k && e)
    more i a b c d e h = grind (arith, nat_tests)

-- the slices of a word, and of a row
product : (a b c d : ℕ) → a ≤ c → b ≤ d → a * b ≤ c * d
product a b c d h g = let e = mul-le-mul_right b h in let f = mul-le-mul_left c g in omega (arith, e, f)

slices_fit_by : (w h a t : ℕ) → w ≤ 1024 → h ≤ 1024 → w * h ≤ 4096 → 8 * a ≤ w + 7 → 4 * t ≤ h + 3 → 4 * t * a ≤ 1032
slices_fit_by w h a t wl hl area across down = elim (cases_lt a 2) [
  | inl one ↦ let m = product (4 * t) a 1027 1 (omega arith) (omega arith) in omega (arith, m)
  | inr more ↦
      let both = product (8 * a) (4 * t) (w + 7) (h + 3) across down in
      let nine = product 9 h w h (omega arith) (omega arith) in
      let high : h ≤ 455 = omega (arith, nine, area) in
      elim (cases_lt h 65) [
        | inl flat ↦ omega (arith, both, area)
        | inr tall ↦
            let thin : w ≤ 63 = elim (cases_lt w 64) [ inl less ↦ omega arith | inr wide ↦ let p = product 64 65 w h wide tall in absurd (omega (arith, p, area)) ] in
            omega (arith, both, area, high, thin)
      ]
]

pub slices_fit : (s : BlockShape) → IsSized s → slices_of s ≤ 1032
slices_fit s z = slices_fit_by s.width s.height (across s) (stripes s) z.narrow z.low z.area (omega arith) (omega arith)

pub slice_room : (s : BlockShape) (j i r a : ℕ) → a ≡ across s → j < across s → i < stripes s → r < 4 → 4 * i * a + j + r * a < slices_of s
slice_room s j i r a e hj hi hr =
    subst (λ a. 4 * i * a + j + r * a < slices_of s) (sym e) (room (across s) (stripes s) j i r hj hi hr)
  where
    room : (a t j i r : ℕ) → j < a → i < t → r < 4 → 4 * i * a + j + r * a < 4 * t * a
    room a t j i r hj hi hr =
        let m = mul-add-lt (4 * i + r) a j (4 * t) (omega arith) hj in
        omega (arith, m)

pub row_room : (s : BlockShape) (j y a : ℕ) → a ≡ across s → j < across s → y < s.height → y * a + j < slices_of s
row_room s j y a e hj hy =
    let room = slice_room s j (y / 4) (y % 4) a e hj (omega arith) (omega arith) in
    subst (λ n. n * a + j < slices_of s) (let e : 4 * (y / 4) + y % 4 ≡ y = omega arith in e) (omega (arith, room))

pub ones_at : (s : BlockShape) (slices : List ℕ) (j i bit shift : ℕ) (q : Field ℤ) (z1 z2 z3 z4 a f : ℕ) → a ≡ across s → f ≡ 4 * i * a + j → j < across s → i < stripes s → bit < 8
    → ((n k : ℕ) → n < 8 → k < 8 → on z1 (8 * n + k) ≡ (nat_eq k 0 && on (get_or slices f 0) (8 * n + bit)))
    → ((n k : ℕ) → n < 8 → k < 8 → on z2 (8 * n + k) ≡ (nat_eq k 0 && on (get_or slices (f + a) 0) (8 * n + bit)))
    → ((n k : ℕ) → n < 8 → k < 8 → on z3 (8 * n + k) ≡ (nat_eq k 0 && on (get_or slices (f + 2 * a) 0) (8 * n + bit)))
    → ((n k : ℕ) → n < 8 → k < 8 → on z4 (8 * n + k) ≡ (nat_eq k 0 && on (get_or slices (f + 3 * a) 0) (8 * n + bit)))
    → IsSliced s shift q slices
    → IsPlaneWord s (shift + bit) q j i (bit_or (bit_or (bit_or (z1 * 2 ^ 1 % 2 ^ 64) (z2 * 2 ^ 2 % 2 ^ 64)) (z3 * 2 ^ 3 % 2 ^ 64)) (z4 * 2 ^ 4 % 2 ^ 64))
ones_at s slices j i bit shift q z1 z2 z3 z4 a f ea ef hj hi hb h1 h2 h3 h4 sliced m l =
    ap (on word) (let e : m ≡ 8 * c + k = omega arith in e)
    ∙ on_or (bit_or (bit_or (z1 * 2 ^ 1 % 2 ^ 64) (z2 * 2 ^ 2 % 2 ^ 64)) (z3 * 2 ^ 3 % 2 ^ 64)) (z4 * 2 ^ 4 % 2 ^ 64) (8 * c + k)
    ∙ ap (λ b. b || on (z4 * 2 ^ 4 % 2 ^ 64) (8 * c + k)) (on_or (bit_or (z1 * 2 ^ 1 % 2 ^ 64) (z2 * 2 ^ 2 % 2 ^ 64)) (z3 * 2 ^ 3 % 2 ^ 64) (8 * c + k)
    ∙ ap (λ b. b || on (z3 * 2 ^ 3 % 2 ^ 64) (8 * c + k)) (on_or (z1 * 2 ^ 1 % 2 ^ 64) (z2 * 2 ^ 2 % 2 ^ 64) (8 * c + k)))
    ∙ four (row_is z1 1 f h1 (omega arith) (omega arith) ((let e : f ≡ (4 * i + (1 - 1)) * a + j = omega (arith, ef) in e) ∙ ap (λ a. (4 * i + (1 - 1)) * a + j) ea))
    (row_is z2 2 (f + a) h2 (omega arith) (omega arith) ((let e : f + a ≡ (4 * i + (2 - 1)) * a + j = omega (arith, ef) in e) ∙ ap (λ a. (4 * i + (2 - 1)) * a + j) ea))
    (row_is z3 3 (f + 2 * a) h3 (omega arith) (omega arith) ((let e : f + 2 * a ≡ (4 * i + (3 - 1)) * a + j = omega (arith, ef) in e) ∙ ap (λ a. (4 * i + (3 - 1)) * a + j) ea))
    (row_is z4 4 (f + 3 * a) h4 (omega arith) (omega arith) ((let e : f + 3 * a ≡ (4 * i + (4 - 1)) * a + j = omega (arith, ef) in e) ∙ ap (λ a. (4 * i + (4 - 1)) * a + j) ea))
    ∙ rows_of bits k (omega arith)
    ∙ last (of_rows k) refl
  where
    c : ℕ
    c = m / 8

    k : ℕ
    k = m % 8

    word : ℕ
    word = bit_or (bit_or (bit_or (z1 * 2 ^ 1 % 2 ^ 64) (z2 * 2 ^ 2 % 2 ^ 64)) (z3 * 2 ^ 3 % 2 ^ 64)) (z4 * 2 ^ 4 % 2 ^ 64)

    bits : ℕ → Bool
    bits r = bit_in s (shift + bit) q (8 * j + c) (4 * i + (r - 1))

    row_is : (z r p : ℕ) → ((n k : ℕ) → n < 8 → k < 8 → on z (8 * n + k) ≡ (nat_eq k 0 && on (get_or slices p 0) (8 * n + bit))) → 1 ≤ r → r < 5 → p ≡ (4 * i + (r - 1)) * across s + j
        → on (z * 2 ^ r % 2 ^ 64) (8 * c + k) ≡ (nat_eq k r && bits r)
    row_is z r p h some few e =
        row_bits (get_or slices p 0) z bit r c k h some few (omega arith) (omega arith)
        ∙ ap (λ b. nat_eq k r && b) (ap (λ p. on (get_or slices p 0) (8 * c + bit)) e ∙ sliced j (4 * i + (r - 1)) c bit hj (omega arith) (omega arith) hb)

    four : {a b d e a' b' d' e' : Bool} → a ≡ a' → b ≡ b' → d ≡ d' → e ≡ e' → (((a || b) || d) || e) ≡ (((a' || b') || d') || e')
    four p q r s = cc

    last : (b : Bool) → of_rows k ≡ b → (of_rows k && bits k) ≡ (of_rows k && bit_in s (shift + bit) q (column j m) (row i m))
    last false e = ap (λ b. b && bits k) e ∙ sym (ap (λ b. b && bit_in s (shift + bit) q (column j m) (row i m)) e)
    last true e = let between = rows_between k e in ap (λ y. of_rows k && bit_in s (shift + bit) q (column j m) y) (let e : 4 * i + (k - 1) ≡ row i m = omega (arith, between) in e)

-- the bits of a magnitude below its sign, and the sign
pub on_magnitude : (v : ℤ) (b : ℕ) → b < 31 → on (signed v) b ≡ on (unsigned_abs v) b
on_magnitude v b h = on_or (unsigned_abs v) (cond (is_negative v) 1 0 * 2 ^ 31 % 2 ^ 32) b ∙ ap (λ r. on (unsigned_abs v) b || r) (low (is_negative v)) ∙ none (on (unsigned_abs v) b)
  where
    none : (a : Bool) → (a || false) ≡ a
    none a = grind (arith, nat_tests)

    low : (n : Bool) → on (cond n 1 0 * 2 ^ 31 % 2 ^ 32) b ≡ false
    low n = on_shl_low (cond n 1 0) 31 32 b h (omega arith)

pub on_sign : (v : ℤ) → unsigned_abs v < 2 ^ 31 → on (signed v) 31 ≡ is_negative v
unfolding on
on_sign v h = on_or (unsigned_abs v) (cond (is_negative v) 1 0 * 2 ^ 31 % 2 ^ 32) 31 ∙ ap (λ r. r || on (cond (is_negative v) 1 0 * 2 ^ 31 % 2 ^ 32) 31) (on_above (unsigned_abs v) 31 31 h (omega arith)) ∙ top (is_negative v)
  where
    top : (n : Bool) → (false || on (cond n 1 0 * 2 ^ 31 % 2 ^ 32) 31) ≡ n
    top true = refl
    top false = refl

-- the word of a block at a bit-plane
pub ones_seen : (v : BlockPlane) (at : WordPlace) (word : ℕ) → v.plane < 23 → IsPlaneWord v.shape (v.plane / 8 * 8 + v.plane % 8) (value_in v.shape v.values.now) at.word at.stripe word → ShowsOnes v at.word at.stripe word
unfolding plane_at on
ones_seen v at word shallow h m l = h m l ∙ ap (λ b. of_rows (m % 8) && b) (by (is_inside v.shape (column at.word m) (row at.stripe m)))
  where
    value : ℤ
    value = value_in v.shape v.values.now (column at.word m) (row at.stripe m)

    by : (i : Bool) → (i && on (signed value) (v.plane / 8 * 8 + v.plane % 8)) ≡ is_one (cond i (unsigned_abs value / 2 ^ v.plane) 0)
    by true = ap (λ b. on (signed value) b) (let e : v.plane / 8 * 8 + v.plane % 8 ≡ v.plane = omega arith in e) ∙ on_magnitude value v.plane (omega (arith, shallow))
    by false = refl

pub one_at : (v : BlockPlane) (at : WordPlace) (k word : ℕ) → IsBitPlace v.shape at k → ShowsOnes v at.word at.stripe word → on word k ≡ is_one ((seen v).magnitude (column at.word k) (row at.stripe k))
one_at v at k word place h = h k place.within ∙ ap (λ b. b && is_one ((seen v).magnitude (column at.word k) (row at.stripe k))) place.on_row

-- the place of a row of a column that begins at bit k
pub row_place : (s : BlockShape) (at : WordPlace) (k f : ℕ) → IsBitPlace s at k → k % 8 ≡ 1 → f < 4 → 4 * at.stripe + 4 ≤ s.height → IsBitPlace s at (k + f)
row_place s at k f place first few rows =
    let within = place.within in
    let narrow = (and_parts (nat_lt (column at.word k) s.width) (nat_lt (row at.stripe k) s.height) place.inside).0 in
    let same : column at.word (k + f) ≡ column at.word k = omega (arith, first, few) in
    let r : (k + f) % 8 ≡ 1 + f = omega (arith, first, few) in
    let y : row at.stripe (k + f) < s.height = omega (arith, first, few, rows) in
    record {
      within = omega (arith, within, first, few);
      on_row = ap of_rows r ∙ on_rows f few;
      inside = both (nat_lt (column at.word (k + f)) s.width) (nat_lt (row at.stripe (k + f)) s.height) (ap (λ x. nat_lt x s.width) same ∙ narrow) (lt_true (row at.stripe (k + f)) s.height y);
    }
  where
    both : (a b : Bool) → a ≡ true → b ≡ true → (a && b) ≡ true
    both a b e g = cc

    lt_true : (a b : ℕ) → a < b → nat_lt a b ≡ true
    lt_true a b h = grind (arith, nat_tests)

    on_rows : (r : ℕ) → r < 4 → of_rows (1 + r) ≡ true
    on_rows r h = grind (arith, nat_tests)

-- its bit
pub run_bit : (v : BlockPlane) (at : WordPlace) (k r word : ℕ) → k < 64 → k % 8 ≡ 1 → r < 4 → ShowsOnes v at.word at.stripe word → on word (k + r) ≡ is_one ((seen v).magnitude (column at.word k) (4 * at.stripe + r))
run_bit v at k r word within first few h =
    h (k + r) (omega (arith, within, first, few))
    ∙ ap (λ b. b && is_one ((seen v).magnitude (column at.word (k + r)) (row at.stripe (k + r)))) (let e : (k + r) % 8 ≡ 1 + r = omega (arith, first, few) in ap of_rows e ∙ on_rows r few)
    ∙ ap (λ x. is_one ((seen v).magnitude x (row at.stripe (k + r)))) (let e : column at.word (k + r) ≡ column at.word k = omega (arith, first, few) in e)
    ∙ ap (λ y. is_one ((seen v).magnitude (column at.word k) y)) (let e : row at.stripe (k + r) ≡ 4 * at.stripe + r = omega (arith, first, few) in e)
  where
    on_rows : (r : ℕ) → r < 4 → of_rows (1 + r) ≡ true
    on_rows r h = grind (arith, nat_tests)

pub run_row : (v : BlockPlane) (at : WordPlace) (k word f : ℕ) → k < 64 → k % 8 ≡ 1 → ShowsOnes v at.word at.stripe word
    → ((a : Field ℕ) (x i : ℕ) → on word (k + 0) ≡ is_one (a x (4 * i + 0)) → on word (k + 1) ≡ is_one (a x (4 * i + 1)) → on word (k + 2) ≡ is_one (a x (4 * i + 2)) → on word (k + 3) ≡ is_one (a x (4 * i + 3)) → f ≡ first_one a x i)
    → f ≡ first_one (seen v).magnitude (column at.word k) at.stripe
run_row v at k word f within first h value =
    value (seen v).magnitude (column at.word k) at.stripe (run_bit v at k 0 word within first (omega arith) h) (run_bit v at k 1 word within first (omega arith) h) (run_bit v at k 2 word within first (omega arith) h) (run_bit v at k 3 word within first (omega arith) h)

-- the lowest of four bits, or the one behind them
low_four : (r : ℕ) → r < 4 → (on 0xF r ≡ true) × (on 0x10 r ≡ false)
unfolding on
low_four zero h = (refl, refl)
low_four (suc zero) h = (refl, refl)
low_four (suc (suc zero)) h = (refl, refl)
low_four (suc (suc (suc zero))) h = (refl, refl)
low_four (suc (suc (suc (suc r)))) h = absurd (omega (arith, h))

fifth : on 0x10 4 ≡ true
unfolding on
fifth = refl

pub record LowestRow (ones k : ℕ) (z : ℕ) : Type 0 where
  pub few : z ≤ 4
  pub below : (r : ℕ) → r < 4 → r < z → on ones (k + r) ≡ false
  pub here : z < 4 → on ones (k + z) ≡ true

pub lowest_row : (ones k : ℕ) → LowestRow ones k (trailing_zeros w64 (bit_or (bit_and (ones / 2 ^ k) 0xF) 0x10))
lowest_row ones k = record {
  few = few;
  below = λ r h l. sym (at r h) ∙ low.2 r l;
  here = λ l. sym (at z l) ∙ low.1;
}
  where
    w : ℕ
    w = bit_or (bit_and (ones / 2 ^ k) 0xF) 0x10

    z : ℕ
    z = trailing_zeros w64 w

    at_four : on w 4 ≡ true
    at_four = on_or (bit_and (ones / 2 ^ k) 0xF) 0x10 4 ∙ ap (λ b. on (bit_and (ones / 2 ^ k) 0xF) 4 || b) fifth ∙ right (on (bit_and (ones / 2 ^ k) 0xF) 4)
      where
        right : (a : Bool) → (a || true) ≡ true
        right true = refl
        right false = refl

    small : w < 2 ^ 64
    small = or_lt 64 (bit_and (ones / 2 ^ k) 0xF) 0x10 (let e = and_le_r (ones / 2 ^ k) 0xF in omega (arith, e)) (omega arith)

    some : 0 < w
    some = elim (cases_lt 0 w) [
      | inl more ↦ more
      | inr none ↦ (let c : true ≡ false = sym at_four ∙ ap (λ w. on w 4) (let e : w ≡ 0 = omega (arith, none) in e) ∙ on_zero 4 in absurd cc)
    ]

    low : (z < 64) × (on w z ≡ true) × ((r : ℕ) → r < z → on w r ≡ false)
    low = lowest w some small

    few : z ≤ 4
    few = elim (cases_lt 4 z) [
      | inl more ↦ (let c : true ≡ false = sym at_four ∙ low.2 4 more in absurd cc)
      | inr most ↦ most
    ]

    at : (r : ℕ) → r < 4 → on w r ≡ on ones (k + r)
    at r h =
        let f = low_four r h in
        on_or (bit_and (ones / 2 ^ k) 0xF) 0x10 r ∙ gate (on ones (k + r)) (on 0xF r) (on 0x10 r) (on_and (ones / 2 ^ k) 0xF r ∙ ap (λ b. b && on 0xF r) (on_shr_at ones k (k + r) r refl)) f.0 f.1
      where
        gate : (a b d : Bool) {e : Bool} → e ≡ (a && b) → b ≡ true → d ≡ false → (e || d) ≡ a
        gate a b d {e} g h i = grind (arith, nat_tests)

pub row_is_first : (ones k : ℕ) (a : Field ℕ) (x i : ℕ) → on ones (k + 0) ≡ is_one (a x (4 * i + 0)) → on ones (k + 1) ≡ is_one (a x (4 * i + 1)) → on ones (k + 2) ≡ is_one (a x (4 * i + 2)) → on ones (k + 3) ≡ is_one (a x (4 * i + 3))
    → trailing_zeros w64 (bit_or (bit_and (ones / 2 ^ k) 0xF) 0x10) ≡ first_one a x i
row_is_first ones k a x i e0 e1 e2 e3 =
    let l = lowest_row ones k in
    sym (first_is a x i (trailing_zeros w64 (bit_or (bit_and (ones / 2 ^ k) 0xF) 0x10)) l.few (λ r h. sym (row r (let f = l.few in omega (arith, h, f))) ∙ l.below r (let f = l.few in omega (arith, h, f)) h) (λ h. sym (row (trailing_zeros w64 (bit_or (bit_and (ones / 2 ^ k) 0xF) 0x10)) h) ∙ l.here h))
  where
    row : (r : ℕ) → r < 4 → on ones (k + r) ≡ is_one (a x (4 * i + r))
    row zero h = e0
    row (suc zero) h = e1
    row (suc (suc zero)) h = e2
    row (suc (suc (suc zero))) h = e3
    row (suc (suc (suc (suc r)))) h = absurd (omega (arith, h))
