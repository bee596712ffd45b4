-- The words of a block and their places.
use Rattle.std.proofs.Common.{◌≡◌, ℕ, ◌+◌, ◌-◌, ◌*◌, ◌/◌, ◌%◌, ◌^◌, ◌<◌, ◌≤◌, Bool, true, false, refl, ap, ◌∙◌, inl, inr, arith}
use Rattle.std.specs.Prelude.{◌&&◌, nat_le, nat_lt}
use Rattle.std.specs.Int.RustNames.{bit_and}
use Rattle.std.proofs.lemmas.Bool.{cases_lt}
use Rattle.std.proofs.lemmas.Bool.Decides.{nat_tests}
use Rattle.std.proofs.lemmas.Nat.{mul-add-lt, same_from_place}
use Rattle.std.proofs.Math.Nat.{mul_comm, mul-le-mul_left, mul-le-mul_right}
use Rattle.jk_scan.specs.declared.shape.BlockShape.{BlockShape}
use Rattle.jk_scan.specs.Bits.{on}
use Rattle.jk_scan.specs.Neighbours.{is_inside}
use Rattle.jk_scan.specs.Moments.{stripes}
use Rattle.jk_scan.specs.Words.{of_rows, bordered}
use Rattle.jk_scan.specs.Flags.{IsSized, across, word_at, words_shown}
use Rattle.jk_scan.proofs.BitLaws.{on_and, on_shl_any, on_shr_at, on_above}
use Rattle.jk_scan.proofs.Patterns.{all_below, all_at, same, same_is}

product : (a b c d : ℕ) → a ≤ c → b ≤ d → a * b ≤ c * d
product a b c d h g = let e = mul-le-mul_right b h in let f = mul-le-mul_left c g in omega (arith, e, f)

pub words_fit : (s : BlockShape) → IsSized s → (across s + 2) * (stripes s + 2) ≤ 774
words_fit s z = by s.width s.height (across s) (stripes s) z.narrow z.low z.area (omega arith) (omega arith)
  where
    by : (w h a t : ℕ) → w ≤ 1024 → h ≤ 1024 → w * h ≤ 4096 → 8 * a ≤ w + 7 → 4 * t ≤ h + 3 → (a + 2) * (t + 2) ≤ 774
    by w h a t wl hl area across down = elim (cases_lt a 2) [
      | inl one ↦ let m = product (a + 2) (t + 2) 3 258 (omega arith) (omega arith) in omega (arith, m)
      | inr more ↦
          let both = product (8 * a) (4 * t) (w + 7) (h + 3) across down in
          let nine = product 9 h w h (omega arith) (omega arith) in
          let high : h ≤ 455 = omega (arith, nine, area) in
          elim (cases_lt h 65) [
            | inl flat ↦ omega (arith, both, area)
            | inr tall ↦
                let thin : w ≤ 63 = elim (cases_lt w 64) [ inl less ↦ omega arith | inr wide ↦ let p = product 64 65 w h wide tall in absurd (omega (arith, p, area)) ] in
                omega (arith, both, area, high, thin)
          ]
    ]

pub word_fits : (s : BlockShape) (j i : ℕ) → IsSized s → j < across s + 2 → i < stripes s + 2 → word_at s j i < 774
unfolding word_at
word_fits s j i z hj hi =
    let m = mul-add-lt i (across s + 2) j (stripes s + 2) hi hj in
    let c = mul_comm (across s + 2) (stripes s + 2) in
    let f = words_fit s z in
    omega (arith, m, c, f)

pub word_within : (s : BlockShape) (j i : ℕ) → j < across s + 2 → i < stripes s + 2 → word_at s j i < words_shown s
unfolding word_at
word_within s j i hj hi =
    let m = mul-add-lt i (across s + 2) j (stripes s + 2) hi hj in
    let c = mul_comm (across s + 2) (stripes s + 2) in
    omega (arith, m, c)

pub one_word : (s : BlockShape) (j i j' i' : ℕ) → j < across s + 2 → j' < across s + 2 → word_at s j i ≡ word_at s j' i' → (i ≡ i') × (j ≡ j')
unfolding word_at
one_word s j i j' i' h h' e = same_from_place i j i' j' (across s + 2) h h' e

all_ones : (k : ℕ) → k < 64 → on 0xFFFF_FFFF_FFFF_FFFF k ≡ true
unfolding all_below on
all_ones k h = all_at 64 (on 0xFFFF_FFFF_FFFF_FFFF) refl k h

pub low_ones : (n k : ℕ) → n ≤ 64 → on (0xFFFF_FFFF_FFFF_FFFF / 2 ^ (64 - n)) k ≡ nat_lt k n
low_ones n k h = elim (cases_lt k n) [
  | inl less ↦ on_shr_at 0xFFFF_FFFF_FFFF_FFFF (64 - n) (64 - n + k) k refl ∙ all_ones (64 - n + k) (omega arith) ∙ (let e : true ≡ nat_lt k n = grind (arith, nat_tests) in e)
  | inr past ↦ on_shr_at 0xFFFF_FFFF_FFFF_FFFF (64 - n) (64 - n + k) k refl ∙ on_above 0xFFFF_FFFF_FFFF_FFFF 64 (64 - n + k) (omega arith) (omega arith) ∙ (let e : false ≡ nat_lt k n = grind (arith, nat_tests) in e)
]

pub inside_at : (s : BlockShape) (j i rows columns r : ℕ) → 8 * j < s.width → 4 * i < s.height → rows ≤ 4 → columns ≤ 8 → (rows ≡ 4 → 4 * i + 4 ≤ s.height) → (rows < 4 → 4 * i + rows ≡ s.height)
    → (columns ≡ 8 → 8 * j + 8 ≤ s.width) → (columns < 8 → 8 * j + columns ≡ s.width)
    → ((c b : ℕ) → c < 8 → b < 8 → on r (8 * c + b) ≡ (nat_le 1 b && nat_le b rows))
    → (c b : ℕ) → c < 8 → b < 8 → on (bit_and r (0xFFFF_FFFF_FFFF_FFFF / 2 ^ (64 - 8 * columns))) (8 * c + b) ≡ (of_rows b && bordered (is_inside s) (8 * (j + 1) + c) (4 * (i + 1) + b - 1))
inside_at s j i rows columns r wide high few narrow full short whole cut hr c b p q =
    on_and r (0xFFFF_FFFF_FFFF_FFFF / 2 ^ (64 - 8 * columns)) (8 * c + b)
    ∙ gate (on r (8 * c + b)) (on (0xFFFF_FFFF_FFFF_FFFF / 2 ^ (64 - 8 * columns)) (8 * c + b)) (hr c b p q) (low_ones (8 * columns) (8 * c + b) (omega arith))
    (elim (cases_lt columns 8) [ inl less ↦ let e = cut less in column_less e | inr all ↦ let e = whole (omega arith) in column_all e (omega arith) ])
    (elim (cases_lt rows 4) [ inl less ↦ let e = short less in row_less e | inr all ↦ let e = full (omega arith) in row_all e (omega arith) ])
  where
    column_less : 8 * j + columns ≡ s.width → nat_lt (8 * c + b) (8 * columns) ≡ nat_lt (8 * (j + 1) + c - 8) s.width
    column_less e = grind (arith, nat_tests)

    column_all : 8 * j + 8 ≤ s.width → columns ≡ 8 → nat_lt (8 * c + b) (8 * columns) ≡ nat_lt (8 * (j + 1) + c - 8) s.width
    column_all e g = grind (arith, nat_tests)

    row_less : 4 * i + rows ≡ s.height → (nat_le 1 b && nat_le b rows) ≡ (of_rows b && nat_lt (4 * (i + 1) + b - 1 - 4) s.height)
    row_less e = grind (arith, nat_tests)

    row_all : 4 * i + 4 ≤ s.height → rows ≡ 4 → (nat_le 1 b && nat_le b rows) ≡ (of_rows b && nat_lt (4 * (i + 1) + b - 1 - 4) s.height)
    row_all e g = grind (arith, nat_tests)

    between : of_rows b ≡ true → 1 ≤ b
    between h = grind (arith, nat_tests)

    joined : (x y x' y' row eight four w h : Bool) → x ≡ x' → y ≡ y' → y' ≡ w → x' ≡ (row && h) → eight ≡ true → (row ≡ true → four ≡ true) → (x && y) ≡ (row && (eight && (four && (w && h))))
    joined x y x' y' true eight four w h a b c d e f = let f0 = f refl in grind (arith, nat_tests)
    joined x y x' y' false eight four w h a b c d e f = grind (arith, nat_tests)

    gate : (x y : Bool) → x ≡ (nat_le 1 b && nat_le b rows) → y ≡ nat_lt (8 * c + b) (8 * columns) → nat_lt (8 * c + b) (8 * columns) ≡ nat_lt (8 * (j + 1) + c - 8) s.width
        → (nat_le 1 b && nat_le b rows) ≡ (of_rows b && nat_lt (4 * (i + 1) + b - 1 - 4) s.height)
        → (x && y) ≡ (of_rows b && (nat_le 8 (8 * (j + 1) + c) && (nat_le 4 (4 * (i + 1) + b - 1) && (nat_lt (8 * (j + 1) + c - 8) s.width && nat_lt (4 * (i + 1) + b - 1 - 4) s.height))))
    gate x y e g h k =
        let u : nat_le 8 (8 * (j + 1) + c) ≡ true = grind (arith, nat_tests) in
        joined x y (nat_le 1 b && nat_le b rows) (nat_lt (8 * c + b) (8 * columns)) (of_rows b) (nat_le 8 (8 * (j + 1) + c)) (nat_le 4 (4 * (i + 1) + b - 1)) (nat_lt (8 * (j + 1) + c - 8) s.width) (nat_lt (4 * (i + 1) + b - 1 - 4) s.height) e g h k u
        (λ row. let r = between row in grind (arith, nat_tests, r))

all_but_first : (k : ℕ) → k < 64 → on 0xFFFF_FFFF_FFFF_FFFE k ≡ nat_lt 0 k
unfolding all_below on same
all_but_first k h = same_is (on 0xFFFF_FFFF_FFFF_FFFE k) (nat_lt 0 k) (all_at 64 (λ k. same (on 0xFFFF_FFFF_FFFF_FFFE k) (nat_lt 0 k)) refl k h)

-- the bits above a bit
pub high_ones : (s k : ℕ) → k < 64 → on (0xFFFF_FFFF_FFFF_FFFE * 2 ^ s % 2 ^ 64) k ≡ nat_lt s k
high_ones s k h = on_shl_any 0xFFFF_FFFF_FFFF_FFFE s 64 k h ∙ ap (λ b. nat_le s k && b) (all_but_first (k - s) (omega arith)) ∙ (let e : (nat_le s k && nat_lt 0 (k - s)) ≡ nat_lt s k = grind (arith, nat_tests) in e)
