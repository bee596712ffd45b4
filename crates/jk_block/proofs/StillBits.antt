-- The still columns of a word before and after a step of the cleanup pass.
use Rattle.std.proofs.Common.{◌≡◌, ℕ, ◌+◌, ◌-◌, ◌*◌, ◌/◌, ◌%◌, ◌^◌, ◌<◌, ◌≤◌, Bool, true, false, refl, sym, ap, ◌∙◌, inl, inr, arith}
use Rattle.std.specs.Prelude.{◌&&◌, nat_eq, nat_le, nat_lt}
use Rattle.std.specs.Int.RustNames.{bit_and}
use Rattle.std.proofs.lemmas.Bool.{cases_lt}
use Rattle.std.proofs.lemmas.Bool.Decides.{nat_tests}
use Rattle.jk_scan.specs.declared.shape.BlockShape.{BlockShape}
use Rattle.jk_scan.specs.Bits.{on}
use Rattle.jk_scan.specs.Neighbours.{Field, seen_from}
use Rattle.jk_scan.specs.Words.{Truths, of_rows, bordered, IsQuietFrom}
use Rattle.jk_scan.specs.WordPlaces.{column, row, also}
use Rattle.jk_scan.proofs.Laws.{same_field, rest_by, on_and, high_ones}
use Rattle.jk_block.proofs.Stills.{is_still, is_whole, still_behind}
use Rattle.jk_block.proofs.WordBits.{le_true}

is_one : (a : ℕ) → nat_eq a 1 ≡ true → a ≡ 1
is_one a h = grind (arith, nat_tests)

lt_true : (a b : ℕ) → a < b → nat_lt a b ≡ true
lt_true a b h = grind (arith, nat_tests)

still_same : (s s' : BlockShape) (f g : Field Bool) (j i c : ℕ) → s' ≡ s → ((x y : ℕ) → g x y ≡ f x y) → is_still s' g j i c ≡ is_still s f j i c
still_same s s' f g j i c e h = ap (λ (s : BlockShape). is_still s g j i c) e ∙ ap (λ (f : Field Bool). is_still s f j i c) (same_field g f h)

-- which bits of the still columns are set, by columns: those behind the one that z lies in
pub by_columns : (w z e : ℕ) (g : ℕ → Bool) → z ≤ e → e < 8 * (z / 8) + 7 → ((m : ℕ) → m < 64 → nat_eq (m % 8) 1 ≡ false → on w m ≡ false) → ((c : ℕ) → c ≤ z / 8 → c < 8 → on w (8 * c + 1) ≡ false)
    → ((c : ℕ) → z / 8 + 1 ≤ c → c < 8 → on w (8 * c + 1) ≡ g c) → (m : ℕ) → m < 64 → on w m ≡ (nat_eq (m % 8) 1 && (nat_le (e + 1) (m - 1) && g (m / 8)))
by_columns w z e g h near other early late m l = by (nat_eq (m % 8) 1) refl
  where
    none : (b : Bool) → (b && false) ≡ false
    none true = refl
    none false = refl

    by : (b : Bool) → nat_eq (m % 8) 1 ≡ b → on w m ≡ (nat_eq (m % 8) 1 && (nat_le (e + 1) (m - 1) && g (m / 8)))
    by false d = other m l d ∙ sym (ap (λ b. b && (nat_le (e + 1) (m - 1) && g (m / 8))) d)
    by true d =
        let one = is_one (m % 8) d in
        elim (cases_lt (z / 8) (m / 8)) [
          | inl less ↦
              ap (on w) (let q : m ≡ 8 * (m / 8) + 1 = omega (arith, one) in q) ∙ late (m / 8) (omega arith) (omega arith)
              ∙ sym (ap (λ b. b && (nat_le (e + 1) (m - 1) && g (m / 8))) d ∙ ap (λ b. b && g (m / 8)) (le_true (e + 1) (m - 1) (omega (arith, one))))
          | inr not_less ↦
              ap (on w) (let q : m ≡ 8 * (m / 8) + 1 = omega (arith, one) in q) ∙ early (m / 8) not_less (omega arith)
              ∙ sym (ap (λ b. b && (nat_le (e + 1) (m - 1) && g (m / 8))) d ∙ ap (λ b. b && g (m / 8)) (not_le (e + 1) (m - 1) (omega (arith, one))))
        ]
      where
        not_le : (a b : ℕ) → b < a → nat_le a b ≡ false
        not_le a b h = grind (arith, nat_tests)

-- still columns before and after a step at z
pub record StillBits (s : BlockShape) (f : Field Bool) (j i w z : ℕ) : Type 0 where
  pub other : (m : ℕ) → m < 64 → nat_eq (m % 8) 1 ≡ false → on w m ≡ false
  pub early : (c : ℕ) → c ≤ z / 8 → c < 8 → on w (8 * c + 1) ≡ false
  pub late : (c : ℕ) → z / 8 + 1 ≤ c → c < 8 → on w (8 * c + 1) ≡ is_still s f j i c

pub bits_from : (s : BlockShape) (f : Field Bool) (j i w z n : ℕ) → n ≤ z → ((m : ℕ) → m < 64 → on w m ≡ (nat_eq (m % 8) 1 && (nat_le n (m - 1) && is_still s f j i (m / 8)))) → ((m : ℕ) → m ≤ 8 * (z / 8) + 1 → on w m ≡ false) → StillBits s f j i w z
bits_from s f j i w z n h still_is clear = record {
  other = λ m l e. still_is m l ∙ ap (λ b. b && (nat_le n (m - 1) && is_still s f j i (m / 8))) e;
  early = λ c a l. clear (8 * c + 1) (omega arith);
  late = λ c a l.
      still_is (8 * c + 1) (omega arith)
      ∙ ap (λ b. b && (nat_le n (8 * c + 1 - 1) && is_still s f j i ((8 * c + 1) / 8))) (let e : nat_eq ((8 * c + 1) % 8) 1 ≡ true = ones c in e)
      ∙ ap (λ b. b && is_still s f j i ((8 * c + 1) / 8)) (le_true n (8 * c + 1 - 1) (omega arith))
      ∙ ap (is_still s f j i) (let e : (8 * c + 1) / 8 ≡ c = omega arith in e);
}
  where
    ones : (c : ℕ) → nat_eq ((8 * c + 1) % 8) 1 ≡ true
    ones c = let e : (8 * c + 1) % 8 ≡ 1 = omega arith in ap (λ r. nat_eq r 1) e

pub bits_kept : (s s' : BlockShape) (f g : Field Bool) (j i w z : ℕ) → s' ≡ s → ((x y : ℕ) → g x y ≡ f x y) → StillBits s f j i w z → StillBits s' g j i w z
bits_kept s s' f g j i w z shape known_significant b = record {
  other = b.other;
  early = b.early;
  late = λ c a l. b.late c a l ∙ sym (still_same s s' f g j i c shape known_significant);
}

-- what quiet_behind promises
abbrev pub Behind : (word new z : ℕ) → Type 0
Behind w w' z = (limits : ℕ → Bool) (f : Truths) (j i : ℕ) → of_rows (z % 8) ≡ true → IsQuietFrom limits f (j + 1) (i + 1) (z / 8 + 1) w → IsQuietFrom limits (also f (column (j + 1) z) (row (i + 1) z)) (j + 1) (i + 1) (z / 8 + 1) w'

pub bits_behind : (s s' : BlockShape) (f g : Field Bool) (j i w w' z y : ℕ) → s' ≡ s → of_rows (y % 8) ≡ true → y / 8 ≡ z / 8 → ((u v : ℕ) → g u v ≡ also f (column j y) (row i y) u v) → Behind w w' y → ((m : ℕ) → on w m ≡ false → on w' m ≡ false)
    → StillBits s f j i w z → StillBits s' g j i w' z
bits_behind s s' f g j i w w' z y shape on_row same known_significant behind fewer b = record {
  other = λ m l e. fewer m (b.other m l e);
  early = λ c a l. fewer (8 * c + 1) (b.early c a l);
  late = λ c a l.
      still_behind s f g j i y (y / 8 + 1) w w' on_row known_significant (behind (is_whole s j i) (bordered (seen_from s i f)) j i on_row)
      (λ c a l. b.late c (omega (arith, same)) l) c (omega (arith, same)) l
      ∙ sym (ap (λ (s : BlockShape). is_still s g j i c) shape);
}

pub rest_bits : (w z m : ℕ) → on w z ≡ true → ((l : ℕ) → l < z → on w l ≡ false) → on (bit_and w (w - 1)) m ≡ (nat_lt z m && on w m)
rest_bits w z m set clear = rest_by w z m set clear ∙ ap (λ b. b && on w m) (let e : nat_le (z + 1) m ≡ nat_lt z m = grind (arith, nat_tests) in e)

-- the still columns behind one in run mode
pub run_bits : (s : BlockShape) (f : Field Bool) (j i still z n : ℕ) → z < 64 → z % 8 ≡ 1 → n ≤ z → on still z ≡ true → ((m : ℕ) → m < z → on still m ≡ false) → ((m : ℕ) → m < 64 → on still m ≡ (nat_eq (m % 8) 1 && (nat_le n (m - 1) && is_still s f j i (m / 8))))
    → StillBits s f j i (bit_and still (still - 1)) z
run_bits s f j i still z n within first le set clear still_is = record {
  other = λ m l e. rest_bits still z m set clear ∙ ap (λ b. nat_lt z m && b) (still_is m l ∙ ap (λ b. b && (nat_le n (m - 1) && is_still s f j i (m / 8))) e) ∙ none (nat_lt z m);
  early = λ c a l. rest_bits still z (8 * c + 1) set clear ∙ ap (λ b. b && on still (8 * c + 1)) (let e : nat_lt z (8 * c + 1) ≡ false = not_lt z (8 * c + 1) (omega (arith, first)) in e);
  late = λ c a l.
      rest_bits still z (8 * c + 1) set clear ∙ ap (λ b. b && on still (8 * c + 1)) (lt_true z (8 * c + 1) (omega (arith, first)))
      ∙ still_is (8 * c + 1) (omega arith)
      ∙ ap (λ b. b && (nat_le n (8 * c + 1 - 1) && is_still s f j i ((8 * c + 1) / 8))) (let e : (8 * c + 1) % 8 ≡ 1 = omega arith in ap (λ r. nat_eq r 1) e)
      ∙ ap (λ b. b && is_still s f j i ((8 * c + 1) / 8)) (le_true n (8 * c + 1 - 1) (omega (arith, first)))
      ∙ ap (is_still s f j i) (let e : (8 * c + 1) / 8 ≡ c = omega arith in e);
}
  where
    none : (b : Bool) → (b && false) ≡ false
    none true = refl
    none false = refl

    not_lt : (a b : ℕ) → b ≤ a → nat_lt a b ≡ false
    not_lt a b h = grind (arith, nat_tests)

pub above_bits : (w e m : ℕ) → m < 64 → on (bit_and w (0xFFFF_FFFF_FFFF_FFFE * 2 ^ e % 2 ^ 64)) m ≡ (nat_lt e m && on w m)
above_bits w e m l = on_and w (0xFFFF_FFFF_FFFF_FFFE * 2 ^ e % 2 ^ 64) m ∙ ap (λ b. on w m && b) (high_ones e m l) ∙ turned (on w m) (nat_lt e m)
  where
    turned : (a b : Bool) → (a && b) ≡ (b && a)
    turned true true = refl
    turned true false = refl
    turned false true = refl
    turned false false = refl
