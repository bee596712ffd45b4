-- The lifting steps of eight numbers at once.
use Rattle.std.proofs.Common.{◌≡◌, ℕ, ℤ, List, ◌+◌, ◌-◌, ◌^◌, ◌<◌, length, replicate, pos, ◌+ℤ◌, arith}
use Rattle.jk_math.specs.Division.{floor_of}
use Rattle.jk_math.specs.Signed.{IsBelow, signed_at}
use Rattle.jk_lift.specs.Lifting.{high_pass, low_pass, even_sample, odd_sample}
use Rattle.jk_math.proofs.Laws.{HasLanes, bits_of, sums, differences, shifted, HasLanes-given, HasLanes-splat, HasLanes-add, HasLanes-sub, HasLanes-half, HasLanes-quarter}

-- half and a quarter of the sum of two vectors
pub half_sum : (f g : ℕ → ℤ) (v w : List ℕ) → HasLanes (2 ^ 30 - 1) f v → HasLanes (2 ^ 30 - 1) g w →
    HasLanes (2 ^ 30) (λ j. floor_of (f j +ℤ g j) 2) (shifted (sums v w) 1)
half_sum f g v w hv hw =
    HasLanes-half (2 ^ 31 - 2) (2 ^ 30) _ _ (omega arith) (omega arith) (HasLanes-add (2 ^ 30 - 1) (2 ^ 30 - 1) (2 ^ 31 - 2) f g v w (omega arith) (omega arith) hv hw)

pub sum_two : (f g : ℕ → ℤ) (v w : List ℕ) → HasLanes (2 ^ 30 - 1) f v → HasLanes (2 ^ 30 - 1) g w → HasLanes (2 ^ 31 - 2) (λ j. f j +ℤ g j) (sums v w)
sum_two f g v w hv hw = HasLanes-add (2 ^ 30 - 1) (2 ^ 30 - 1) (2 ^ 31 - 2) f g v w (omega arith) (omega arith) hv hw

pub twos : HasLanes 3 (λ _. pos 2) (replicate 8 2)
twos = HasLanes-splat 3 2 (omega arith) (omega arith)

pub quarter_sum : (f g : ℕ → ℤ) (v w : List ℕ) → HasLanes (2 ^ 30 - 1) f v → HasLanes (2 ^ 30 - 1) g w →
    HasLanes (2 ^ 29 + 1) (λ j. floor_of (f j +ℤ g j +ℤ pos 2) 4) (shifted (sums (sums v w) (replicate 8 2)) 2)
quarter_sum f g v w hv hw =
    HasLanes-quarter (2 ^ 31) (2 ^ 29 + 1) _ _ (omega arith) (omega arith) (HasLanes-add (2 ^ 31 - 2) 3 (2 ^ 31) _ _ _ _ (omega arith) (omega arith) (sum_two f g v w hv hw) twos)

module _ (number before after : List ℤ) (lanes : (length number ≡ 8) × (length before ≡ 8) × (length after ≡ 8)) (numbers : (j : ℕ) → j < 8 → IsBelow (2 ^ 29) (signed_at number j))
    (befores : (j : ℕ) → j < 8 → IsBelow (2 ^ 30 - 1) (signed_at before j)) (afters : (j : ℕ) → j < 8 → IsBelow (2 ^ 30 - 1) (signed_at after j)) where
  pub number_lanes : HasLanes (2 ^ 29) (λ j. signed_at number j) (bits_of number)
  number_lanes = HasLanes-given (2 ^ 29) number (omega arith) lanes.0 numbers

  pub before_lanes : HasLanes (2 ^ 30 - 1) (λ j. signed_at before j) (bits_of before)
  before_lanes = HasLanes-given (2 ^ 30 - 1) before (omega arith) lanes.1 befores

  pub after_lanes : HasLanes (2 ^ 30 - 1) (λ j. signed_at after j) (bits_of after)
  after_lanes = HasLanes-given (2 ^ 30 - 1) after (omega arith) lanes.2 afters

  pub half_lanes : HasLanes (2 ^ 30) (λ j. floor_of (signed_at before j +ℤ signed_at after j) 2) (shifted (sums (bits_of before) (bits_of after)) 1)
  half_lanes = half_sum _ _ _ _ before_lanes after_lanes

  pub sum_lanes : HasLanes (2 ^ 31 - 2) (λ j. signed_at before j +ℤ signed_at after j) (sums (bits_of before) (bits_of after))
  sum_lanes = sum_two _ _ _ _ before_lanes after_lanes

  pub quarter_lanes : HasLanes (2 ^ 29 + 1) (λ j. floor_of (signed_at before j +ℤ signed_at after j +ℤ pos 2) 4) (shifted (sums (sums (bits_of before) (bits_of after)) (replicate 8 2)) 2)
  quarter_lanes = quarter_sum _ _ _ _ before_lanes after_lanes

  pub high_pass_lanes : HasLanes (2 ^ 31) (λ j. high_pass (signed_at number j) (signed_at before j) (signed_at after j)) (differences (bits_of number) (shifted (sums (bits_of before) (bits_of after)) 1))
  high_pass_lanes = HasLanes-sub (2 ^ 29) (2 ^ 30) (2 ^ 31) _ _ _ _ (omega arith) (omega arith) number_lanes half_lanes

  pub odd_sample_lanes : HasLanes (2 ^ 31) (λ j. odd_sample (signed_at number j) (signed_at before j) (signed_at after j)) (sums (bits_of number) (shifted (sums (bits_of before) (bits_of after)) 1))
  odd_sample_lanes = HasLanes-add (2 ^ 29) (2 ^ 30) (2 ^ 31) _ _ _ _ (omega arith) (omega arith) number_lanes half_lanes

  pub low_pass_lanes : HasLanes (2 ^ 31) (λ j. low_pass (signed_at number j) (signed_at before j) (signed_at after j))
      (sums (bits_of number) (shifted (sums (sums (bits_of before) (bits_of after)) (replicate 8 2)) 2))
  low_pass_lanes = HasLanes-add (2 ^ 29) (2 ^ 29 + 1) (2 ^ 31) _ _ _ _ (omega arith) (omega arith) number_lanes quarter_lanes

  pub even_sample_lanes : HasLanes (2 ^ 31) (λ j. even_sample (signed_at number j) (signed_at before j) (signed_at after j))
      (differences (bits_of number) (shifted (sums (sums (bits_of before) (bits_of after)) (replicate 8 2)) 2))
  even_sample_lanes = HasLanes-sub (2 ^ 29) (2 ^ 29 + 1) (2 ^ 31) _ _ _ _ (omega arith) (omega arith) number_lanes quarter_lanes
