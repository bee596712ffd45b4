-- The transform of eight pixels at once.
use Rattle.std.proofs.Common.{ℕ, ℤ, List, ◌+◌, ◌^◌, ◌<◌, ◌≤◌, length, ◌+ℤ◌, arith}
use Rattle.jk_math.specs.Division.{floor_of}
use Rattle.jk_math.specs.Signed.{IsBelow, signed_at}
use Rattle.jk_math.proofs.Laws.{HasLanes, loaded, sums, differences, shifted, HasLanes-load, HasLanes-add, HasLanes-sub, HasLanes-quarter}
use Rattle.jk_rct.specs.Colour.{y0_of, y1_of, y2_of, i0_of, i1_of, i2_of}

module _ (a b c : List ℤ) (i : ℕ) (room_a : i + 8 ≤ length a) (room_b : i + 8 ≤ length b) (room_c : i + 8 ≤ length c) (small_a : (j : ℕ) → j < 8 → IsBelow (2 ^ 29) (signed_at a (i + j)))
    (small_b : (j : ℕ) → j < 8 → IsBelow (2 ^ 29) (signed_at b (i + j))) (small_c : (j : ℕ) → j < 8 → IsBelow (2 ^ 29) (signed_at c (i + j))) where
  pub lanes_a : HasLanes (2 ^ 29) (λ j. signed_at a (i + j)) (loaded i a)
  lanes_a = HasLanes-load (2 ^ 29) a i (omega arith) room_a small_a

  pub lanes_b : HasLanes (2 ^ 29) (λ j. signed_at b (i + j)) (loaded i b)
  lanes_b = HasLanes-load (2 ^ 29) b i (omega arith) room_b small_b

  pub lanes_c : HasLanes (2 ^ 29) (λ j. signed_at c (i + j)) (loaded i c)
  lanes_c = HasLanes-load (2 ^ 29) c i (omega arith) room_c small_c

  -- ---- forward

  pub twice_lanes : HasLanes (2 ^ 30) (λ j. signed_at b (i + j) +ℤ signed_at b (i + j)) (sums (loaded i b) (loaded i b))
  twice_lanes = HasLanes-add (2 ^ 29) (2 ^ 29) (2 ^ 30) _ _ _ _ (omega arith) (omega arith) lanes_b lanes_b

  pub part_lanes : HasLanes (2 ^ 30 + 2 ^ 29) (λ j. signed_at a (i + j) +ℤ (signed_at b (i + j) +ℤ signed_at b (i + j))) (sums (loaded i a) (sums (loaded i b) (loaded i b)))
  part_lanes = HasLanes-add (2 ^ 29) (2 ^ 30) (2 ^ 30 + 2 ^ 29) _ _ _ _ (omega arith) (omega arith) lanes_a twice_lanes

  pub sum_lanes : HasLanes (2 ^ 31) (λ j. signed_at a (i + j) +ℤ (signed_at b (i + j) +ℤ signed_at b (i + j)) +ℤ signed_at c (i + j)) (sums (sums (loaded i a) (sums (loaded i b) (loaded i b))) (loaded i c))
  sum_lanes = HasLanes-add (2 ^ 30 + 2 ^ 29) (2 ^ 29) (2 ^ 31) _ _ _ _ (omega arith) (omega arith) part_lanes lanes_c

  pub y0_lanes : HasLanes (2 ^ 29 + 1) (λ j. y0_of (signed_at a (i + j)) (signed_at b (i + j)) (signed_at c (i + j))) (shifted (sums (sums (loaded i a) (sums (loaded i b) (loaded i b))) (loaded i c)) 2)
  y0_lanes = HasLanes-quarter (2 ^ 31) (2 ^ 29 + 1) _ _ (omega arith) (omega arith) sum_lanes

  pub y1_lanes : HasLanes (2 ^ 30) (λ j. y1_of (signed_at a (i + j)) (signed_at b (i + j)) (signed_at c (i + j))) (differences (loaded i c) (loaded i b))
  y1_lanes = HasLanes-sub (2 ^ 29) (2 ^ 29) (2 ^ 30) _ _ _ _ (omega arith) (omega arith) lanes_c lanes_b

  pub y2_lanes : HasLanes (2 ^ 30) (λ j. y2_of (signed_at a (i + j)) (signed_at b (i + j)) (signed_at c (i + j))) (differences (loaded i a) (loaded i b))
  y2_lanes = HasLanes-sub (2 ^ 29) (2 ^ 29) (2 ^ 30) _ _ _ _ (omega arith) (omega arith) lanes_a lanes_b

  -- ---- inverse

  pub both_lanes : HasLanes (2 ^ 30) (λ j. signed_at b (i + j) +ℤ signed_at c (i + j)) (sums (loaded i b) (loaded i c))
  both_lanes = HasLanes-add (2 ^ 29) (2 ^ 29) (2 ^ 30) _ _ _ _ (omega arith) (omega arith) lanes_b lanes_c

  pub quarter_lanes : HasLanes (2 ^ 28 + 1) (λ j. floor_of (signed_at b (i + j) +ℤ signed_at c (i + j)) 4) (shifted (sums (loaded i b) (loaded i c)) 2)
  quarter_lanes = HasLanes-quarter (2 ^ 30) (2 ^ 28 + 1) _ _ (omega arith) (omega arith) both_lanes

  pub i1_lanes : HasLanes (2 ^ 30) (λ j. i1_of (signed_at a (i + j)) (signed_at b (i + j)) (signed_at c (i + j))) (differences (loaded i a) (shifted (sums (loaded i b) (loaded i c)) 2))
  i1_lanes = HasLanes-sub (2 ^ 29) (2 ^ 28 + 1) (2 ^ 30) _ _ _ _ (omega arith) (omega arith) lanes_a quarter_lanes

  pub i0_lanes : HasLanes (2 ^ 31) (λ j. i0_of (signed_at a (i + j)) (signed_at b (i + j)) (signed_at c (i + j))) (sums (loaded i c) (differences (loaded i a) (shifted (sums (loaded i b) (loaded i c)) 2)))
  i0_lanes = HasLanes-add (2 ^ 29) (2 ^ 30) (2 ^ 31) _ _ _ _ (omega arith) (omega arith) lanes_c i1_lanes

  pub i2_lanes : HasLanes (2 ^ 31) (λ j. i2_of (signed_at a (i + j)) (signed_at b (i + j)) (signed_at c (i + j))) (sums (loaded i b) (differences (loaded i a) (shifted (sums (loaded i b) (loaded i c)) 2)))
  i2_lanes = HasLanes-add (2 ^ 29) (2 ^ 30) (2 ^ 31) _ _ _ _ (omega arith) (omega arith) lanes_b i1_lanes
