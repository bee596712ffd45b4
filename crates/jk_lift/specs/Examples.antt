-- The 5-3 transform at the column of T.800 J.10: nine samples behind the level shift.
use Rattle.std.specs.Prelude.{◌≡◌, ℕ, ℤ, pos, negsuc, List, [], ◌∷◌, map, slice_index_or, refl}
use Rattle.jk_math.specs.Division.{reflected}
use Rattle.jk_lift.specs.Lifting.{high_at, lifted, even_at, unlifted}

-- -27 -25 -24 -23 -32 -31 -32 -26 -19
column : ℕ → ℤ
column i = slice_index_or
    (negsuc 26 ∷ negsuc 24 ∷ negsuc 23 ∷ negsuc 22 ∷ negsuc 31 ∷ negsuc 30 ∷ negsuc 31 ∷ negsuc 25 ∷ negsuc 18 ∷ [])
    i (pos 0)

-- low-pass -26 -22 -30 -32 -19 at the even places, high-pass 1 5 1 0 at the odd ones
coefficients : ℕ → ℤ
coefficients i = slice_index_or
    (negsuc 25 ∷ pos 1 ∷ negsuc 21 ∷ pos 5 ∷ negsuc 29 ∷ pos 1 ∷ negsuc 31 ∷ pos 0 ∷ negsuc 18 ∷ [])
    i (pos 0)

places : List ℕ
places = 0 ∷ 1 ∷ 2 ∷ 3 ∷ 4 ∷ 5 ∷ 6 ∷ 7 ∷ 8 ∷ []

row_forward : map (lifted 0 9 column) places ≡ map coefficients places
unfolding column coefficients places lifted high_at reflected
row_forward = refl

row_back : map (unlifted 0 9 coefficients) places ≡ map column places
unfolding column coefficients places unlifted even_at reflected
row_back = refl

-- a single sample is kept at an even place and doubled at an odd one
row_single_even : lifted 4 5 (λ i. negsuc 6) 4 ≡ negsuc 6
unfolding lifted high_at reflected
row_single_even = refl

row_single_odd : lifted 5 6 (λ i. negsuc 6) 5 ≡ negsuc 13
unfolding lifted high_at reflected
row_single_odd = refl

-- and halved there, rounding down: an odd coefficient too
row_halved : unlifted 5 6 (λ i. negsuc 6) 5 ≡ negsuc 3
unfolding unlifted even_at reflected
row_halved = refl
