-- Examples: columns 5 and 6 and rows 5 to 8 of a tile-component of 16 by 12 with two levels.
use Rattle.std.specs.Prelude.{◌≡◌, ℕ, [], ◌∷◌, map, refl}
use Rattle.jk_math.specs.declared.rect.Rect.{Rect}
use Rattle.jk_geom.specs.Rectangles.{resolution_area}
use Rattle.jk_wave.specs.declared.region.Region.{Region}
use Rattle.jk_wave.specs.Regions.{held, around, part_area}
use Rattle.jk_wave.specs.falling.Intervals.{rows_fallen, rows_given}

abbrev rect : (x0 y0 x1 y1 : ℕ) → Rect
rect x0 y0 x1 y1 = record { x0 = x0; y0 = y0; x1 = x1; y1 = y1 }

abbrev shown : Region
shown = record { rect = rect 0 0 16 12; levels = 2; top = 2; area = rect 5 5 7 9 }

-- two places more on each side, and the even ones of these on the resolution below
near_highest : around shown 0 ≡ rect 3 3 9 11
unfolding held resolution_area
near_highest = refl

held_below : held shown 1 ≡ rect 2 2 5 6
unfolding held resolution_area
held_below = refl

-- cut with the resolution, which has 8 by 6 places
near_below : around shown 1 ≡ rect 0 0 7 6
unfolding held resolution_area
near_below = refl

-- LL, then HL of resolution 1, and HL, LH and HH of resolution 2
low : part_area shown 0 ≡ rect 0 0 4 3
unfolding part_area held resolution_area
low = refl

first_across : part_area shown 1 ≡ rect 0 0 3 3
unfolding part_area held resolution_area
first_across = refl

second_across : part_area shown 4 ≡ rect 1 2 4 6
unfolding part_area held resolution_area
second_across = refl

second_down : part_area shown 5 ≡ rect 2 1 5 5
unfolding part_area held resolution_area
second_down = refl

second_both : part_area shown 6 ≡ rect 1 1 4 5
unfolding part_area held resolution_area
second_both = refl

-- A single column at an odd place has an empty low-pass part, and so have its lower resolutions.
abbrev single : Region
single = record { rect = rect 5 0 6 8; levels = 1; top = 1; area = rect 5 2 6 4 }

none_low : part_area single 0 ≡ rect 3 0 3 3
unfolding part_area held resolution_area
none_low = refl

one_across : part_area single 1 ≡ rect 2 0 3 3
unfolding part_area held resolution_area
one_across = refl

-- Rows 3 to 8 of a level that are given one by one: its coefficients are made above row 4 when that
-- one comes, above row 6 when that one comes, and all behind the last.
three_to_eight : map (rows_fallen (rect 0 3 4 9)) (3 ∷ 4 ∷ 5 ∷ 6 ∷ 7 ∷ 8 ∷ 9 ∷ []) ≡ 3 ∷ 3 ∷ 4 ∷ 4 ∷ 6 ∷ 6 ∷ 9 ∷ []
unfolding rows_fallen
three_to_eight = refl

-- a single row, at an odd place
seven_alone : map (rows_fallen (rect 0 7 4 8)) (7 ∷ 8 ∷ []) ≡ 7 ∷ 8 ∷ []
unfolding rows_fallen
seven_alone = refl

-- Five rows and two levels: the level below is given its first row with the third one, and two rows
-- behind the last; of LL both rows come then.
below_five : map (λ e. rows_given (rect 0 0 4 5) 2 e 1) (0 ∷ 1 ∷ 2 ∷ 3 ∷ 4 ∷ 5 ∷ []) ≡ 0 ∷ 0 ∷ 0 ∷ 1 ∷ 1 ∷ 3 ∷ []
unfolding rows_given rows_fallen resolution_area
below_five = refl

lowest_of_five : map (λ e. rows_given (rect 0 0 4 5) 2 e 2) (0 ∷ 1 ∷ 2 ∷ 3 ∷ 4 ∷ 5 ∷ []) ≡ 0 ∷ 0 ∷ 0 ∷ 0 ∷ 0 ∷ 2 ∷ []
unfolding rows_given rows_fallen resolution_area
lowest_of_five = refl
