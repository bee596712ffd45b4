-- Examples: lines that are reflected at their ends (T.800 F.3.7), ranges of samples (T.800 A.5.1),
-- places of a rectangle, and which of two faults is answered.
use Rattle.std.specs.Prelude.{◌≡◌, ℕ, ◌+◌, ◌*◌, true, false, [], ◌∷◌, map, refl, pos, negsuc, Result, Ok, Err}
use Rattle.jk_math.specs.declared.fault.Fault.{Fault}
use Rattle.jk_math.specs.declared.fault.Fault.TheVariants.{Truncated, BadMarker}
use Rattle.jk_math.specs.declared.rect.Rect.{Rect}
use Rattle.jk_math.specs.Answer.{◌>>=◌, refuse}
use Rattle.jk_math.specs.BitLength.{digits, bit_length}
use Rattle.jk_math.specs.Division.{floor_of, ceiling_of, remainder_of, reflected}
use Rattle.jk_math.specs.Picture.{Picture, sample_at, lowest, greatest, is_grey_or_rgb}
use Rattle.jk_math.specs.Raster.{places_of, raster, plane_at}

-- Division rounds down, or up, below zero too: of -3 by 2, of -4 by 2 and of -1 by 4.
rounded_down : floor_of (negsuc 2) 2 ∷ floor_of (negsuc 3) 2 ∷ floor_of (negsuc 0) 4 ∷ []
    ≡ negsuc 1 ∷ negsuc 1 ∷ negsuc 0 ∷ []
rounded_down = refl

rounded_up : ceiling_of (negsuc 2) 2 ∷ ceiling_of (negsuc 3) 2 ∷ ceiling_of (pos 5) 4 ∷ []
    ≡ negsuc 0 ∷ negsuc 1 ∷ pos 2 ∷ []
rounded_up = refl

-- -3 is 2 times -2, and 1
left_over : remainder_of (negsuc 2) 2 ≡ 1
left_over = refl

-- The line of the places 5 to 8: outside it stand, on each side, the places next to its end and
-- so on, the end itself not again, however far it goes.
before_line : map (λ i. reflected i 5 9) (pos 4 ∷ pos 3 ∷ pos 2 ∷ pos 1 ∷ pos 0 ∷ negsuc 0 ∷ [])
    ≡ 6 ∷ 7 ∷ 8 ∷ 7 ∷ 6 ∷ 5 ∷ []
unfolding reflected
before_line = refl

behind_line : map (λ i. reflected i 5 9) (pos 8 ∷ pos 9 ∷ pos 10 ∷ pos 11 ∷ pos 12 ∷ pos 13 ∷ [])
    ≡ 8 ∷ 7 ∷ 6 ∷ 5 ∷ 6 ∷ 7 ∷ []
unfolding reflected
behind_line = refl

-- a line of one place
one_place : map (λ i. reflected i 5 6) (pos 4 ∷ pos 5 ∷ pos 8 ∷ negsuc 0 ∷ []) ≡ 5 ∷ 5 ∷ 5 ∷ 5 ∷ []
unfolding reflected
one_place = refl

lengths : map bit_length (0 ∷ 1 ∷ 2 ∷ 255 ∷ 256 ∷ []) ≡ 0 ∷ 1 ∷ 2 ∷ 8 ∷ 9 ∷ []
unfolding digits bit_length
lengths = refl

-- samples of 8 bits without a sign and with one, and of one bit and of 16 with a sign
range_of_bytes : lowest 8 false ∷ greatest 8 false ∷ lowest 8 true ∷ greatest 8 true ∷ []
    ≡ pos 0 ∷ pos 255 ∷ negsuc 127 ∷ pos 127 ∷ []
range_of_bytes = refl

range_at_ends : lowest 1 true ∷ greatest 1 true ∷ lowest 16 true ∷ greatest 16 true ∷ []
    ≡ negsuc 0 ∷ pos 0 ∷ negsuc 32767 ∷ pos 32767 ∷ []
range_at_ends = refl

-- An image of three columns and two rows, and two components.
abbrev picture : Picture
picture = record {
  x0 = 7;
  y0 = 9;
  width = 3;
  height = 2;
  depth = 8;
  signed = false;
  planes = (pos 1 ∷ pos 2 ∷ pos 3 ∷ pos 4 ∷ pos 5 ∷ pos 6 ∷ []) ∷ (pos 11 ∷ pos 12 ∷ pos 13 ∷ pos 14 ∷ pos 15
      ∷ pos 16 ∷ []) ∷ [];
}

-- Columns and rows are counted from the upper left sample.
lower_left : sample_at picture 1 0 1 ≡ pos 14
lower_left = refl

upper_right : sample_at picture 0 2 0 ≡ pos 3
upper_right = refl

-- which images are greyscale or RGB
two_components : is_grey_or_rgb 2 false ≡ false
two_components = refl

three_components : is_grey_or_rgb 3 false ≡ true
three_components = refl

with_a_sign : is_grey_or_rgb 1 true ≡ false
with_a_sign = refl

-- the columns 4 to 6 of the rows 2 and 3, row by row
abbrev area : Rect
area = record { x0 = 4; y0 = 2; x1 = 7; y1 = 4 }

places : places_of area ≡ 6
places = refl

row_by_row : raster area (λ x y. pos (10 * y + x)) ≡ pos 24 ∷ pos 25 ∷ pos 26 ∷ pos 34 ∷ pos 35 ∷ pos 36 ∷ []
unfolding raster
row_by_row = refl

at_its_place : plane_at area (pos 24 ∷ pos 25 ∷ pos 26 ∷ pos 34 ∷ pos 35 ∷ pos 36 ∷ []) 6 3 ≡ pos 36
at_its_place = refl

-- Of two tests the first that says so gives the fault, whatever the second one says.
abbrev both : Result ℕ Fault
both = do
  _ ← refuse true Truncated
  _ ← refuse true BadMarker
  Ok 1

abbrev second : Result ℕ Fault
second = do
  _ ← refuse false Truncated
  _ ← refuse true BadMarker
  Ok 1

first_fault : both ≡ Err Truncated
first_fault = refl

second_fault : second ≡ Err BadMarker
second_fault = refl
