-- Reading a PNM file from left to right, with the first fault that is met.
use Rattle.std.specs.Prelude.{ℕ, ◌+◌, ◌*◌, ◌^◌, ◌-◌, List, [], ◌∷◌, length, drop, map, pos, Bool, true, false, not}
use Rattle.std.specs.Prelude.{◌&&◌, ◌||◌, ◌==◌, nat_le, nat_lt, nat_eq, slice_index, Option, Some, None, Result, Ok}
use Rattle.std.specs.Prelude.{Err, if◌then◌else◌}
use Rattle.std.specs.List.{starts_with, find, range_with_len, list_all}
use Rattle.std.specs.Char.{is_ascii_digit}
use Rattle.jk_math.specs.Answer.{◌>>=◌, refuse}
use Rattle.jk_math.specs.declared.fault.Fault.{Fault}
use Rattle.jk_math.specs.declared.fault.Fault.TheVariants.{BadPnm}
use Rattle.jk_math.specs.Picture.{Picture}
use Rattle.jk_pnm.specs.declared.header.Header.{Header}
use Rattle.jk_pnm.specs.Pnm.{is_space, is_line_end, magic_text, components_of, sample_size, planes_from}

-- whether the samples have three components
unfoldable pub magic_at : List ℕ → Result Bool Fault
magic_at bytes =
    if starts_with nat_eq bytes (magic_text false) then Ok false
    else (if starts_with nat_eq bytes (magic_text true) then Ok true else Err BadPnm)

-- what follows whitespace and comments, if any; `comment`: the bytes begin inside a comment
unfoldable pub after_gap : Bool → List ℕ → Result (List ℕ) Fault
after_gap comment [] = Err BadPnm
after_gap true (c ∷ cs) = after_gap (not (is_line_end c)) cs
after_gap false (c ∷ cs) = if c == 35 then after_gap true cs
    else (if is_space c then after_gap false cs else Ok (c ∷ cs))

-- the same, where some must stand
unfoldable pub gap_at : List ℕ → Result (List ℕ) Fault
gap_at bytes = do
  rest ← after_gap false bytes
  _ ← refuse (length rest == length bytes) BadPnm
  Ok rest

-- the number that the digits at the front write after those of n, and what follows; it goes no
-- further once it is past every field
unfoldable pub digits_at : ℕ → List ℕ → ℕ × List ℕ
digits_at n [] = (n, [])
digits_at n (c ∷ cs) = if is_ascii_digit c && nat_le n (2 ^ 28) then digits_at (10 * n + (c - 48)) cs else (n, c ∷ cs)

-- a number from 1 to 2^28
unfoldable pub number_at : List ℕ → Result (ℕ × List ℕ) Fault
number_at bytes = do
  _ ← refuse (((digits_at 0 bytes).0 == 0) || nat_lt (2 ^ 28) (digits_at 0 bytes).0) BadPnm
  Ok (digits_at 0 bytes)

-- a number behind a gap
unfoldable pub field_at : List ℕ → Result (ℕ × List ℕ) Fault
field_at bytes = do
  rest ← gap_at bytes
  number_at rest

abbrev pub or_bad : Option ℕ → Result ℕ Fault
or_bad (Some n) = Ok n
or_bad None = Err BadPnm

-- of how many bits, 1 to 16, this is the greatest number
unfoldable pub depth_at : ℕ → Result ℕ Fault
depth_at maxval = or_bad (find (λ depth. 2 ^ depth == maxval + 1) (range_with_len 1 16))

-- the fields, and the raster
unfoldable pub header_at : List ℕ → Result (Header × List ℕ) Fault
header_at bytes = do
  colour ← magic_at bytes
  width ← field_at (drop 2 bytes)
  height ← field_at width.1
  maxval ← field_at height.1
  depth ← depth_at maxval.0
  _ ← refuse ((length maxval.1 == 0) || not (is_space (slice_index maxval.1 0))) BadPnm
  _ ← refuse (nat_lt (2 ^ 28) (width.0 * height.0)) BadPnm
  Ok (record { colour = colour; width = width.0; height = height.0; maxval = maxval.0; depth = depth }, drop 1 maxval.1)

-- bytes of a raster
abbrev pub raster_size : Header → ℕ
raster_size h = h.width * h.height * components_of h.colour * sample_size h.maxval

-- the samples of a raster, by components
abbrev pub samples_of : Header → List ℕ → List (List ℕ)
samples_of h raster = planes_from h.maxval (components_of h.colour) (h.width * h.height) raster

abbrev pub picture_of : Header → List ℕ → Picture
picture_of h raster =
    record {
      x0 = 0;
      y0 = 0;
      width = h.width;
      height = h.height;
      depth = h.depth;
      signed = false;
      planes = map (map pos) (samples_of h raster);
    }

unfoldable pub are_below : ℕ → List (List ℕ) → Bool
are_below maxval planes = list_all (list_all (λ s. nat_le s maxval)) planes

unfoldable pub picture_at : Header → List ℕ → Result Picture Fault
picture_at h raster = if are_below h.maxval (samples_of h raster) then Ok (picture_of h raster) else Err BadPnm

unfoldable pub pnm_at : List ℕ → Result Picture Fault
pnm_at bytes = do
  header ← header_at bytes
  _ ← refuse (not (length header.1 == raster_size header.0)) BadPnm
  picture_at header.0 header.1
