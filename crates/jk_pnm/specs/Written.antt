-- The PNM file that is written for a picture: the magic number, LF, width, space, height, LF,
-- maxval, LF, raster.
use Rattle.std.specs.Prelude.{ℕ, ◌-◌, ◌*◌, ◌/◌, ◌%◌, ◌^◌, Bool, ◌==◌, nat_lt, List, [], ◌∷◌, ◌++◌, length}
use Rattle.std.specs.Prelude.{slice_index_or, Result, Ok, Err, if◌then◌else◌, ℤ, pos, negsuc}
use Rattle.std.specs.List.{flat_map, range_with_len}
use Rattle.std.specs.Fmt.{decimal}
use Rattle.jk_math.specs.declared.fault.Fault.{Fault}
use Rattle.jk_math.specs.declared.fault.Fault.TheVariants.{Unsupported}
use Rattle.jk_math.specs.Picture.{Picture, is_grey_or_rgb}
use Rattle.jk_pnm.specs.Pnm.{magic_text}

-- whether a picture has a PNM file: one or three unsigned components
abbrev pub is_written : Picture → Bool
is_written p = is_grey_or_rgb (length p.planes) p.signed

abbrev pub maxval_of : ℕ → ℕ
maxval_of depth = 2 ^ depth - 1

abbrev pub natural : ℤ → ℕ
natural (pos n) = n
natural (negsuc n) = 0

-- a sample as bytes, the byte of more weight first
abbrev pub sample_text : ℕ → ℤ → List ℕ
sample_text maxval s = if nat_lt 255 maxval then (natural s / 256) ∷ (natural s % 256) ∷ [] else natural s ∷ []

-- the samples of all components at a pixel
abbrev pub pixel_text : ℕ → List (List ℤ) → ℕ → List ℕ
pixel_text maxval planes pixel = flat_map (λ plane. sample_text maxval (slice_index_or plane pixel (pos 0))) planes

-- the samples of so many pixels from one on
abbrev pub raster_part : ℕ → List (List ℤ) → (from : ℕ) → (pixels : ℕ) → List ℕ
raster_part maxval planes from pixels = flat_map (pixel_text maxval planes) (range_with_len from pixels)

abbrev pub raster_text : ℕ → List (List ℤ) → ℕ → List ℕ
raster_text maxval planes pixels = raster_part maxval planes 0 pixels

abbrev pub header_text : Bool → ℕ → ℕ → ℕ → List ℕ
header_text colour width height maxval = magic_text colour
    ++ (10 ∷ (decimal width ++ (32 ∷ (decimal height ++ (10 ∷ (decimal maxval ++ (10 ∷ [])))))))

unfoldable pub file_text : Picture → List ℕ
file_text p =
    header_text (length p.planes == 3) p.width p.height (maxval_of p.depth)
    ++ raster_text (maxval_of p.depth) p.planes (p.width * p.height)

-- what is written for a picture
unfoldable pub written : Picture → Result (List ℕ) Fault
written p = if is_written p then Ok (file_text p) else Err Unsupported
