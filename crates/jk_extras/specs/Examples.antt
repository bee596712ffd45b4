-- Examples: boxes of T.800 Annex I, byte by byte.
use Rattle.std.specs.Prelude.{◌≡◌, ℕ, pos, negsuc, true, false, List, [], ◌∷◌, Some, Ok, Err, refl}
use Rattle.std.proofs.Common.{lit<, inl, inr}
use Rattle.jk_math.specs.declared.fault.Fault.TheVariants.{BadBox, BadValue}
use Rattle.jk_extras.specs.declared.header.ToldColour.TheVariants.{Nothing, Enumerated, Profile}
use Rattle.jk_extras.specs.Grids.{signed_byte, grid_at, capture_kind}
use Rattle.jk_extras.specs.Header.{colour_at}
use Rattle.jk_boxes.specs.declared.boxes.Form.TheVariants.{Short}
use Rattle.jk_boxes.specs.Boxes.{box_text, boxes_text, colour_kind}
use Rattle.jk_boxes.specs.Written.{colour_box}
use Rattle.jk_extras.specs.Inches.{IsPerInch}
use Rattle.jk_extras.specs.Profiles.{tags_in, has_tag, lie_within, has_curves}
use Rattle.jk_extras.specs.Extras.{profile_box, grid_boxes}
use Rattle.jk_extras.specs.Said.{IccProfile, first_colour}

row_exponents : (signed_byte 0 ≡ pos 0) × (signed_byte 127 ≡ pos 127)
    × (signed_byte 128 ≡ negsuc 127) × (signed_byte 255 ≡ negsuc 0)
row_exponents = (refl, refl, refl, refl)

-- 300 samples per inch, down and across: 15000 / 127 * 10^2 per metre
row_inch : grid_at (0x3A ∷ 0x98 ∷ 0 ∷ 127 ∷ 0x3A ∷ 0x98 ∷ 0 ∷ 127 ∷ 2 ∷ 2 ∷ [])
    ≡ Ok (record {
      down = record { numerator = 15000; denominator = 127; exponent = pos 2 };
      across = record { numerator = 15000; denominator = 127; exponent = pos 2 };
    })
unfolding grid_at
row_inch = refl

-- a denominator of 0, and a byte that lacks
row_zero : grid_at (0x3A ∷ 0x98 ∷ 0 ∷ 127 ∷ 0x3A ∷ 0x98 ∷ 0 ∷ 0 ∷ 2 ∷ 2 ∷ []) ≡ Err BadValue
unfolding grid_at
row_zero = refl

row_short : grid_at (0x3A ∷ 0x98 ∷ 0 ∷ 127 ∷ 0x3A ∷ 0x98 ∷ 0 ∷ 127 ∷ 2 ∷ []) ≡ Err BadBox
unfolding grid_at
row_short = refl

-- sRGB is 16; a profile of one byte at the place 50; a method that T.800 has not
row_colours : (colour_at 50 (1 ∷ 0 ∷ 0 ∷ 0 ∷ 0 ∷ 0 ∷ 16 ∷ []) ≡ Ok (Enumerated 16))
    × (colour_at 50 (2 ∷ 0 ∷ 0 ∷ 9 ∷ []) ≡ Ok (Profile 53 54)) × (colour_at 50 (3 ∷ 0 ∷ 0 ∷ 9 ∷ []) ≡ Ok Nothing)
    × (colour_at 50 (2 ∷ 0 ∷ 0 ∷ []) ≡ Err BadBox) × (colour_at 50 (1 ∷ 0 ∷ []) ≡ Err BadBox)
unfolding colour_at
row_colours = (refl, refl, refl, refl, refl)

-- a box of a profile of two bytes, and sRGB
row_profile : boxes_text (profile_box (7 ∷ 9 ∷ []) ∷ [])
    ≡ 0 ∷ 0 ∷ 0 ∷ 13 ∷ 0x63 ∷ 0x6F ∷ 0x6C ∷ 0x72 ∷ 2 ∷ 0 ∷ 0 ∷ 7 ∷ 9 ∷ []
unfolding box_text
row_profile = refl

-- 3600 / 127 * 10^2 samples per metre down, 15000 / 127 * 10^-1 across
row_resolution : boxes_text (grid_boxes capture_kind (Some (record {
  down = record { numerator = 3600; denominator = 127; exponent = pos 2 };
  across = record { numerator = 15000; denominator = 127; exponent = negsuc 0 };
}))) ≡ 0 ∷ 0 ∷ 0 ∷ 18 ∷ 0x72 ∷ 0x65 ∷ 0x73 ∷ 0x63 ∷ 0x0E ∷ 0x10 ∷ 0 ∷ 127 ∷ 0x3A ∷ 0x98 ∷ 0 ∷ 127 ∷ 2 ∷ 255 ∷ []
unfolding box_text
row_resolution = refl

-- a table of two tags: `kTRC` at 156, 14 bytes long, and `wtpt` at 170, 20 bytes long
abbrev two_tags : List ℕ
two_tags = 0x6B ∷ 0x54 ∷ 0x52 ∷ 0x43 ∷ 0 ∷ 0 ∷ 0 ∷ 156 ∷ 0 ∷ 0 ∷ 0 ∷ 14
    ∷ 0x77 ∷ 0x74 ∷ 0x70 ∷ 0x74 ∷ 0 ∷ 0 ∷ 0 ∷ 170 ∷ 0 ∷ 0 ∷ 0 ∷ 20 ∷ []

row_tags : (has_tag 0x6B545243 2 two_tags ≡ true) × (has_tag 0x41324230 2 two_tags ≡ false)
    × (lie_within 190 2 two_tags ≡ true) × (lie_within 189 2 two_tags ≡ false)
unfolding tags_in
row_tags = (refl, refl, refl, refl)

row_curves : (has_curves 1 2 two_tags ≡ true) × (has_curves 3 2 two_tags ≡ false)
unfolding has_curves tags_in
row_curves = (refl, refl)

-- 300 samples per inch is 15000 / 127 * 10^2 samples per metre
row_per_inch : IsPerInch 300 1 (record { numerator = 15000; denominator = 127; exponent = pos 2 })
row_per_inch = record { numerator = lit< tt; denominator = lit< tt; same = inl (2, record { exponent = refl; same = refl }) }

-- a thousand millionth of a sample per inch: 5 / 127 * 10^-6 per metre
row_few_per_inch : IsPerInch 1 1000000000 (record { numerator = 5; denominator = 127; exponent = negsuc 5 })
row_few_per_inch = record { numerator = lit< tt; denominator = lit< tt; same = inr (5, record { exponent = refl; same = refl }) }

-- what boxes say: the first method that T.800 has counts
row_said : first_colour (record { form = Short; kind = colour_kind; contents = 3 ∷ 0 ∷ 0 ∷ 9 ∷ [] }
    ∷ profile_box (7 ∷ 9 ∷ []) ∷ colour_box 3 ∷ [])
    ≡ IccProfile (7 ∷ 9 ∷ [])
row_said = refl
