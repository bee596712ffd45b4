-- What a file is to keep beside the samples, and the boxes in which it does (T.800 Annex I).
use Rattle.std.specs.Prelude.{◌≡◌, ℕ, ℤ, pos, negsuc, ◌-◌, ◌^◌, ◌==◌}
use Rattle.std.specs.Prelude.{◌&&◌, ◌||◌, not, nat_le, Bool, true, false, if◌then◌else◌}
use Rattle.std.specs.Prelude.{List, [], ◌∷◌, ◌++◌, length, map, Option, Some, None, is_some}
use Rattle.byteorder.specs.Endian.{big_bytes}
use Rattle.jk_boxes.specs.declared.boxes.Form.TheVariants.{Short}
use Rattle.jk_boxes.specs.Boxes.{Box, boxes_text, colour_kind}
use Rattle.jk_boxes.specs.Written.{colour_box}
use Rattle.jk_extras.specs.declared.grids.Grid.{Grid}
use Rattle.jk_extras.specs.declared.values.Colour.{Colour}
use Rattle.jk_extras.specs.declared.values.Colour.TheVariants.{AsItIs, Enumerated, Profile}
use Rattle.jk_extras.specs.declared.values.Other.{Other}
use Rattle.jk_extras.specs.declared.values.Other.TheVariants.{Xml, Uuid}
use Rattle.jk_extras.specs.declared.values.Extras.{Extras}
use Rattle.jk_extras.specs.Finding.{xml_kind, uuid_kind}
use Rattle.jk_extras.specs.Grids.{has_zero, capture_kind, display_kind}
use Rattle.jk_extras.specs.Header.{resolution_kind}
use Rattle.jk_extras.specs.Profiles.{is_restricted}

-- nothing
pub record IsNone (e : Extras) : Type 0 where
  pub colour : e.colour ≡ AsItIs
  pub capture : e.capture ≡ None
  pub display : e.display ≡ None
  pub others : e.others.items ≡ []

-- whether the colour of a file gives way, and whether its resolutions do
abbrev pub has_colour : Colour → Bool
has_colour AsItIs = false
has_colour Enumerated = true
has_colour (Profile p) = true

abbrev pub has_grids : Extras → Bool
has_grids e = is_some e.capture || is_some e.display

-- whether a box of this kind gives way, of those of the JP2 header box
abbrev pub goes : Extras → ℕ → Bool
goes e kind = ((kind == colour_kind) && has_colour e.colour) || ((kind == resolution_kind) && has_grids e)

abbrev pub short_box : ℕ → List ℕ → Box
short_box kind contents = record { form = Short; kind = kind; contents = contents }

-- METH 1, PREC, APPROX, EnumCS (I.5.3.3)
abbrev pub space_box : ℕ → Box
space_box number = short_box colour_kind (1 ∷ 0 ∷ 0 ∷ big_bytes 4 number)

-- METH 2, PREC, APPROX, PROFILE
abbrev pub profile_box : List ℕ → Box
profile_box profile = short_box colour_kind (2 ∷ 0 ∷ 0 ∷ profile)

-- the colour specification box; the enumerated one by the number of components
abbrev pub colour_boxes : ℕ → Colour → List Box
colour_boxes components AsItIs = []
colour_boxes components Enumerated = colour_box components ∷ []
colour_boxes components (Profile p) = profile_box p.items ∷ []

-- the byte of a number in two's complement
abbrev pub byte_of : ℤ → ℕ
byte_of (pos n) = n
byte_of (negsuc n) = 255 - n

-- VRN, VRD, HRN, HRD, VRE, HRE (I.5.3.7)
abbrev pub grid_text : Grid → List ℕ
grid_text g = big_bytes 2 g.down.numerator ++ (big_bytes 2 g.down.denominator
    ++ (big_bytes 2 g.across.numerator ++ (big_bytes 2 g.across.denominator
    ++ (byte_of g.down.exponent ∷ byte_of g.across.exponent ∷ []))))

abbrev pub grid_boxes : ℕ → Option Grid → List Box
grid_boxes kind None = []
grid_boxes kind (Some g) = short_box kind (grid_text g) ∷ []

-- the resolution box: the capture resolution box, the default display resolution box
abbrev pub grids_box : Option Grid → Option Grid → Box
grids_box capture display = short_box resolution_kind
    (boxes_text (grid_boxes capture_kind capture ++ grid_boxes display_kind display))

abbrev pub resolution_box : Extras → Box
resolution_box e = grids_box e.capture e.display

abbrev pub resolution_boxes : Extras → List Box
resolution_boxes e = if has_grids e then resolution_box e ∷ [] else []

-- a box of XML, or a UUID and what stands behind it (I.7.1, I.7.2)
abbrev pub other_box : Other → Box
other_box (Xml x) = short_box xml_kind x.items
other_box (Uuid id x) = short_box uuid_kind (id ++ x.items)

abbrev pub others_boxes : Extras → List Box
others_boxes e = map other_box e.others.items

-- all of them
abbrev pub extra_boxes : ℕ → Extras → List Box
extra_boxes components e = colour_boxes components e.colour ++ (resolution_boxes e ++ others_boxes e)

-- a colour that a file of so many components may have
abbrev pub is_colour : ℕ → Colour → Bool
is_colour components AsItIs = true
is_colour components Enumerated = (components == 1) || (components == 3)
is_colour components (Profile p) = is_restricted components p.items

abbrev pub is_grid : Option Grid → Bool
is_grid None = true
is_grid (Some g) = not (has_zero g)

-- 1,024 boxes and 2^24 bytes at most
abbrev pub are_few : ℕ → Extras → Bool
are_few components e = nat_le (length (extra_boxes components e)) 1024
    && nat_le (length (boxes_text (extra_boxes components e))) (2 ^ 24)

-- what a file of so many components may be given
unfoldable pub is_extras : ℕ → Extras → Bool
is_extras components e = is_colour components e.colour
    && (is_grid e.capture && (is_grid e.display && are_few components e))
