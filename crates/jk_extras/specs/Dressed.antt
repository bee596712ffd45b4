-- A JP2 file with extras: which boxes it has (T.800 I.5, I.7).
use Rattle.std.specs.Prelude.{◌≡◌, ℕ, ◌+◌, not, if◌then◌else◌, List, ◌∷◌, ◌++◌, length, drop, Result, Ok, Err}
use Rattle.std.specs.List.{filter}
use Rattle.byteorder.specs.Endian.{big_number}
use Rattle.jk_math.specs.declared.fault.Fault.{Fault}
use Rattle.jk_math.specs.declared.fault.Fault.TheVariants.{BadParameters, Limit}
use Rattle.jk_boxes.specs.Boxes.{Box, IsJp2, jp2_place, boxes_text, box_size, signature, image_header_kind}
use Rattle.jk_boxes.specs.Written.{fits_form}
use Rattle.jk_extras.specs.declared.values.Extras.{Extras}
use Rattle.jk_extras.specs.Extras.{is_extras, goes, short_box, colour_boxes, resolution_boxes, others_boxes}

-- NC of the contents of an image header box (I.5.3.1)
abbrev pub components_of : List ℕ → ℕ
components_of image = big_number 2 (drop 8 image)

-- the boxes behind the image header box: the colour that is given, those that stay in their order,
-- the resolution that is given
abbrev pub header_boxes : ℕ → Extras → List Box → List Box
header_boxes components e others = colour_boxes components e.colour
    ++ (filter (λ (b : Box). not (goes e b.kind)) others ++ resolution_boxes e)

-- the JP2 header box, whose length keeps its form
abbrev pub dressed_header : {bytes codestream : List ℕ} → IsJp2 bytes codestream → Extras → Box
dressed_header j e =
    record j.header {
      contents = boxes_text (short_box image_header_kind j.header_next.1.image
          ∷ header_boxes (components_of j.header_next.1.image) e j.header_next.1.others);
    }

-- the file: XML and UUIDs that are given stand right before the codestream box
unfoldable pub dressed : {bytes codestream : List ℕ} → IsJp2 bytes codestream → Extras → Result (List ℕ) Fault
dressed j e =
    if is_extras (components_of j.header_next.1.image) e
    then (if fits_form (dressed_header j e).form (box_size (dressed_header j e))
    then Ok (signature ++ boxes_text (j.file_type ∷ (j.early
    ++ (dressed_header j e ∷ (j.middle ++ (others_boxes e ++ (j.code ∷ j.after)))))))
    else Err Limit)
    else Err BadParameters

-- The text is the file with extras: it holds the same codestream. Of its boxes all but the first
-- JP2 header box are those of the file, in their order, and those that are given. The codestream
-- moves by as much as the file grows.
pub record IsDressed {bytes codestream : List ℕ} (j : IsJp2 bytes codestream) (e : Extras)
    (text : List ℕ) : Type 0 where
  pub is : IsJp2 text codestream
  pub file_type : is.file_type ≡ j.file_type
  pub early : is.early ≡ j.early
  pub header : is.header ≡ dressed_header j e
  pub header_boxes_are : is.header_next.1.others
      ≡ header_boxes (components_of j.header_next.1.image) e j.header_next.1.others
  pub middle : is.middle ≡ j.middle ++ others_boxes e
  pub code : is.code ≡ j.code
  pub after : is.after ≡ j.after
  pub start : (jp2_place is).start + length bytes ≡ (jp2_place j).start + length text
  pub end : (jp2_place is).end + length bytes ≡ (jp2_place j).end + length text
