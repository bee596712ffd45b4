-- The boxes that are written, and a codestream box whose contents are replaced.
use Rattle.std.specs.Prelude.{ℕ, ◌+◌, ◌-◌, ◌^◌, Bool, true, ◌==◌, nat_lt, if◌then◌else◌, List, [], ◌∷◌, ◌++◌, length}
use Rattle.std.specs.Prelude.{Result, Ok, Err}
use Rattle.byteorder.specs.Endian.{big_bytes}
use Rattle.jk_math.specs.Picture.{Picture, is_grey_or_rgb}
use Rattle.jk_math.specs.declared.fault.Fault.{Fault}
use Rattle.jk_math.specs.declared.fault.Fault.TheVariants.{Unsupported, Limit}
use Rattle.jk_boxes.specs.declared.boxes.Form.{Form}
use Rattle.jk_boxes.specs.declared.boxes.Form.TheVariants.{Short, Long, Open}
use Rattle.jk_boxes.specs.Boxes.{Box, boxes_text, box_size, head_size, head_text, signature, jp2_brand, file_type_kind}
use Rattle.jk_boxes.specs.Boxes.{header_kind, image_header_kind, colour_kind, code_kind, IsJp2}

-- BR `jp2 `, MinV 0, and `jp2 ` alone in the compatibility list (I.5.2)
abbrev pub file_type_box : Box
file_type_box =
    record {
      form = Short;
      kind = file_type_kind;
      contents = big_bytes 4 jp2_brand ++ (big_bytes 4 0 ++ big_bytes 4 jp2_brand);
    }

-- HEIGHT, WIDTH, NC, BPC, C, UnkC, IPR (I.5.3.1)
abbrev pub image_header_of : ℕ → ℕ → ℕ → ℕ → List ℕ
image_header_of width height components depth = big_bytes 4 height
    ++ (big_bytes 4 width ++ (big_bytes 2 components ++ ((depth - 1) ∷ 7 ∷ 0 ∷ 0 ∷ [])))

-- EnumCS: greyscale, or sRGB (I.5.3.3)
abbrev pub colour_space : ℕ → ℕ
colour_space components = if components == 1 then 17 else 16

-- METH, PREC, APPROX, EnumCS (I.5.3.3)
abbrev pub colour_box : ℕ → Box
colour_box components =
    record { form = Short; kind = colour_kind; contents = 1 ∷ 0 ∷ 0 ∷ big_bytes 4 (colour_space components) }

-- the JP2 header box (I.5.3)
abbrev pub header_box : ℕ → ℕ → ℕ → ℕ → Box
header_box width height components depth = record {
  form = Short;
  kind = header_kind;
  contents = boxes_text
      (record { form = Short; kind = image_header_kind; contents = image_header_of width height components depth }
      ∷ colour_box components ∷ []);
}

-- the length in four bytes, or in eight where it needs them
abbrev pub form_for : ℕ → Form
form_for length = if nat_lt (8 + length) (2 ^ 32) then Short else Long

abbrev pub code_box : List ℕ → Box
code_box codestream = record { form = form_for (length codestream); kind = code_kind; contents = codestream }

-- the head of its box, by the length of the codestream
abbrev pub code_head : ℕ → List ℕ
code_head size = let form = form_for size in head_text form code_kind (head_size form + size)

abbrev pub is_wrapped : Picture → Bool
is_wrapped p = is_grey_or_rgb (length p.planes) p.signed

-- the JP2 file that is written for an image and its codestream
unfoldable pub wrapped : Picture → List ℕ → Result (List ℕ) Fault
wrapped p codestream =
    if is_wrapped p
    then Ok (signature
    ++ boxes_text
    (file_type_box ∷ header_box p.width p.height (length p.planes) p.depth ∷ code_box codestream ∷ []))
    else Err Unsupported

-- whether a length has this form
abbrev pub fits_form : Form → ℕ → Bool
fits_form Short size = nat_lt size (2 ^ 32)
fits_form Long size = nat_lt size (2 ^ 64)
fits_form Open size = true

-- a JP2 file with other contents in its codestream box, whose length keeps its form
unfoldable pub recoded : {bytes old : List ℕ} → IsJp2 bytes old → List ℕ → Result (List ℕ) Fault
recoded j codestream =
    let code : Box = record j.code { contents = codestream } in
    if fits_form code.form (box_size code)
    then Ok (signature ++ boxes_text (j.file_type ∷ (j.early ++ (j.header ∷ (j.middle ++ (code ∷ j.after))))))
    else Err Limit
