-- Examples: boxes of T.800 Annex I, byte by byte.
use Rattle.std.specs.Prelude.{◌≡◌, [], ◌∷◌, refl}
use Rattle.jk_boxes.specs.declared.boxes.Form.TheVariants.{Short, Long, Open}
use Rattle.jk_boxes.specs.Boxes.{Box, box_text, box_size, file_type_kind, colour_kind, code_kind, soc}

-- The file type box: the brand jp2, its version 0, and jp2 as the one that it is compatible with.
row_file_type : box_text (record {
  form = Short;
  kind = file_type_kind;
  contents = 0x6A ∷ 0x70 ∷ 0x32 ∷ 0x20 ∷ 0 ∷ 0 ∷ 0 ∷ 0 ∷ 0x6A ∷ 0x70 ∷ 0x32 ∷ 0x20 ∷ [];
}) ≡ 0 ∷ 0 ∷ 0 ∷ 0x14 ∷ 0x66 ∷ 0x74 ∷ 0x79 ∷ 0x70
    ∷ 0x6A ∷ 0x70 ∷ 0x32 ∷ 0x20 ∷ 0 ∷ 0 ∷ 0 ∷ 0 ∷ 0x6A ∷ 0x70 ∷ 0x32 ∷ 0x20 ∷ []
unfolding box_text
row_file_type = refl

-- a colour specification box of the enumerated greyscale, 17
row_colour : box_text (record { form = Short; kind = colour_kind; contents = 1 ∷ 0 ∷ 0 ∷ 0 ∷ 0 ∷ 0 ∷ 0x11 ∷ [] })
    ≡ 0 ∷ 0 ∷ 0 ∷ 15 ∷ 0x63 ∷ 0x6F ∷ 0x6C ∷ 0x72 ∷ 1 ∷ 0 ∷ 0 ∷ 0 ∷ 0 ∷ 0 ∷ 0x11 ∷ []
unfolding box_text
row_colour = refl

-- A codestream box whose length stands in XLBox: LBox is 1, and XLBox counts the 16 bytes before
-- the contents.
row_long : box_text (record { form = Long; kind = code_kind; contents = soc })
    ≡ 0 ∷ 0 ∷ 0 ∷ 1 ∷ 0x6A ∷ 0x70 ∷ 0x32 ∷ 0x63 ∷ 0 ∷ 0 ∷ 0 ∷ 0 ∷ 0 ∷ 0 ∷ 0 ∷ 0x12 ∷ 0xFF ∷ 0x4F ∷ []
unfolding box_text
row_long = refl

-- one that goes on to the end of the file
row_open : box_text (record { form = Open; kind = code_kind; contents = soc })
    ≡ 0 ∷ 0 ∷ 0 ∷ 0 ∷ 0x6A ∷ 0x70 ∷ 0x32 ∷ 0x63 ∷ 0xFF ∷ 0x4F ∷ []
unfolding box_text
row_open = refl
