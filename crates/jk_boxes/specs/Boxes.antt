-- The boxes of a JP2 file (T.800 Annex I). A file is spelled, not read: the boxes are given, and
-- their text is the file.
use Rattle.std.specs.Prelude.{◌≡◌, ℕ, ◌+◌, ◌<◌, ◌^◌, ◌≢◌, ◌⊎◌, ◌==◌, Bool, true, false, List, [], ◌∷◌, ◌++◌, length}
use Rattle.std.specs.Prelude.{slice_index}
use Rattle.std.specs.List.{flat_map, list_any, AllByRecursion}
use Rattle.std.proofs.Common.{inl, inr}
use Rattle.byteorder.specs.Endian.{big_bytes}
use Rattle.jk_boxes.specs.declared.boxes.Form.{Form}
use Rattle.jk_boxes.specs.declared.boxes.Form.TheVariants.{Short, Long, Open}
use Rattle.jk_boxes.specs.declared.place.Boxed.{Boxed}

-- TBox of the boxes that are asked for (Table I.2), and the brand
abbrev pub file_type_kind : ℕ
file_type_kind = 0x66747970

abbrev pub header_kind : ℕ
header_kind = 0x6A703268

abbrev pub image_header_kind : ℕ
image_header_kind = 0x69686472

abbrev pub colour_kind : ℕ
colour_kind = 0x636F6C72

abbrev pub palette_kind : ℕ
palette_kind = 0x70636C72

abbrev pub code_kind : ℕ
code_kind = 0x6A703263

abbrev pub jp2_brand : ℕ
jp2_brand = 0x6A703220

-- the signature box (I.5.1)
abbrev pub signature : List ℕ
signature = 0 ∷ 0 ∷ 0 ∷ 12 ∷ 0x6A ∷ 0x50 ∷ 0x20 ∷ 0x20 ∷ 0x0D ∷ 0x0A ∷ 0x87 ∷ 0x0A ∷ []

-- the marker SOC, with which a codestream begins
abbrev pub soc : List ℕ
soc = 0xFF ∷ 0x4F ∷ []

-- A box (I.4): how its length is told, TBox, DBox.
pub record Box : Type 0 where
  pub form : Form
  pub kind : ℕ
  pub contents : List ℕ

abbrev pub is_open : Form → Bool
is_open Short = false
is_open Long = false
is_open Open = true

-- how many bytes stand before the contents
abbrev pub head_size : Form → ℕ
head_size Short = 8
head_size Long = 16
head_size Open = 8

-- LBox, TBox, XLBox: the length of the whole box in LBox; in XLBox, where LBox is 1; or up to the
-- end of the file, where LBox is 0
abbrev pub head_text : Form → ℕ → ℕ → List ℕ
head_text Short kind size = big_bytes 4 size ++ big_bytes 4 kind
head_text Long kind size = big_bytes 4 1 ++ (big_bytes 4 kind ++ big_bytes 8 size)
head_text Open kind size = big_bytes 4 0 ++ big_bytes 4 kind

abbrev pub box_size : Box → ℕ
box_size b = head_size b.form + length b.contents

unfoldable pub box_text : Box → List ℕ
box_text b = head_text b.form b.kind (box_size b) ++ b.contents

abbrev pub boxes_text : List Box → List ℕ
boxes_text boxes = flat_map box_text boxes

-- the length has a form
abbrev pub FitsForm : Form → ℕ → Type 0
FitsForm Short size = size < 2 ^ 32
FitsForm Long size = size < 2 ^ 64
FitsForm Open size = Unit {0}

pub record IsBox (b : Box) : Type 0 where
  pub kind : b.kind < 2 ^ 32
  pub size : FitsForm b.form (box_size b)

-- boxes one after another, none but the last left open
abbrev pub AreBoxes : List Box → Type 0
AreBoxes [] = Unit {0}
AreBoxes (b ∷ bs) = IsBox b × (is_open b.form ≡ true → bs ≡ []) × AreBoxes bs

-- The contents of the file type box (I.5.2): BR, MinV, and the compatibility list, in which `jp2 `
-- stands.
pub record IsFileType (contents : List ℕ) : Type 0 where
  pub brand : ℕ
  pub version : ℕ
  pub compatible : List ℕ
  pub text : contents ≡ big_bytes 4 brand ++ (big_bytes 4 version ++ flat_map (big_bytes 4) compatible)
  pub narrow : AllByRecursion (λ n. n < 2 ^ 32) (brand ∷ version ∷ compatible)
  pub listed : list_any (λ n. n == jp2_brand) compatible ≡ true

-- a box within another that ends before the file does by its own length, and not of this kind
pub record IsInner (kind : ℕ) (b : Box) : Type 0 where
  pub box : IsBox b
  pub closed : is_open b.form ≡ false
  pub other : b.kind ≢ kind

-- The contents of the JP2 header box (I.5.3): the image header box with the compression type 7
-- (I.5.3.1), and boxes of which none is a palette.
pub record IsHeaderBox (contents : List ℕ) : Type 0 where
  pub image : List ℕ
  pub others : List Box
  pub text : contents ≡ boxes_text (record { form = Short; kind = image_header_kind; contents = image } ∷ others)
  pub size : length image ≡ 14
  pub compression : slice_index image 11 ≡ 7
  pub plain : AllByRecursion (IsInner palette_kind) others

-- A JP2 file (I.5). The first JP2 header box stands before the first codestream box.
pub record IsJp2 (bytes codestream : List ℕ) : Type 0 where
  pub file_type : Box
  pub early : List Box
  pub header : Box
  pub middle : List Box
  pub code : Box
  pub after : List Box
  pub text : bytes ≡ signature ++ boxes_text (file_type ∷ (early ++ (header ∷ (middle ++ (code ∷ after)))))
  pub boxes : AreBoxes (file_type ∷ (early ++ (header ∷ (middle ++ (code ∷ after)))))
  pub file_type_first : (file_type.kind ≡ file_type_kind) × IsFileType file_type.contents
  pub before_header : AllByRecursion (λ b. (b.kind ≢ header_kind) × (b.kind ≢ code_kind)) early
  pub header_next : (header.kind ≡ header_kind) × IsHeaderBox header.contents
  pub before_code : AllByRecursion (λ b. b.kind ≢ code_kind) middle
  pub code_next : (code.kind ≡ code_kind) × (code.contents ≡ codestream)

-- a bare codestream
pub record IsBare (bytes codestream : List ℕ) : Type 0 where
  pub others : List ℕ
  pub text : bytes ≡ soc ++ others
  pub whole : codestream ≡ bytes

-- the bytes hold this codestream
abbrev pub HoldsCodestream : List ℕ → List ℕ → Type 0
HoldsCodestream bytes codestream = IsBare bytes codestream ⊎ IsJp2 bytes codestream

-- what stands before the codestream box of a JP2 file
abbrev pub text_before : {bytes codestream : List ℕ} → IsJp2 bytes codestream → List ℕ
text_before j = signature ++ boxes_text (j.file_type ∷ (j.early ++ (j.header ∷ j.middle)))

-- The place of the codestream: the whole of a bare file; in a JP2 file the contents of the
-- codestream box, behind all that stands before the box and behind its head.
abbrev pub bare_place : List ℕ → Boxed
bare_place bytes = record { start = 0; end = length bytes; jp2 = false }

abbrev pub jp2_place : {bytes codestream : List ℕ} → IsJp2 bytes codestream → Boxed
jp2_place j =
    record {
      start = length (text_before j) + head_size j.code.form;
      end = length (text_before j) + box_size j.code;
      jp2 = true;
    }

-- the bytes hold this codestream at this place
abbrev pub HoldsAt : List ℕ → List ℕ → Boxed → Type 0
HoldsAt bytes codestream b = (IsBare bytes codestream × (b ≡ bare_place bytes))
    ⊎ ((j : IsJp2 bytes codestream) × (b ≡ jp2_place j))

-- how the length of the codestream box is told; Open where there is none
abbrev pub form_of : {bytes codestream : List ℕ} {place : Boxed} → HoldsAt bytes codestream place → Form
form_of (inl bare) = Open
form_of (inr jp2) = jp2.0.code.form
