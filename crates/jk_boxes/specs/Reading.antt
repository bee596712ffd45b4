-- Reading boxes from left to right, with the first fault that is met.
use Rattle.std.specs.Prelude.{ℕ, zero, suc, ◌+◌, ◌%◌, List, [], ◌∷◌, length, drop, Bool, true, false, not, ◌&&◌, ◌||◌}
use Rattle.std.specs.Prelude.{◌==◌, nat_lt, nat_eq, if◌then◌else◌, Result, Ok, Err, slice_index, slice_range}
use Rattle.std.specs.List.{starts_with}
use Rattle.byteorder.specs.Endian.{big_number}
use Rattle.jk_math.specs.Answer.{◌>>=◌, refuse}
use Rattle.jk_math.specs.declared.fault.Fault.{Fault}
use Rattle.jk_math.specs.declared.fault.Fault.TheVariants.{Truncated, BadBox, Unsupported}
use Rattle.jk_boxes.specs.declared.boxes.Form.{Form}
use Rattle.jk_boxes.specs.declared.boxes.Form.TheVariants.{Short, Long, Open}
use Rattle.jk_boxes.specs.declared.boxes.BoxHead.{BoxHead}
use Rattle.jk_boxes.specs.declared.place.CodePlace.{CodePlace}
use Rattle.jk_boxes.specs.declared.place.Seen.{Seen}
use Rattle.jk_boxes.specs.declared.place.Seen.TheVariants.{Nothing, Header, Code}
use Rattle.jk_boxes.specs.declared.place.Boxed.{Boxed}
use Rattle.jk_boxes.specs.Boxes.{file_type_kind, header_kind, image_header_kind, palette_kind, code_kind, jp2_brand}
use Rattle.jk_boxes.specs.Boxes.{signature, soc, head_size}

-- how the length of the box that begins the bytes is told, and the length; `ends`: the file ends
-- with these bytes
unfoldable pub length_at : Bool → List ℕ → Result (Form × ℕ) Fault
length_at ends rest =
    if big_number 4 rest == 0 then (if ends then Ok (Open, length rest) else Err Truncated)
    else (if big_number 4 rest == 1 then
    (if nat_lt (length rest) 16 then Err Truncated
    else (if nat_lt (big_number 8 (drop 8 rest)) 16 then Err BadBox else Ok (Long, big_number 8 (drop 8 rest))))
    else (if nat_lt (big_number 4 rest) 8 then Err BadBox else Ok (Short, big_number 4 rest)))

-- the head of the box that begins the bytes, all of which stands in them
unfoldable pub box_at : Bool → List ℕ → Result BoxHead Fault
box_at ends rest = do
  _ ← refuse (nat_lt (length rest) 8) Truncated
  size ← length_at ends rest
  _ ← refuse (nat_lt (length rest) size.1) Truncated
  Ok (record { form = size.0; kind = big_number 4 (drop 4 rest); size = size.1 })

-- the contents of a box that begins the bytes
abbrev pub contents_of : BoxHead → List ℕ → List ℕ
contents_of box rest = slice_range rest (head_size box.form) box.size

-- a box of this kind
unfoldable pub box_of_kind_at : ℕ → Bool → List ℕ → Result BoxHead Fault
box_of_kind_at kind ends rest = do
  _ ← refuse (length rest == 0) BadBox
  box ← box_at ends rest
  _ ← refuse (not (box.kind == kind)) BadBox
  Ok box

-- whether `jp2 ` stands among the numbers of four bytes
unfoldable pub names_jp2 : List ℕ → Bool
names_jp2 (a ∷ b ∷ c ∷ d ∷ rest) = (big_number 4 (a ∷ b ∷ c ∷ d ∷ []) == jp2_brand) || names_jp2 rest
names_jp2 rest = false

unfoldable pub file_type_at : List ℕ → Result ℕ Fault
file_type_at rest = do
  box ← box_of_kind_at file_type_kind true rest
  _ ← refuse (nat_lt (length (contents_of box rest)) 8 || not (length (contents_of box rest) % 4 == 0)) BadBox
  _ ← refuse (not (names_jp2 (drop 8 (contents_of box rest)))) Unsupported
  Ok box.size

-- boxes of which none is a palette, at most n of them
unfoldable pub no_palette_at : ℕ → Bool → List ℕ → Result (Unit {0}) Fault
no_palette_at zero ends rest = Ok tt
no_palette_at (suc n) ends rest =
    if length rest == 0 then Ok tt
    else (box_at ends rest >>= λ box. refuse (box.kind == palette_kind) Unsupported
    >>= λ _. no_palette_at n ends (drop box.size rest))

abbrev pub is_short : Form → Bool
is_short Short = true
is_short Long = false
is_short Open = false

-- the contents of a JP2 header box
unfoldable pub header_at : Bool → List ℕ → Result (Unit {0}) Fault
header_at ends contents = do
  first ← box_of_kind_at image_header_kind ends contents
  _ ← refuse (not (is_short first.form && (first.size == 22))) BadBox
  _ ← refuse (not (slice_index contents 19 == 7)) Unsupported
  no_palette_at (length (drop 22 contents)) ends (drop 22 contents)

-- what has been seen once this box was passed, which stands at `at` in the file
unfoldable pub passed : Seen → ℕ → BoxHead → List ℕ → Result Seen Fault
passed Nothing at box rest =
    if box.kind == header_kind then (header_at (box.size == length rest) (contents_of box rest) >>= λ _. Ok Header)
    else (if box.kind == code_kind then Err BadBox else Ok Nothing)
passed Header at box rest =
    if box.kind == code_kind
    then Ok (Code (record { form = box.form; start = at + head_size box.form; end = at + box.size })) else Ok Header
passed (Code place) at box rest = Ok (Code place)

-- the codestream box, once all boxes were passed
abbrev pub place_in : Seen → Result CodePlace Fault
place_in Nothing = Err BadBox
place_in Header = Err BadBox
place_in (Code place) = Ok place

-- the boxes up to the end of the file, at most n of them
unfoldable pub walk_at : ℕ → Seen → ℕ → List ℕ → Result CodePlace Fault
walk_at zero seen at rest = place_in seen
walk_at (suc n) seen at rest =
    if length rest == 0 then place_in seen
    else (box_at true rest >>= λ box. passed seen at box rest
    >>= λ next. walk_at n next (at + box.size) (drop box.size rest))

unfoldable pub signature_at : List ℕ → Result (Unit {0}) Fault
signature_at bytes =
    if starts_with nat_eq bytes signature then Ok tt
    else (if nat_lt (length bytes) 12 && starts_with nat_eq signature bytes then Err Truncated else Err BadBox)

-- the codestream box of a JP2 file
unfoldable pub jp2_at : List ℕ → Result CodePlace Fault
jp2_at bytes = do
  _ ← signature_at bytes
  size ← file_type_at (drop 12 bytes)
  walk_at (length bytes) Nothing (12 + size) (drop (12 + size) bytes)

-- the place of the codestream
unfoldable pub boxes_at : List ℕ → Result Boxed Fault
boxes_at bytes =
    if nat_lt (length bytes) 2 then Err Truncated
    else (if starts_with nat_eq bytes soc then Ok (record { start = 0; end = length bytes; jp2 = false })
    else (jp2_at bytes >>= λ place. Ok (record { start = place.start; end = place.end; jp2 = true })))

-- how the length of the codestream box is told; Open where there is none
unfoldable pub form_at : List ℕ → Result Form Fault
form_at bytes = if starts_with nat_eq bytes soc then Ok Open else (jp2_at bytes >>= λ place. Ok place.form)
