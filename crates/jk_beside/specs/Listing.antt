-- The lines that `jk extras` writes: a LABEL, a colon, a space and a VALUE. Those of a file with a
-- profile beside sRGB, 300 samples by the inch, XML and XMP are these: colour: profile=480 colour: sRGB
-- capture: 15000/127e2x15000/127e2 xml: 120 uuid: be7acfcb97a942e89c71999491e3afac=300
use Rattle.std.specs.Prelude.{◌≡◌, ℕ, ◌-◌, ◌==◌, ◌⊎◌, nat_lt, false, if◌then◌else◌}
use Rattle.std.specs.Prelude.{List, [], ◌∷◌, ◌++◌, length, take, drop, slice_index, slice_range, codes}
use Rattle.std.specs.Prelude.{Option, Some, None, Result, Ok, Err}
use Rattle.std.specs.Fmt.{decimal, signed_decimal}
use Rattle.byteorder.specs.Endian.{big_number}
use Rattle.hex.specs.Hex.{encode_lower}
use Rattle.jk_math.specs.Answer.{◌>>=◌}
use Rattle.jk_math.specs.declared.fault.Fault.{Fault}
use Rattle.jk_math.specs.declared.fault.Fault.TheVariants.{BadBox}
use Rattle.jk_boxes.specs.declared.boxes.BoxHead.{BoxHead}
use Rattle.jk_boxes.specs.Boxes.{colour_kind}
use Rattle.jk_boxes.specs.Reading.{boxes_at, contents_of}
use Rattle.jk_extras.specs.declared.grids.Ratio.{Ratio}
use Rattle.jk_extras.specs.declared.grids.Grid.{Grid}
use Rattle.jk_extras.specs.declared.finding.Found.{Found}
use Rattle.jk_extras.specs.Passing.{passed_by}
use Rattle.jk_extras.specs.Finding.{xml_kind, header_found}
use Rattle.jk_extras.specs.declared.told.Told.{Told}
use Rattle.jk_extras.specs.Reading.{extras_at}
use Rattle.jk_beside.specs.Others.{AreOthers, AreBefore, AreBroken, held_bytes}

-- LABEL: VALUE, and LF
abbrev pub told_line : List ℕ → List ℕ → List ℕ
told_line label value = label ++ (58 ∷ 32 ∷ (value ++ 10 ∷ []))

-- ---- the colour specification boxes (T.800 I.5.3.3)

-- the name of an enumerated colour space (table I.10)
abbrev pub space_name : ℕ → List ℕ
space_name n =
    if n == 16 then codes "sRGB"
    else (if n == 17 then codes "grey"
    else (if n == 18 then codes "sYCC" else codes "enumerated=" ++ decimal n))

-- METH 1: EnumCS of four bytes
abbrev pub enumerated_value : List ℕ → List ℕ
enumerated_value contents =
    if length contents == 7 then space_name (big_number 4 (drop 3 contents)) else codes "broken"

-- METH 2: a profile of so many bytes
abbrev pub profile_value : List ℕ → List ℕ
profile_value contents =
    if nat_lt 3 (length contents) then codes "profile=" ++ decimal (length contents - 3) else codes "broken"

-- another METH, by its number
abbrev pub method_value : List ℕ → List ℕ
method_value contents = codes "method=" ++ decimal (slice_index contents 0)

-- what the contents say by METH
unfoldable pub colour_value : List ℕ → List ℕ
colour_value contents =
    if nat_lt (length contents) 3 then codes "broken"
    else (if slice_index contents 0 == 1 then enumerated_value contents
    else (if slice_index contents 0 == 2 then profile_value contents
    else method_value contents))

abbrev pub colour_step : List ℕ → ℕ → BoxHead → List ℕ → Result (List ℕ) Fault
colour_step known at box rest =
    if box.kind == colour_kind
    then Ok (known ++ told_line (codes "colour") (colour_value (contents_of box rest)))
    else Ok known

-- a line for each of the boxes of a JP2 header box
abbrev pub colours_in : List ℕ → Result (List ℕ) Fault
colours_in header = passed_by colour_step false (length header) [] 0 header

unfoldable pub colours_at : List ℕ → Result (List ℕ) Fault
colours_at file = boxes_at file >>= λ place. if place.jp2
    then (header_found file >>= λ span. colours_in (slice_range file span.0 span.1))
    else Ok []

-- ---- the resolutions (I.5.3.7)

-- N/DeE: N / D * 10^E samples by the metre
abbrev pub ratio_text : Ratio → List ℕ
ratio_text r = decimal r.numerator ++ (47 ∷ (decimal r.denominator ++ (101 ∷ signed_decimal r.exponent)))

-- those of a row, `x`, those of a column
abbrev pub grid_value : Grid → List ℕ
grid_value g = ratio_text g.across ++ (120 ∷ ratio_text g.down)

abbrev pub grid_line : List ℕ → Option Grid → List ℕ
grid_line label None = []
grid_line label (Some g) = told_line label (grid_value g)

-- ---- XML and boxes under UUIDs (I.7)

-- the size of XML; a UUID, and the size of what stands behind it
unfoldable pub other_line : ℕ → List ℕ → Result (List ℕ) Fault
other_line kind contents =
    if kind == xml_kind then Ok (told_line (codes "xml") (decimal (length contents)))
    else (if nat_lt (length contents) 16 then Err BadBox
    else Ok (told_line (codes "uuid") (encode_lower (take 16 contents) ++ (61 ∷ decimal (length contents - 16)))))

-- the same behind what is known
abbrev pub other_behind : List ℕ → ℕ → List ℕ → Result (List ℕ) Fault
other_behind known kind contents = other_line kind contents >>= λ line. Ok (known ++ line)

-- a line for each of these boxes
abbrev pub AreLines : List ℕ → List Found → List ℕ → Type 0
AreLines file [] text = text ≡ []
AreLines file (f ∷ fs) text =
    (line : List ℕ) × (rest : List ℕ) × (other_line f.head.kind (held_bytes file f) ≡ Ok line) × AreLines file fs rest × (text ≡ line ++ rest)

-- a line for each box from a place on
abbrev pub IsOthersText : List ℕ → ℕ → List ℕ → Type 0
IsOthersText file at text = (fs : List Found) × AreOthers file at fs × AreLines file fs text

-- Each box has a line up to one that can't be read, or that has none.
abbrev pub IsOthersFault : List ℕ → ℕ → Fault → Type 0
IsOthersFault file at e =
    ((fs : List Found) × (text : List ℕ) × AreBroken file at fs e × AreLines file fs text)
    ⊎ ((fs : List Found) × (text : List ℕ) × (f : Found) × AreBefore file at fs f × AreLines file fs text
    × (other_line f.head.kind (held_bytes file f) ≡ Err e))

-- ---- all of them

-- what the lines are of what is told, behind those of the colours
abbrev pub grid_lines : Told → List ℕ
grid_lines told = grid_line (codes "capture") told.capture ++ grid_line (codes "display") told.display

pub record IsListing (file text : List ℕ) : Type 0 where
  pub told : Told
  pub colours : List ℕ
  pub others : List ℕ
  pub extras : extras_at file ≡ Ok told
  pub colour : colours_at file ≡ Ok colours
  pub other : IsOthersText file told.others others
  pub text_is : text ≡ (colours ++ grid_lines told) ++ others

-- why there are none
abbrev pub IsUnlisted : List ℕ → Fault → Type 0
IsUnlisted file e =
    (extras_at file ≡ Err e)
    ⊎ ((told : Told) × (extras_at file ≡ Ok told) × ((colours_at file ≡ Err e) ⊎ IsOthersFault file told.others e))
