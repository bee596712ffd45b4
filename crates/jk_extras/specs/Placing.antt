-- What stands where in a file with extras, by places in the file as it was, with the first fault
-- that is met.
use Rattle.std.specs.Prelude.{ℕ, ◌+◌, not, nat_lt, false, if◌then◌else◌, List, ◌++◌, length, take, drop, slice_range}
use Rattle.std.specs.Prelude.{Result, Ok, Err}
use Rattle.byteorder.specs.Endian.{big_number}
use Rattle.jk_math.specs.Answer.{◌>>=◌, refuse}
use Rattle.jk_math.specs.declared.fault.Fault.{Fault}
use Rattle.jk_math.specs.declared.fault.Fault.TheVariants.{BadBox, BadParameters, Limit}
use Rattle.jk_boxes.specs.declared.boxes.BoxHead.{BoxHead}
use Rattle.jk_boxes.specs.Boxes.{boxes_text, head_size, head_text, header_kind}
use Rattle.jk_boxes.specs.Reading.{boxes_at, contents_of}
use Rattle.jk_boxes.specs.Written.{fits_form}
use Rattle.jk_extras.specs.declared.finding.Wanted.TheVariants.{Header, Code}
use Rattle.jk_extras.specs.declared.finding.Found.{Found}
use Rattle.jk_extras.specs.declared.values.Extras.{Extras}
use Rattle.jk_extras.specs.Passing.{passed_by}
use Rattle.jk_extras.specs.Finding.{one_found}
use Rattle.jk_extras.specs.Extras.{is_extras, goes, colour_boxes, resolution_boxes, others_boxes}

-- what stands there once a box was passed: it stays or gives way
abbrev pub kept_step : Extras → List ℕ → ℕ → BoxHead → List ℕ → Result (List ℕ) Fault
kept_step e known at box rest = if goes e box.kind then Ok known else Ok (known ++ take box.size rest)

-- what is known, and behind it the boxes that stay
abbrev pub kept_after : Extras → List ℕ → List ℕ → Result (List ℕ) Fault
kept_after e known boxes = passed_by (kept_step e) false (length boxes) known 0 boxes

-- how the contents of the JP2 header box begin: the image header box, of whose contents NC is at 8,
-- and the colour that is given
abbrev pub header_begun : Extras → List ℕ → List ℕ
header_begun e contents = take 22 contents ++ boxes_text (colour_boxes (big_number 2 (drop 16 contents)) e.colour)

-- the contents of the JP2 header box
unfoldable pub header_dressed : Extras → List ℕ → Result (List ℕ) Fault
header_dressed e contents = do
  _ ← refuse (nat_lt (length contents) 22) BadBox
  _ ← refuse (not (is_extras (big_number 2 (drop 16 contents)) e)) BadParameters
  text ← kept_after e (header_begun e contents) (drop 22 contents)
  Ok (text ++ boxes_text (resolution_boxes e))

-- the file, with other contents in the JP2 header box and boxes before the codestream box
unfoldable pub dressed_at : Found → ℕ → List ℕ → List ℕ → List ℕ → Result (List ℕ) Fault
dressed_at header code contents others file =
    let size = head_size header.head.form + length contents in
    if fits_form header.head.form size
    then Ok (take header.at file ++ (head_text header.head.form header_kind size ++ (contents
    ++ (slice_range file (header.at + header.head.size) code ++ (others ++ drop code file)))))
    else Err Limit

unfoldable pub with_extras_at : Extras → List ℕ → Result (List ℕ) Fault
with_extras_at e file = do
  place ← boxes_at file
  _ ← refuse (not place.jp2) BadParameters
  header ← one_found Header 12 file
  code ← one_found Code (header.at + header.head.size) file
  contents ← header_dressed e (contents_of header.head (drop header.at file))
  dressed_at header code.at contents (boxes_text (others_boxes e)) file
