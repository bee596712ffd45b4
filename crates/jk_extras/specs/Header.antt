-- What the JP2 header box tells (T.800 I.5.3).
use Rattle.std.specs.Prelude.{ℕ, ◌+◌, ◌==◌, ◌&&◌, not, nat_lt, Bool, true, false, if◌then◌else◌, List, length, drop}
use Rattle.std.specs.Prelude.{slice_index, Some, None, is_some, Result, Ok, Err}
use Rattle.byteorder.specs.Endian.{big_number}
use Rattle.jk_math.specs.Answer.{◌>>=◌}
use Rattle.jk_math.specs.declared.fault.Fault.{Fault}
use Rattle.jk_math.specs.declared.fault.Fault.TheVariants.{BadBox}
use Rattle.jk_boxes.specs.declared.boxes.BoxHead.{BoxHead}
use Rattle.jk_boxes.specs.Boxes.{head_size, colour_kind}
use Rattle.jk_boxes.specs.Reading.{contents_of}
use Rattle.jk_extras.specs.declared.header.ToldColour.{ToldColour}
use Rattle.jk_extras.specs.declared.header.ToldColour.TheVariants.{Nothing, Enumerated, Profile}
use Rattle.jk_extras.specs.declared.header.Met.{Met}
use Rattle.jk_extras.specs.Grids.{grids_at}
use Rattle.jk_extras.specs.Passing.{passed_by}

-- TBox of the resolution box, `res `
abbrev pub resolution_kind : ℕ
resolution_kind = 0x72657320

-- METH, PREC, APPROX, and then by METH EnumCS, or PROFILE; another method tells nothing
unfoldable pub colour_at : ℕ → List ℕ → Result ToldColour Fault
colour_at at contents =
    if nat_lt (length contents) 3 then Err BadBox
    else (if slice_index contents 0 == 1
    then (if length contents == 7 then Ok (Enumerated (big_number 4 (drop 3 contents))) else Err BadBox)
    else (if slice_index contents 0 == 2
    then (if length contents == 3 then Err BadBox else Ok (Profile (at + 3) (at + length contents)))
    else Ok Nothing))

abbrev pub is_nothing : ToldColour → Bool
is_nothing Nothing = true
is_nothing (Enumerated n) = false
is_nothing (Profile start end) = false

abbrev pub nothing_met : Met
nothing_met = record { colour = Nothing; resolution = None }

-- what is known once a box was passed: the first colour that tells something counts, and the first
-- resolution
unfoldable pub met_passed : Met → ℕ → BoxHead → List ℕ → Result Met Fault
met_passed met at box rest =
    if (box.kind == colour_kind) && is_nothing met.colour
    then (colour_at (at + head_size box.form) (contents_of box rest)
    >>= λ c. Ok (record { colour = c; resolution = met.resolution }))
    else (if (box.kind == resolution_kind) && not (is_some met.resolution)
    then (grids_at (contents_of box rest) >>= λ g. Ok (record { colour = met.colour; resolution = Some g }))
    else Ok met)

-- the contents of a JP2 header box, which stand at a place in the file
abbrev pub met_at : ℕ → List ℕ → Result Met Fault
met_at start contents = passed_by met_passed false (length contents) nothing_met start contents
