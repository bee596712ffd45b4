-- Resolutions (T.800 I.5.3.7).
use Rattle.std.specs.Prelude.{ℕ, ℤ, pos, negsuc, ◌+◌, ◌-◌, ◌==◌, ◌&&◌}
use Rattle.std.specs.Prelude.{◌||◌, not, nat_lt, Bool, false, if◌then◌else◌, List, length, drop}
use Rattle.std.specs.Prelude.{slice_index, Some, None, is_some, Result, Ok}
use Rattle.byteorder.specs.Endian.{big_number}
use Rattle.jk_math.specs.Answer.{◌>>=◌, refuse}
use Rattle.jk_math.specs.declared.fault.Fault.{Fault}
use Rattle.jk_math.specs.declared.fault.Fault.TheVariants.{BadBox, BadValue}
use Rattle.jk_boxes.specs.declared.boxes.BoxHead.{BoxHead}
use Rattle.jk_boxes.specs.Reading.{contents_of}
use Rattle.jk_extras.specs.declared.grids.Ratio.{Ratio}
use Rattle.jk_extras.specs.declared.grids.Grid.{Grid}
use Rattle.jk_extras.specs.declared.grids.Grids.{Grids}
use Rattle.jk_extras.specs.Passing.{passed_by}

-- TBox of the boxes within a resolution box: `resc`, `resd`
abbrev pub capture_kind : ℕ
capture_kind = 0x72657363

abbrev pub display_kind : ℕ
display_kind = 0x72657364

-- a byte in two's complement
abbrev pub signed_byte : ℕ → ℤ
signed_byte b = if nat_lt b 128 then pos b else negsuc (255 - b)

-- the numerator at a place, the denominator behind it, and the exponent at another place
abbrev pub ratio_of : (at exponent : ℕ) → List ℕ → Ratio
ratio_of at exponent contents =
    record {
      numerator = big_number 2 (drop at contents);
      denominator = big_number 2 (drop (at + 2) contents);
      exponent = signed_byte (slice_index contents exponent);
    }

abbrev pub has_zero : Grid → Bool
has_zero g =
    (g.down.numerator == 0) || (g.down.denominator == 0) || (g.across.numerator == 0) || (g.across.denominator == 0)

-- the vertical ratio, the horizontal one, and their exponents
abbrev pub grid_of : List ℕ → Grid
grid_of contents = record { down = ratio_of 0 8 contents; across = ratio_of 4 9 contents }

unfoldable pub grid_at : List ℕ → Result Grid Fault
grid_at contents = do
  _ ← refuse (not (length contents == 10)) BadBox
  _ ← refuse (has_zero (grid_of contents)) BadValue
  Ok (grid_of contents)

abbrev pub no_grids : Grids
no_grids = record { capture = None; display = None }

-- what is known once a box was passed: the first of each kind counts
unfoldable pub grids_passed : Grids → BoxHead → List ℕ → Result Grids Fault
grids_passed known box rest =
    if (box.kind == capture_kind) && not (is_some known.capture)
    then (grid_at (contents_of box rest) >>= λ g. Ok (record { capture = Some g; display = known.display }))
    else (if (box.kind == display_kind) && not (is_some known.display)
    then (grid_at (contents_of box rest) >>= λ g. Ok (record { capture = known.capture; display = Some g }))
    else Ok known)

-- wherever the box stands
abbrev pub grids_step : Grids → ℕ → BoxHead → List ℕ → Result Grids Fault
grids_step known at box rest = grids_passed known box rest

-- the contents of a resolution box
abbrev pub grids_at : List ℕ → Result Grids Fault
grids_at contents = passed_by grids_step false (length contents) no_grids 0 contents
