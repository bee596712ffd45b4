-- What a file keeps beside the samples, with the first fault that is met.
use Rattle.std.specs.Prelude.{ℕ, if◌then◌else◌, List, length, slice_range, Option, Some, None, Result, Ok}
use Rattle.jk_math.specs.Answer.{◌>>=◌}
use Rattle.jk_math.specs.declared.fault.Fault.{Fault}
use Rattle.jk_boxes.specs.Reading.{boxes_at}
use Rattle.jk_extras.specs.declared.header.ToldColour.TheVariants.{Nothing}
use Rattle.jk_extras.specs.declared.header.Met.{Met}
use Rattle.jk_extras.specs.declared.grids.Grids.{Grids}
use Rattle.jk_extras.specs.declared.told.Told.{Told}
use Rattle.jk_extras.specs.Grids.{no_grids}
use Rattle.jk_extras.specs.Header.{met_at}
use Rattle.jk_extras.specs.Finding.{header_found}

abbrev pub grids_or_none : Option Grids → Grids
grids_or_none None = no_grids
grids_or_none (Some g) = g

-- what is told of what was met; boxes begin behind the signature
abbrev pub told_of : Met → Told
told_of met =
    record {
      colour = met.colour;
      capture = (grids_or_none met.resolution).capture;
      display = (grids_or_none met.resolution).display;
      others = 12;
    }

-- a bare codestream of so many bytes keeps nothing
abbrev pub nothing_told : ℕ → Told
nothing_told size = record { colour = Nothing; capture = None; display = None; others = size }

-- the first fault of the boxes, then of the first JP2 header box
unfoldable pub extras_at : List ℕ → Result Told Fault
extras_at file = boxes_at file >>= λ place. if place.jp2
    then (header_found file >>= λ span. met_at span.0 (slice_range file span.0 span.1) >>= λ met. Ok (told_of met))
    else Ok (nothing_told (length file))
