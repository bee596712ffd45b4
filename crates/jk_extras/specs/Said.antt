-- What the boxes of a JP2 header box say of colour and resolution (T.800 I.5.3), and what is told
-- of it.
use Rattle.std.specs.Prelude.{◌≡◌, ℕ, ◌==◌, if◌then◌else◌, List, [], ◌∷◌, drop, slice_index, slice_range}
use Rattle.std.specs.Prelude.{Option, Some, None, Result, Ok}
use Rattle.byteorder.specs.Endian.{big_number}
use Rattle.jk_math.specs.declared.fault.Fault.{Fault}
use Rattle.jk_boxes.specs.Boxes.{Box, colour_kind}
use Rattle.jk_extras.specs.declared.grids.Grids.{Grids}
use Rattle.jk_extras.specs.declared.header.ToldColour.{ToldColour}
use Rattle.jk_extras.specs.declared.header.ToldColour.TheVariants.{Nothing, Enumerated, Profile}
use Rattle.jk_extras.specs.declared.told.Told.{Told}
use Rattle.jk_extras.specs.Grids.{no_grids, grids_at}
use Rattle.jk_extras.specs.Header.{resolution_kind}

-- A colour: nothing, a colour space by its number, a profile.
pub data SaidColour : Type 0 where
  Unsaid : SaidColour
  Number : ℕ → SaidColour
  IccProfile : List ℕ → SaidColour

-- what the contents of a colour specification box say by METH (I.5.3.3): 1, EnumCS; 2, PROFILE
abbrev pub colour_said : List ℕ → SaidColour
colour_said contents =
    if slice_index contents 0 == 1 then Number (big_number 4 (drop 3 contents))
    else (if slice_index contents 0 == 2 then IccProfile (drop 3 contents) else Unsaid)

abbrev pub or_later : SaidColour → SaidColour → SaidColour
or_later Unsaid later = later
or_later (Number n) later = Number n
or_later (IccProfile p) later = IccProfile p

abbrev pub said_by : Box → SaidColour
said_by b = if b.kind == colour_kind then colour_said b.contents else Unsaid

-- the first box that says a colour
abbrev pub first_colour : List Box → SaidColour
first_colour [] = Unsaid
first_colour (b ∷ bs) = or_later (said_by b) (first_colour bs)

-- the contents of the first resolution box
abbrev pub first_resolution : List Box → Option (List ℕ)
first_resolution [] = None
first_resolution (b ∷ bs) = if b.kind == resolution_kind then Some b.contents else first_resolution bs

abbrev pub resolutions_said : Option (List ℕ) → Result Grids Fault
resolutions_said None = Ok no_grids
resolutions_said (Some contents) = grids_at contents

-- what is told of a colour, in the bytes of a file
abbrev pub colour_told : List ℕ → ToldColour → SaidColour
colour_told bytes Nothing = Unsaid
colour_told bytes (Enumerated n) = Number n
colour_told bytes (Profile start end) = IccProfile (slice_range bytes start end)

-- It is told what the boxes say.
pub record IsTold (bytes : List ℕ) (told : Told) (boxes : List Box) : Type 0 where
  pub colour_is : colour_told bytes told.colour ≡ first_colour boxes
  pub resolutions_are : resolutions_said (first_resolution boxes)
      ≡ Ok (record { capture = told.capture; display = told.display })
