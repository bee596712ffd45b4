-- What a file is given beside the samples of its image, with the first fault.
use Rattle.std.specs.Prelude.{◌≡◌, ◌⊎◌, ℕ, not, List, [], length, Some, Result, Ok, Err, ⊤}
use Rattle.jk_math.specs.Answer.{◌>>=◌, refuse}
use Rattle.jk_math.specs.declared.fault.Fault.{Fault}
use Rattle.jk_math.specs.declared.fault.Fault.TheVariants.{BadParameters, Shelf}
use Rattle.jk_math.specs.Front.{IsFront}
use Rattle.jk_math.specs.Memory.{IsMemory}
use Rattle.jk_math.specs.Picture.{Picture}
use Rattle.jk_pnm.specs.Reading.{pnm_at}
use Rattle.jk_extras.specs.declared.values.Extras.{Extras}
use Rattle.jk_extras.specs.Extras.{is_extras}
use Rattle.jk_extras.specs.Placing.{with_extras_at}
use Rattle.jk_options.specs.declared.plan.Plan.{Plan}
use Rattle.jk_options.specs.Plans.{placing}
use Rattle.jk_code.specs.Written.{written as file_of}
use Rattle.jk_window.specs.declared.view.View.{View}

-- The file of a picture that is to keep something: it is judged by the components of the picture;
-- then the picture is encoded at its place, and its file given that.
unfoldable pub picture_encoded_with : Extras → Picture → Plan → Result (List ℕ) Fault
picture_encoded_with e p plan = do
  _ ← refuse (not (is_extras (length p.planes) e)) BadParameters
  placed ← placing p plan
  file ← file_of placed.image placed.parameters
  with_extras_at e file

-- `jk encode` of a PGM or PPM file with what the file that is written is to keep
abbrev pub encoded_with : Extras → List ℕ → Plan → Result (List ℕ) Fault
encoded_with e bytes plan = do
  p ← pnm_at bytes
  picture_encoded_with e p plan

-- What was written of a file that is due: all of it; after Shelf a beginning of it; after any other
-- fault nothing.
abbrev pub IsSentOf : Result (List ℕ) Fault → List ℕ → Result ⊤ Fault → Type 0
IsSentOf due text (Ok done) = due ≡ Ok text
IsSentOf due text (Err e) = ((e ≡ Shelf) × (file : List ℕ) × (due ≡ Ok file) × IsFront text file)
    ⊎ ((IsMemory e ⊎ (due ≡ Err e)) × (text ≡ []))

-- the view of a whole image at a reduction, in its first layers
abbrev pub whole_view : (reduce layers : ℕ) → View
whole_view reduce layers =
    record { reduce = reduce; x = 0; y = 0; width = 0xFFFFFFFF; height = 0xFFFFFFFF; layers = Some layers }
