-- What the commands write, or the first fault.
use Rattle.std.specs.Prelude.{ℕ, List, Result}
use Rattle.jk_math.specs.Answer.{◌>>=◌}
use Rattle.jk_math.specs.declared.fault.Fault.{Fault}
use Rattle.jk_math.specs.Picture.{Picture}
use Rattle.jk_pnm.specs.Reading.{pnm_at}
use Rattle.jk_pnm.specs.Written.{written as pnm_of}
use Rattle.jk_window.specs.declared.view.View.{View}
use Rattle.jk_code.specs.MeaningReading.{meaning_at}
use Rattle.jk_code.specs.Viewing.{picture_of_view}
use Rattle.jk_code.specs.ViewReading.{meaning_view_at}
use Rattle.jk_code.specs.Written.{written as file_of}
use Rattle.jk_options.specs.declared.plan.Plan.{Plan}
use Rattle.jk_options.specs.Plans.{placing}

-- `jk encode`: the picture of a PGM or PPM file, placed and then encoded
unfoldable pub encoded : List ℕ → Plan → Result (List ℕ) Fault
encoded bytes plan = do
  p ← pnm_at bytes
  placed ← placing p plan
  file_of placed.image placed.parameters

-- `jk decode`: the PGM or PPM file of the picture that a file means
unfoldable pub decoded : List ℕ → (reduce : ℕ) → Result (List ℕ) Fault
decoded bytes reduce = do
  p ← meaning_at bytes reduce
  pnm_of p

-- `jk decode` with a window: the PGM or PPM file of the window of a view
unfoldable pub window_decoded : List ℕ → View → Result (List ℕ) Fault
window_decoded bytes v = do
  p ← meaning_view_at bytes v
  pnm_of p

-- the PGM or PPM file of a picture on the window of a view; BadWindow where the window has no
-- sample
abbrev pub window_given : View → Picture → Result (List ℕ) Fault
window_given v p = do
  q ← picture_of_view v p
  pnm_of q

-- what decoding, not reduced, writes of what encoding writes
abbrev pub encoded_and_decoded : List ℕ → Plan → Result (List ℕ) Fault
encoded_and_decoded bytes plan = do
  file ← encoded bytes plan
  decoded file 0

-- the file of a picture, where the encoding isn't refused
abbrev pub encoded_and_given : List ℕ → Plan → Picture → Result (List ℕ) Fault
encoded_and_given bytes plan p = do
  _ ← encoded bytes plan
  pnm_of p
