-- An image that is written while its rows come in stripes, one below the other.
use Rattle.std.specs.Prelude.{◌≡◌, ℕ, ◌+◌, ◌-◌, ◌<◌, ◌≤◌, ◌⊎◌, List, [], length, Result, Err, ⊤, ℤ}
use Rattle.jk_math.specs.Memory.{IsMemory}
use Rattle.jk_math.specs.Picture.{Picture, IsPicture, sample_at}
use Rattle.jk_math.specs.declared.fault.Fault.{Fault}
use Rattle.jk_params.specs.declared.parameters.Parameters.{Parameters}
use Rattle.jk_params.specs.declared.picture_frame.PictureFrame.{PictureFrame}
use Rattle.jk_params.specs.PictureFrames.{frame_of}
use Rattle.jk_code.specs.Beginnings.{LeftBy, IsShelf}
use Rattle.jk_code.specs.Rows.{WereTaken}

-- rows y up to z of an image with this frame
abbrev pub IsStripe : PictureFrame → (y z : ℕ) → Picture → Type 0
IsStripe f y z v = frame_of v ≡ record f { y0 = y; height = z - y }

-- From one state of what gives rows to another, rows y up to z of a picture with this frame were
-- given, one stripe after another.
pub record WereGiven {A : Type 0} (gave : A → Picture → A → Type 0) (f : PictureFrame) (y z : ℕ) (from to : A) (p : Picture) : Type 0 where
  pub picture : IsPicture p
  pub frame : frame_of p ≡ f
  pub rows : WereTaken gave p y z from to

-- Rows of a picture were given from row y on, and a fault was met in place of the next ones, before
-- row z.
pub record HasMet {A : Type 0} (gave : A → Picture → A → Type 0) (met : A → Fault → A → Type 0) (f : PictureFrame) (y z : ℕ) (from to : A) (e : Fault) : Type 0 where
  pub picture : Picture
  pub next : ℕ
  pub before : A
  pub low : y ≤ next
  pub high : next < z
  pub given : WereGiven gave f y next from before picture
  pub fault : met before e to

-- all rows of the picture
abbrev pub WereAllGiven : {A : Type 0} → (gave : A → Picture → A → Type 0) → PictureFrame → (from to : A) → Picture → Type 0
WereAllGiven {A} gave f from to p = WereGiven gave f f.y0 (f.y0 + f.height) from to p

-- a fault before the last of them
abbrev pub HasMetBefore : {A : Type 0} → (gave : A → Picture → A → Type 0) → (met : A → Fault → A → Type 0) → PictureFrame
    → (from to : A) → Fault → Type 0
HasMetBefore {A} gave met f from to e = HasMet gave met f f.y0 (f.y0 + f.height) from to e

-- What was written where encoding has ended so, into what may tell such a fault: nothing where not all
-- rows came; else what encoding the picture of these rows leaves.
abbrev pub IsWrittenOfBy : {A : Type 0} → (tells : Fault → Type 0) → (gave : A → Picture → A → Type 0) → (met : A → Fault → A → Type 0) → PictureFrame → Parameters
    → (from to : A) → (text : List ℕ) → Result ⊤ Fault → Type 0
IsWrittenOfBy {A} tells gave met f q from to text result =
    ((e : Fault) × (result ≡ Err e) × (IsMemory e ⊎ HasMetBefore gave met f from to e) × (text ≡ []))
    ⊎ ((p : Picture) × WereAllGiven gave f from to p × LeftBy tells p q text result)

-- the same of a writer
abbrev pub IsWrittenOf : {A : Type 0} → (gave : A → Picture → A → Type 0) → (met : A → Fault → A → Type 0) → PictureFrame → Parameters
    → (from to : A) → (text : List ℕ) → Result ⊤ Fault → Type 0
IsWrittenOf {A} gave met f q from to text result = IsWrittenOfBy IsShelf gave met f q from to text result

-- the sample of a picture at a place of the reference grid
abbrev pub sample_on_grid : Picture → (c x y : ℕ) → ℤ
sample_on_grid p c x y = sample_at p c (x - p.x0) (y - p.y0)

-- Two pictures of one frame have the same samples from row y up to row z.
pub record HaveSameRows (p q : Picture) (y z : ℕ) : Type 0 where
  pub frame : frame_of p ≡ frame_of q
  pub values : (c x r : ℕ) → c < length p.planes → p.x0 ≤ x → x < p.x0 + p.width → y ≤ r → r < z
      → sample_on_grid p c x r ≡ sample_on_grid q c x r
