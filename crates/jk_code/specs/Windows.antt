-- Windows of pictures: what the file of a window means.
use Rattle.std.specs.Prelude.{◌≡◌, ◌⊎◌, ℕ, ◌+◌, ◌<◌, ◌≤◌, List, length, None, Result, Ok, Err}
use Rattle.jk_math.specs.Answer.{Answers}
use Rattle.jk_math.specs.Memory.{IsMemory}
use Rattle.jk_math.specs.Picture.{Picture, sample_at}
use Rattle.jk_math.specs.declared.fault.Fault.{Fault}
use Rattle.jk_math.specs.declared.fault.Fault.TheVariants.{BadWindow, Changed}
use Rattle.jk_window.specs.declared.view.View.{View}
use Rattle.jk_window.specs.Indexing.{IndexFields, IsIndexOf}
use Rattle.jk_window.specs.Cutting.{cut_file}
use Rattle.jk_window.specs.Planning.{IsPlanned}
use Rattle.jk_code.specs.Meaning.{MeansLayers, Means}
use Rattle.jk_code.specs.Viewing.{picture_of_view}
use Rattle.jk_code.specs.ViewReading.{meaning_view_at}

-- A picture q has the place, the size, the depth, the sign and the components of p, and its samples
-- in the rectangle of a view.
pub record IsSameOnWindow (v : View) (p q : Picture) : Type 0 where
  pub left : q.x0 ≡ p.x0
  pub upper : q.y0 ≡ p.y0
  pub width : q.width ≡ p.width
  pub height : q.height ≡ p.height
  pub depth : q.depth ≡ p.depth
  pub signed : q.signed ≡ p.signed
  pub components : length q.planes ≡ length p.planes
  -- by component, column and row, counted from the upper left sample
  pub samples : (c x y : ℕ) → c < length p.planes → x < p.width → y < p.height → v.x ≤ x → x < v.x + v.width → v.y ≤ y
      → y < v.y + v.height → sample_at q c x y ≡ sample_at p c x y

-- The reply means, at the view's reduction, a picture that is p on the window.
abbrev pub IsWindowOf : View → Picture → List ℕ → Type 0
IsWindowOf v p reply = (q : Picture) × Means reply v.reduce q × IsSameOnWindow v p q

-- What the file of a window means, where the stored file means a picture at the reduction of its
-- view, in the layers that the view asks for.
abbrev pub IsWindowMeant : Type 0
IsWindowMeant = (bytes : List ℕ) (i : IndexFields) (is : IsIndexOf bytes i) (v : View) (reply : List ℕ)
    → cut_file is v ≡ Ok reply → (p : Picture) → MeansLayers bytes v.reduce v.layers p → IsWindowOf v p reply

-- The reply means a picture that on the window of the view is what p is there.
abbrev pub ShowsWindow : View → Picture → List ℕ → Type 0
ShowsWindow v p reply = (q : Picture) × Means reply v.reduce q × (picture_of_view v q ≡ picture_of_view v p)

-- Where the stored file means a picture at the reduction, in the layers that the view asks for, the
-- file of a window shows it on the window.
abbrev pub IsWindowShown : Type 0
IsWindowShown = (bytes : List ℕ) (i : IndexFields) (is : IsIndexOf bytes i) (v : View) (reply : List ℕ)
    → cut_file is v ≡ Ok reply → (p : Picture) → MeansLayers bytes v.reduce v.layers p → ShowsWindow v p reply

-- Decoding the window of the file of a window with all layers gives what decoding the window of the
-- stored file gives: the image, or the first fault of its code-blocks.
abbrev pub IsWindowKept : Type 0
IsWindowKept = (bytes : List ℕ) (i : IndexFields) (is : IsIndexOf bytes i) (v : View) (reply : List ℕ)
    → v.layers ≡ None → cut_file is v ≡ Ok reply → meaning_view_at reply v ≡ meaning_view_at bytes v

-- the view, with all layers
abbrev pub in_all_layers : View → View
in_all_layers v = record v { layers = None }

-- A window was asked for by an index, be it that of these bytes or not: it was refused with Memory,
-- BadWindow or Changed, or it is answered as it is due of the file that the index's plan makes of
-- the bytes.
abbrev pub IsViewByPlan : (bytes : List ℕ) → IndexFields → View → Result Picture Fault → Type 0
IsViewByPlan bytes i v answer = ((e : Fault) × (answer ≡ Err e) × (IsMemory e ⊎ ((e ≡ BadWindow) ⊎ (e ≡ Changed))))
    ⊎ ((file : List ℕ) × IsPlanned bytes i (in_all_layers v) file
    × Answers (λ p. p) answer (meaning_view_at file (in_all_layers v)))
