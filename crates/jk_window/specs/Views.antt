-- The window of a view: a rectangle of the image at a reduction, in its first layers.
use Rattle.std.specs.Prelude.{◌≡◌, ℕ, ◌+◌, Bool, true, false, not, ◌==◌, Option, Some, None, Result, Ok}
use Rattle.jk_math.specs.Answer.{◌>>=◌, refuse}
use Rattle.jk_math.specs.declared.fault.Fault.{Fault}
use Rattle.jk_math.specs.declared.fault.Fault.TheVariants.{BadWindow}
use Rattle.jk_math.specs.declared.rect.Rect.{Rect}
use Rattle.jk_geom.specs.Rectangles.{is_empty, meet}
use Rattle.jk_geom.specs.Partitions.{image_area, reduced_area}
use Rattle.jk_params.specs.Headers.{Headers}
pub use Rattle.jk_params.specs.Levels.{HaveLevels, holds_below, has_levels, have_levels}
use Rattle.jk_window.specs.declared.view.View.{View}

-- the image that is reduced by d levels
abbrev pub frame_of : Headers → ℕ → Rect
frame_of h d = reduced_area (image_area h.siz) d

-- The rectangle of a view, counted from the upper left corner of the reduced image, and cut with
-- it.
abbrev pub window_in : Rect → View → Rect
window_in a v =
    meet a record { x0 = a.x0 + v.x; y0 = a.y0 + v.y; x1 = a.x0 + v.x + v.width; y1 = a.y0 + v.y + v.height }

abbrev pub window_of : Headers → View → Rect
window_of h v = window_in (frame_of h v.reduce) v

-- A view has an area: no tile-component has fewer decomposition levels than the reduction, and
-- neither the reduced image nor the rectangle is empty.
pub record HasArea (h : Headers) (v : View) : Type 0 where
  pub levels : HaveLevels h v.reduce
  pub image : is_empty (frame_of h v.reduce) ≡ false
  pub window : is_empty (window_of h v) ≡ false

-- whether a number of layers is some: all of them, or the first l
abbrev pub has_layer : Option ℕ → Bool
has_layer None = true
has_layer (Some l) = not (l == 0)

-- A view has a window: it asks for a layer, and it has an area.
pub record HasWindow (h : Headers) (v : View) : Type 0 where
  pub layers : has_layer v.layers ≡ true
  pub area : HasArea h v

-- of all its layers, of which there are so many, how many a view keeps: where there are fewer than
-- it asks for, all
abbrev pub layers_in : Option ℕ → (all : ℕ) → ℕ
layers_in None all = all
layers_in (Some l) all = l

-- the rectangle of a view, or BadWindow, whatever layers it asks for
unfoldable pub area_at : Headers → View → Result Rect Fault
area_at h v = do
  _ ← refuse (not (have_levels h v.reduce)) BadWindow
  _ ← refuse (is_empty (frame_of h v.reduce)) BadWindow
  _ ← refuse (is_empty (window_of h v)) BadWindow
  Ok (window_of h v)

-- the window of a view, or BadWindow
unfoldable pub window_at : Headers → View → Result Rect Fault
window_at h v = do
  _ ← refuse (not (has_layer v.layers)) BadWindow
  area_at h v
