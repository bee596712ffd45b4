-- The views that C programs ask for.
use Rattle.std.specs.Prelude.{ℕ, None}
use Rattle.jk_window.specs.declared.view.View.{View}

-- the view of a rectangle at a reduction, in all layers
abbrev pub view_of : (reduce x y width height : ℕ) → View
view_of reduce x y width height =
    record { reduce = reduce; x = x; y = y; width = width; height = height; layers = None }
