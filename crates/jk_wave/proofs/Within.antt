-- Places of a rectangle, as rasters and as rectangles have them, and a list of lists.
use Rattle.std.proofs.Common.{ℕ, List, [], get_or, ℤ}
use Rattle.jk_math.specs.declared.rect.Rect.{Rect}
use Rattle.jk_math.proofs.Laws.{IsPlaceOf}
use Rattle.jk_geom.specs.Rectangles.{IsWithin}

pub place_within : (a : Rect) (x y : ℕ) → IsPlaceOf a x y → IsWithin a x y
place_within a x y h = record { left = h.left; right = h.right; upper = h.upper; lower = h.lower }

pub within_place : (a : Rect) (x y : ℕ) → IsWithin a x y → IsPlaceOf a x y
within_place a x y h = record { left = h.left; right = h.right; upper = h.upper; lower = h.lower }

-- sub-band b of the lists
abbrev pub list_of : List (List ℤ) → ℕ → List ℤ
list_of lists b = get_or lists b []
