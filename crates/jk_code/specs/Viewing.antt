-- The picture of a view: a picture on the window.
use Rattle.std.specs.Prelude.{◌+◌, ◌-◌, length, map, Result, Ok}
use Rattle.std.specs.List.{range_with_len}
use Rattle.jk_math.specs.Answer.{◌>>=◌, refuse}
use Rattle.jk_math.specs.declared.fault.Fault.{Fault}
use Rattle.jk_math.specs.declared.fault.Fault.TheVariants.{BadWindow}
use Rattle.jk_math.specs.declared.rect.Rect.{Rect}
use Rattle.jk_math.specs.Picture.{Picture, sample_at}
use Rattle.jk_math.specs.Raster.{raster}
use Rattle.jk_geom.specs.Rectangles.{is_empty}
use Rattle.jk_window.specs.declared.view.View.{View}
use Rattle.jk_window.specs.Views.{window_in}

-- the place and the size of a picture
abbrev pub rect_of : Picture → Rect
rect_of p = record { x0 = p.x0; y0 = p.y0; x1 = p.x0 + p.width; y1 = p.y0 + p.height }

-- A picture on a rectangle: of each component the samples at its places, row by row.
abbrev pub picture_on : Rect → Picture → Picture
picture_on w p = record {
  x0 = w.x0;
  y0 = w.y0;
  width = w.x1 - w.x0;
  height = w.y1 - w.y0;
  depth = p.depth;
  signed = p.signed;
  planes = map (λ c. raster w (λ x y. sample_at p c (x - p.x0) (y - p.y0))) (range_with_len 0 (length p.planes));
}

-- The picture on the window of a view, which is counted from its upper left sample and cut with it;
-- BadWindow where the window has no sample.
unfoldable pub picture_of_view : View → Picture → Result Picture Fault
picture_of_view v p = do
  _ ← refuse (is_empty (window_in (rect_of p) v)) BadWindow
  Ok (picture_on (window_in (rect_of p) v) p)
