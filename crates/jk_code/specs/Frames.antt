-- What boxes and headers say of an image: its place, size, depth, sign and number of components at
-- a reduction.
use Rattle.std.specs.Prelude.{◌≡◌, ℕ, ◌-◌, List, length, slice_range, Result, Ok}
use Rattle.jk_math.specs.Answer.{◌>>=◌}
use Rattle.jk_math.specs.declared.fault.Fault.{Fault}
use Rattle.jk_math.specs.Picture.{Picture}
use Rattle.jk_math.specs.declared.rect.Rect.{Rect}
use Rattle.jk_marks.specs.Siz.{tile_count}
use Rattle.jk_marks.specs.declared.siz.Siz.{Siz}
use Rattle.jk_boxes.specs.Reading.{boxes_at}
use Rattle.jk_params.specs.Headers.{Headers}
use Rattle.jk_params.specs.HeadersReading.{headers_at}
use Rattle.jk_params.specs.Levels.{least_levels}
use Rattle.jk_code.specs.declared.frames.ImageFrame.{ImageFrame}
use Rattle.jk_code.specs.MeaningReading.{reduction_at}

-- The frame has the place, the size, the depth, the sign and the components of the picture.
pub record IsFrameOfPicture (f : ImageFrame) (p : Picture) : Type 0 where
  pub left : f.x0 ≡ p.x0
  pub upper : f.y0 ≡ p.y0
  pub width : f.width ≡ p.width
  pub height : f.height ≡ p.height
  pub components : f.components ≡ length p.planes
  pub depth : f.depth ≡ p.depth
  pub signed : f.signed ≡ p.signed

-- the frame of an image that lies here, with so many levels
abbrev pub frame_with : Siz → Rect → (levels : ℕ) → ImageFrame
frame_with s a levels = record {
  x0 = a.x0;
  y0 = a.y0;
  width = a.x1 - a.x0;
  height = a.y1 - a.y0;
  components = s.components;
  depth = s.depth;
  signed = s.signed;
  levels = levels;
}

-- the frame that headers tell at reduction d, or the first fault
unfoldable pub headers_frame_at : Headers → (d : ℕ) → Result ImageFrame Fault
headers_frame_at h d = do
  area ← reduction_at h d
  Ok (frame_with h.siz area (least_levels h.tiles (tile_count h.siz)))

-- the same of a codestream
unfoldable pub codestream_frame_at : List ℕ → (d : ℕ) → Result ImageFrame Fault
codestream_frame_at bytes d = do
  h ← headers_at bytes
  headers_frame_at h d

-- the same of a file
unfoldable pub frame_at : List ℕ → (d : ℕ) → Result ImageFrame Fault
frame_at bytes d = do
  place ← boxes_at bytes
  codestream_frame_at (slice_range bytes place.start place.end) d
