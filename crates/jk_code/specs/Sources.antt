-- A codestream whose headers and packets are read, which is decoded at a reduction.
use Rattle.std.specs.Prelude.{◌≡◌, ℕ, ◌-◌, ◌≤◌, List, length}
use Rattle.jk_math.specs.Picture.{IsFrame}
use Rattle.jk_math.specs.declared.rect.Rect.{Rect}
use Rattle.jk_marks.specs.Siz.{tile_count}
use Rattle.jk_geom.specs.Rectangles.{IsArea}
use Rattle.jk_params.specs.Headers.{Headers, AreHeaders}
use Rattle.jk_walk.specs.declared.places.PacketPlace.{PacketPlace}
use Rattle.jk_window.specs.Views.{HaveLevels, frame_of}
use Rattle.jk_code.specs.Tiles.{AreRead}

-- the headers of a codestream, and its bytes
pub record CodestreamSource : Type 0 where
  pub headers : Headers
  pub bytes : List ℕ

-- the codestream's headers, its bytes, the packets of its tiles, the reduction, and the rectangle of
-- the reduced image
pub record ImageSource : Type 0 where
  pub headers : Headers
  pub bytes : List ℕ
  pub packets : List (List PacketPlace)
  pub reduce : ℕ
  pub area : Rect

-- The packets are those of the codestream, and the image has the reduction.
pub record IsImageSource (s : ImageSource) : Type 0 where
  pub sound : AreHeaders (length s.bytes) s.headers
  pub packets : AreRead s.bytes s.headers (tile_count s.headers.siz) s.packets
  pub levels : HaveLevels s.headers s.reduce
  pub few : s.reduce ≤ 10
  pub place : s.area ≡ frame_of s.headers s.reduce
  pub is_area : IsArea s.area
  pub frame : IsFrame s.area.x0 s.area.y0 (s.area.x1 - s.area.x0) (s.area.y1 - s.area.y0)
