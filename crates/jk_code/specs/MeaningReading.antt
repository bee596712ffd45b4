-- Decoding from front to back, with the first fault that is met.
use Rattle.std.specs.Prelude.{ℕ, ◌-◌, ◌*◌, ◌^◌, List, [], map, not, slice_range, Result, Ok, Err, ℤ}
use Rattle.std.specs.List.{range_with_len}
use Rattle.jk_math.specs.Answer.{◌>>=◌, refuse}
use Rattle.jk_math.specs.declared.fault.Fault.{Fault}
use Rattle.jk_math.specs.declared.fault.Fault.TheVariants.{BadWindow}
use Rattle.jk_math.specs.Picture.{Picture}
use Rattle.jk_math.specs.Raster.{raster}
use Rattle.jk_math.specs.declared.rect.Rect.{Rect}
use Rattle.jk_marks.specs.declared.siz.Siz.{Siz}
use Rattle.jk_marks.specs.Siz.{tile_count}
use Rattle.jk_boxes.specs.Reading.{boxes_at}
use Rattle.jk_geom.specs.Rectangles.{is_empty}
use Rattle.jk_geom.specs.Partitions.{tile_of}
use Rattle.jk_params.specs.Headers.{Headers}
use Rattle.jk_params.specs.HeadersReading.{headers_at}
use Rattle.jk_walk.specs.declared.places.PacketPlace.{PacketPlace}
use Rattle.jk_walk.specs.WalkReading.{packets_at}
use Rattle.jk_window.specs.Views.{have_levels, frame_of}
use Rattle.jk_tile.specs.decoding.TileReading.{each, tested, tile_planes_at, component_samples}

-- the packets of tile t, where they are read
abbrev pub places_or : Result (List PacketPlace) Fault → List PacketPlace
places_or (Ok places) = places
places_or (Err e) = []

abbrev pub places_at : List ℕ → Headers → ℕ → List PacketPlace
places_at bytes h t = places_or (packets_at bytes h t)

-- the packets of all tiles, tile by tile
abbrev pub packets_tested : List ℕ → Headers → ℕ → Result (Unit {0}) Fault
packets_tested bytes h n = each n (λ t. tested (packets_at bytes h t))

-- the code-blocks of all tiles at reduction d, tile by tile
abbrev pub tiles_tested : List ℕ → Headers → (d n : ℕ) → Result (Unit {0}) Fault
tiles_tested bytes h d n = each n (λ t. tested (tile_planes_at bytes h t d (places_at bytes h t)))

-- The place of the reduced image: no tile-component has fewer levels, and the reduced image isn't
-- empty.
unfoldable pub reduction_at : Headers → ℕ → Result Rect Fault
reduction_at h d = do
  _ ← refuse (not (have_levels h d)) BadWindow
  _ ← refuse (is_empty (frame_of h d)) BadWindow
  Ok (frame_of h d)

-- the sample of a component at a place of the reduced grid: that of the tile that has the place
abbrev pub sample_of_tiles : List ℕ → Headers → (d c x y : ℕ) → ℤ
sample_of_tiles bytes h d c x y =
    let t = tile_of h.siz (x * 2 ^ d) (y * 2 ^ d) in
    component_samples bytes h t d (places_at bytes h t) c x y

-- a picture of an image's depth and sign at a place, with these planes
abbrev pub picture_with : Siz → Rect → List (List ℤ) → Picture
picture_with s a planes = record {
  x0 = a.x0;
  y0 = a.y0;
  width = a.x1 - a.x0;
  height = a.y1 - a.y0;
  depth = s.depth;
  signed = s.signed;
  planes = planes;
}

-- its planes
abbrev pub planes_of_tiles : List ℕ → Headers → ℕ → Rect → List (List ℤ)
planes_of_tiles bytes h d a = map (λ c. raster a (sample_of_tiles bytes h d c)) (range_with_len 0 h.siz.components)

-- The same of a codestream with these headers. The packets of all tiles are judged before the
-- code-blocks of any.
unfoldable pub picture_at : Headers → List ℕ → ℕ → Result Picture Fault
picture_at h bytes d = do
  area ← reduction_at h d
  _ ← packets_tested bytes h (tile_count h.siz)
  _ ← tiles_tested bytes h d (tile_count h.siz)
  Ok (picture_with h.siz area (planes_of_tiles bytes h d area))

-- what a codestream means
unfoldable pub image_at : List ℕ → ℕ → Result Picture Fault
image_at bytes d = do
  h ← headers_at bytes
  picture_at h bytes d

-- what a file means: what its codestream means
unfoldable pub meaning_at : List ℕ → ℕ → Result Picture Fault
meaning_at bytes d = do
  place ← boxes_at bytes
  image_at (slice_range bytes place.start place.end) d
