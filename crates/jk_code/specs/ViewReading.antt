-- Decoding a window from front to back, with the first fault that is met. All layers are decoded,
-- whatever layers the view asks for.
use Rattle.std.specs.Prelude.{ℕ, Bool, not, List, slice_range, Result, Ok, if◌then◌else◌}
use Rattle.jk_math.specs.Answer.{◌>>=◌}
use Rattle.jk_math.specs.declared.fault.Fault.{Fault}
use Rattle.jk_math.specs.declared.rect.Rect.{Rect}
use Rattle.jk_math.specs.Picture.{Picture}
use Rattle.jk_marks.specs.Siz.{tile_count}
use Rattle.jk_boxes.specs.Reading.{boxes_at}
use Rattle.jk_geom.specs.Rectangles.{is_empty, meet}
use Rattle.jk_params.specs.Headers.{Headers}
use Rattle.jk_params.specs.HeadersReading.{headers_at}
use Rattle.jk_walk.specs.WalkReading.{packets_at}
use Rattle.jk_window.specs.declared.view.View.{View}
use Rattle.jk_window.specs.Views.{area_at}
use Rattle.jk_tile.specs.TileMeaning.{shown_area}
use Rattle.jk_tile.specs.decoding.TileReading.{each, tested, part_planes_at}
use Rattle.jk_code.specs.MeaningReading.{places_at, picture_with, planes_of_tiles}

-- what a window of the image at reduction d has of tile t
abbrev pub seen_part : Headers → (d : ℕ) → Rect → (t : ℕ) → Rect
seen_part h d w t = meet w (shown_area h.siz t d)

-- whether it has a sample of the tile
abbrev pub is_seen : Headers → (d : ℕ) → Rect → (t : ℕ) → Bool
is_seen h d w t = not (is_empty (seen_part h d w t))

-- the packets of the tiles of which it has samples, tile by tile
abbrev pub seen_packets_tested : List ℕ → Headers → (d : ℕ) → Rect → (n : ℕ) → Result (Unit {0}) Fault
seen_packets_tested bytes h d w n = each n (λ t. if is_seen h d w t then tested (packets_at bytes h t) else Ok tt)

-- the code-blocks of these tiles on which the samples of the window depend, tile by tile
abbrev pub seen_parts_tested : List ℕ → Headers → (d : ℕ) → Rect → (n : ℕ) → Result (Unit {0}) Fault
seen_parts_tested bytes h d w n =
    each n (λ t. if is_seen h d w t then tested (part_planes_at bytes h t d (seen_part h d w t) (places_at bytes h t))
    else Ok tt)

-- The samples of a codestream with these headers on the window of a view. The packets of all tiles
-- are judged before the code-blocks of any; what the window doesn't depend on isn't judged.
unfoldable pub view_at : Headers → List ℕ → View → Result Picture Fault
view_at h bytes v = do
  w ← area_at h v
  _ ← seen_packets_tested bytes h v.reduce w (tile_count h.siz)
  _ ← seen_parts_tested bytes h v.reduce w (tile_count h.siz)
  Ok (picture_with h.siz w (planes_of_tiles bytes h v.reduce w))

-- the same of a codestream
unfoldable pub image_view_at : List ℕ → View → Result Picture Fault
image_view_at bytes v = do
  h ← headers_at bytes
  view_at h bytes v

-- the same of a file
unfoldable pub meaning_view_at : List ℕ → View → Result Picture Fault
meaning_view_at bytes v = do
  place ← boxes_at bytes
  image_view_at (slice_range bytes place.start place.end) v
