-- A part of a tile: what is decoded of a whole tile is decoded of its parts, and the samples are the same.
use Rattle.std.proofs.Common.{◌≡◌, ℕ, ◌+◌, ◌-◌, Bool, true, false, if◌then◌else◌, List, length, map, Result, Ok, ℤ, refl, sym}
use Rattle.std.specs.List.{range_with_len}
use Rattle.jk_math.specs.Steps.{bind_then, ok_is}
use Rattle.jk_math.specs.declared.fault.Fault.{Fault}
use Rattle.jk_math.specs.declared.rect.Rect.{Rect}
use Rattle.jk_math.specs.Raster.{raster}
use Rattle.jk_marks.specs.declared.coding.Coding.{Coding}
use Rattle.jk_geom.specs.Rectangles.{tile_area}
use Rattle.jk_geom.specs.Precincts.{precinct_number}
use Rattle.jk_geom.specs.Partitions.{block_number}
use Rattle.jk_geom.specs.TileShapes.{coding_of}
use Rattle.jk_params.specs.Headers.{Headers, tile_in}
use Rattle.jk_walk.specs.declared.places.PacketPlace.{PacketPlace}
use Rattle.jk_walk.specs.TilePackets.{Body, orientations}
use Rattle.jk_tile.specs.TileBlocks.{grid_at}
use Rattle.jk_tile.specs.decoding.TileReading.{bodies_of, each, tested, block_values, band_tested, precinct_tested, resolution_tested, component_tested, region_of, is_met, met_tested, precinct_part_tested, resolution_part_tested, component_part_tested, component_samples, tile_planes_at, part_planes_at}
use Rattle.jk_tile.proofs.Steps.{fine, each_found, each_only, bind_ok, tested_then, tested_ok}

-- what is fine for all is fine for those that are asked
pub each_fewer : (n : ℕ) (f : ℕ → Result (Unit {0}) Fault) (b : ℕ → Bool) → each n f ≡ fine → each n (λ j. if b j then f j else Ok tt) ≡ fine
each_fewer n f b e = each_only n (λ j. if b j then f j else Ok tt) (λ j lt. asked (b j) (f j) (each_found n f tt e j lt))
  where
    asked : (b : Bool) (r : Result (Unit {0}) Fault) → r ≡ fine → (if b then r else Ok tt) ≡ fine
    asked true r e = e
    asked false r e = refl

-- of the code-blocks of a sub-band in a precinct, of a precinct, of a resolution and of a tile-component
band_met : (a : Rect) (k : Coding) (d : ℕ) (u : Rect) (r n i : ℕ) (bodies : List Body) → band_tested a k r n i bodies ≡ fine → met_tested (region_of a k d u) k r n i bodies ≡ fine
unfolding band_tested met_tested
band_met a k d u r n i bodies e = each_fewer (block_number (grid_at a k r n i)) (λ j. tested (block_values a k r n i j bodies)) (λ j. is_met (region_of a k d u) k r n i j) e

precinct_met : (a : Rect) (k : Coding) (d : ℕ) (u : Rect) (r n : ℕ) (bodies : List Body) → precinct_tested a k r n bodies ≡ fine → precinct_part_tested (region_of a k d u) k r n bodies ≡ fine
unfolding precinct_tested precinct_part_tested
precinct_met a k d u r n bodies e =
    each_only (length (orientations r)) _ (λ i lt. band_met a k d u r n i bodies (each_found (length (orientations r)) (λ i. band_tested a k r n i bodies) tt e i lt))

resolution_met : (a : Rect) (k : Coding) (d : ℕ) (u : Rect) (r : ℕ) (bodies : ℕ → List Body) → resolution_tested a k r bodies ≡ fine → resolution_part_tested (region_of a k d u) k r bodies ≡ fine
unfolding resolution_tested resolution_part_tested
resolution_met a k d u r bodies e =
    each_only (precinct_number a k r) _ (λ n lt. precinct_met a k d u r n (bodies n) (each_found (precinct_number a k r) (λ n. precinct_tested a k r n (bodies n)) tt e n lt))

component_met : (a : Rect) (k : Coding) (d : ℕ) (u : Rect) (bodies : ℕ → ℕ → List Body) → component_tested a k d bodies ≡ fine → component_part_tested a k d u bodies ≡ fine
unfolding component_tested component_part_tested
component_met a k d u bodies e =
    each_only (k.levels - d + 1) _ (λ r lt. resolution_met a k d u r (bodies r) (each_found (k.levels - d + 1) (λ r. resolution_tested a k r (bodies r)) tt e r lt))

-- the samples of a part, where its code-blocks are fine
pub part_decoded : (bytes : List ℕ) (h : Headers) (t d : ℕ) (u : Rect) (places : List PacketPlace) (planes : List (List ℤ)) → part_planes_at bytes h t d u places ≡ Ok planes
    → planes ≡ map (λ c. raster u (component_samples bytes h t d places c)) (range_with_len 0 h.siz.components)
unfolding part_planes_at
part_decoded bytes h t d u places planes e =
    bind_then (each h.siz.components (λ c. component_part_tested (tile_area h.siz t) (coding_of (tile_in h.tiles t).codings c) d u (bodies_of bytes places c))) _ planes e
    (λ done all k. sym (ok_is (map (λ c. raster u (component_samples bytes h t d places c)) (range_with_len 0 h.siz.components)) planes k))

-- Where a tile is decoded, each part of it is.
pub part_fine : (bytes : List ℕ) (h : Headers) (t d : ℕ) (u : Rect) (places : List PacketPlace) → tested (tile_planes_at bytes h t d places) ≡ fine → tested (part_planes_at bytes h t d u places) ≡ fine
unfolding tile_planes_at part_planes_at
part_fine bytes h t d u places e =
    let n = h.siz.components in
    let a = tile_area h.siz t in
    let k : ℕ → Coding = λ c. coding_of (tile_in h.tiles t).codings c in
    let whole = tested_then (tile_planes_at bytes h t d places) tt e in
    bind_then (each n (λ c. component_tested a (k c) d (bodies_of bytes places c))) _ whole.0 whole.1 (λ done all _.
    let parts = each_only n (λ c. component_part_tested a (k c) d u (bodies_of bytes places c)) (λ c lt. component_met a (k c) d u (bodies_of bytes places c) (each_found n (λ c. component_tested a (k c) d (bodies_of bytes places c)) done all c lt)) in
    tested_ok (part_planes_at bytes h t d u places) _ (bind_ok (each n (λ c. component_part_tested a (k c) d u (bodies_of bytes places c))) _ tt parts))
