-- Decoding the code-blocks of a tile one after another, with the first fault that is met, and its
-- samples.
use Rattle.std.specs.Prelude.{ℕ, zero, suc, ◌+◌, ◌-◌, min, Bool, if◌then◌else◌, List, [], length, map, filter, Result}
use Rattle.std.specs.Prelude.{Ok, Err, ℤ}
use Rattle.std.specs.List.{flat_map, range_with_len}
use Rattle.jk_math.specs.Answer.{◌>>=◌}
use Rattle.jk_math.specs.declared.fault.Fault.{Fault}
use Rattle.jk_math.specs.declared.rect.Rect.{Rect}
use Rattle.jk_math.specs.Raster.{raster, plane_at}
use Rattle.jk_marks.specs.declared.coding.Coding.{Coding}
use Rattle.jk_geom.specs.Rectangles.{tile_area}
use Rattle.jk_geom.specs.Precincts.{precinct_number, precinct_area, part_width, part_height}
use Rattle.jk_geom.specs.Partitions.{block_number, precinct_of, block_of}
use Rattle.jk_geom.specs.TileShapes.{coding_of}
use Rattle.jk_order.specs.PacketOrder.{is_of}
use Rattle.jk_params.specs.Headers.{Headers, tile_in}
use Rattle.jk_scan.specs.declared.shape.BlockShape.{BlockShape}
use Rattle.jk_block.specs.Reading.{block_at}
use Rattle.jk_walk.specs.declared.places.PacketPlace.{PacketPlace}
use Rattle.jk_walk.specs.TilePackets.{Body, orientations, band_number, planes_of}
use Rattle.jk_walk.specs.WalkReading.{bodies_at}
use Rattle.jk_tile.specs.TileBlocks.{orientation_at, grid_at, block_at_place, block_shape, block_bodies, block_bytes}
use Rattle.jk_tile.specs.TileBlocks.{passes_in, zeros_in, band_resolution, band_index}
use Rattle.jk_wave.specs.declared.region.Region.{Region}
use Rattle.jk_wave.specs.Regions.{part_area}
use Rattle.jk_tile.specs.Filling.{touches}
use Rattle.jk_tile.specs.TileMeaning.{shown_area, values_of}
use Rattle.jk_tile.specs.Pixels.{tile_sample}

-- what the packets at these places have of precinct n of resolution r of component c
unfoldable pub bodies_of : List ℕ → List PacketPlace → (c r n : ℕ) → List Body
bodies_of bytes places c r n = flat_map (λ w. bodies_at bytes w.body w.parts) (filter (λ w. is_of c r n w.name) places)

-- one after another, the first n of all
unfoldable pub each : ℕ → (ℕ → Result (Unit {0}) Fault) → Result (Unit {0}) Fault
each zero f = Ok tt
each (suc n) f = each n f >>= λ _. f n

-- the fault alone
abbrev pub tested : {A : Type 0} → Result A Fault → Result (Unit {0}) Fault
tested (Ok x) = Ok tt
tested (Err e) = Err e

-- the coefficients of a code-block of this shape in a sub-band of so many bit-planes, row by row,
-- from its bodies
unfoldable pub bodies_values : BlockShape → (planes : ℕ) → List Body → Result (List ℤ) Fault
bodies_values s planes bodies = block_at s (planes - zeros_in bodies) (passes_in bodies) (block_bytes bodies)

-- those of code-block j of sub-band i in precinct n of resolution r
abbrev pub block_values : Rect → Coding → (r n i j : ℕ) → List Body → Result (List ℤ) Fault
block_values a k r n i j bodies =
    bodies_values (block_shape a k r n i j) (planes_of k (band_number r i)) (block_bodies i j bodies)

-- The code-blocks of a sub-band in a precinct, of a precinct, of a resolution whose precincts have
-- these bodies, and of a tile-component up to d resolutions below its highest.
unfoldable pub band_tested : Rect → Coding → (r n i : ℕ) → List Body → Result (Unit {0}) Fault
band_tested a k r n i bodies = each (block_number (grid_at a k r n i)) (λ j. tested (block_values a k r n i j bodies))

unfoldable pub precinct_tested : Rect → Coding → (r n : ℕ) → List Body → Result (Unit {0}) Fault
precinct_tested a k r n bodies = each (length (orientations r)) (λ i. band_tested a k r n i bodies)

unfoldable pub resolution_tested : Rect → Coding → (r : ℕ) → (ℕ → List Body) → Result (Unit {0}) Fault
resolution_tested a k r bodies = each (precinct_number a k r) (λ n. precinct_tested a k r n (bodies n))

unfoldable pub component_tested : Rect → Coding → (d : ℕ) → (ℕ → ℕ → List Body) → Result (Unit {0}) Fault
component_tested a k d bodies = each (k.levels - d + 1) (λ r. resolution_tested a k r (bodies r))

-- the part u of a tile-component d resolutions below its highest
abbrev pub region_of : Rect → Coding → (d : ℕ) → Rect → Region
region_of a k d u = record { rect = a; levels = k.levels; top = k.levels - d; area = u }

-- Code-block j of sub-band i in precinct n of resolution r has a place of the part of its sub-band
-- that the region depends on.
abbrev pub is_met : Region → Coding → (r n i j : ℕ) → Bool
is_met s k r n i j = touches (block_at_place s.rect k r n i j) (part_area s (band_number r i))

-- Those of the code-blocks that are met, of a sub-band in a precinct, of a precinct, of a
-- resolution whose precincts have these bodies, and of a part of a tile-component d resolutions
-- below its highest.
unfoldable pub met_tested : Region → Coding → (r n i : ℕ) → List Body → Result (Unit {0}) Fault
met_tested s k r n i bodies =
    each (block_number (grid_at s.rect k r n i))
    (λ j. if is_met s k r n i j then tested (block_values s.rect k r n i j bodies) else Ok tt)

unfoldable pub precinct_part_tested : Region → Coding → (r n : ℕ) → List Body → Result (Unit {0}) Fault
precinct_part_tested s k r n bodies = each (length (orientations r)) (λ i. met_tested s k r n i bodies)

unfoldable pub resolution_part_tested : Region → Coding → (r : ℕ) → (ℕ → List Body) → Result (Unit {0}) Fault
resolution_part_tested s k r bodies = each (precinct_number s.rect k r) (λ n. precinct_part_tested s k r n (bodies n))

unfoldable pub component_part_tested : Rect → Coding → (d : ℕ) → Rect → (ℕ → ℕ → List Body) → Result (Unit {0}) Fault
component_part_tested a k d u bodies =
    each (k.levels - d + 1) (λ r. resolution_part_tested (region_of a k d u) k r (bodies r))

-- the values, or none
abbrev pub values_or : Result (List ℤ) Fault → List ℤ
values_or (Ok values) = values
values_or (Err e) = []

-- the number of the code-block of precinct n that has a place of sub-band i of resolution r
abbrev pub block_with : Rect → Coding → (r n i x y : ℕ) → ℕ
block_with a k r n i x y =
    block_of (precinct_area a k r n (orientation_at r i)) (min k.xcb (part_width k r)) (min k.ycb (part_height k r)) x y

-- the coefficient of code-block j at a place
abbrev pub block_value : Rect → Coding → (r n i j : ℕ) → List Body → (x y : ℕ) → ℤ
block_value a k r n i j bodies x y =
    plane_at (block_at_place a k r n i j) (values_or (block_values a k r n i j bodies)) x y

-- The coefficient at a place of sub-band b: that of the code-block that has the place.
unfoldable pub coefficient_at : Rect → Coding → (ℕ → ℕ → List Body) → (b x y : ℕ) → ℤ
coefficient_at a k bodies b x y =
    let r = band_resolution b in
    let i = band_index b in
    let n = precinct_of a k r x y in
    block_value a k r n i (block_with a k r n i x y) (bodies r n) x y

-- the values of a component of tile t, d resolutions below its highest
abbrev pub component_values : List ℕ → Headers → (t d : ℕ) → List PacketPlace → (c : ℕ) → ℕ → ℕ → ℤ
component_values bytes h t d places c =
    let k = coding_of (tile_in h.tiles t).codings c in
    values_of (tile_area h.siz t) k d (coefficient_at (tile_area h.siz t) k (bodies_of bytes places c))

-- the samples of a component of tile t
abbrev pub component_samples : List ℕ → Headers → (t d : ℕ) → List PacketPlace → (c : ℕ) → ℕ → ℕ → ℤ
component_samples bytes h t d places c x y =
    tile_sample (tile_in h.tiles t).cod h.siz (λ i. component_values bytes h t d places i x y) c

-- the samples of tile t at reduction d, component by component, each row by row
unfoldable pub tile_planes_at : List ℕ → Headers → (t d : ℕ) → List PacketPlace → Result (List (List ℤ)) Fault
tile_planes_at bytes h t d places =
    each h.siz.components
    (λ c. component_tested (tile_area h.siz t) (coding_of (tile_in h.tiles t).codings c) d
    (bodies_of bytes places c))
    >>= λ _. Ok (map (λ c. raster (shown_area h.siz t d) (component_samples bytes h t d places c))
    (range_with_len 0 h.siz.components))

-- the samples of a part u of tile t at reduction d, component by component, each row by row
unfoldable pub part_planes_at : List ℕ → Headers → (t d : ℕ) → Rect → List PacketPlace → Result (List (List ℤ)) Fault
part_planes_at bytes h t d u places =
    each h.siz.components
    (λ c. component_part_tested (tile_area h.siz t) (coding_of (tile_in h.tiles t).codings c) d u
    (bodies_of bytes places c))
    >>= λ _. Ok (map (λ c. raster u (component_samples bytes h t d places c)) (range_with_len 0 h.siz.components))

-- the values of all components of such a part
unfoldable pub part_values_at : List ℕ → Headers → (t d : ℕ) → Rect → List PacketPlace → Result (List (List ℤ)) Fault
part_values_at bytes h t d u places =
    each h.siz.components
    (λ c. component_part_tested (tile_area h.siz t) (coding_of (tile_in h.tiles t).codings c) d u
    (bodies_of bytes places c))
    >>= λ _. Ok (map (λ c. raster u (component_values bytes h t d places c)) (range_with_len 0 h.siz.components))
