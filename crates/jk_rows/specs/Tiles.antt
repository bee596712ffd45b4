-- A tile between two steps.
use Rattle.std.specs.Prelude.{◌≡◌, ℕ, ℤ, ◌<◌, ◌⊎◌, List, length, map, slice_index_or, Some, Ok, Err}
use Rattle.std.specs.List.{range_with_len}
use Rattle.std.specs.Global.{Vec}
use Rattle.jk_math.specs.Lists.{lists_of}
use Rattle.jk_math.specs.Raster.{raster}
use Rattle.jk_math.specs.declared.fault.Fault.{Fault}
use Rattle.jk_geom.specs.Rectangles.{tile_area}
use Rattle.jk_geom.specs.TileShapes.{coding_of}
use Rattle.jk_params.specs.Headers.{tile_in}
use Rattle.jk_tile.specs.TileMeaning.{shown_area}
use Rattle.jk_tile.specs.decoding.TileReading.{region_of, tested, component_samples, tile_planes_at}
use Rattle.jk_tile.specs.decoding.Source.{Source}
use Rattle.jk_tile.specs.decoding.TileSources.{TileSource}
use Rattle.jk_tile.specs.decoding.Strips.{HasFault}
use Rattle.jk_rows.specs.declared.component.ComponentRows.{ComponentRows}
use Rattle.jk_rows.specs.declared.at_once.WholeTile.{WholeTile}
use Rattle.jk_rows.specs.declared.climbing.ClimbingTile.{ClimbingTile}
use Rattle.jk_rows.specs.declared.tile.TileRows.{TileRows}
use Rattle.jk_rows.specs.Components.{IsComponentRows}

-- component c of a tile, all of it
abbrev pub component_in : TileSource → (c : ℕ) → Source
component_in t c =
    let k = coding_of (tile_in t.headers.tiles t.number).codings c in record {
      bytes = t.bytes;
      region = region_of (tile_area t.headers.siz t.number) k t.reduce (shown_area t.headers.siz t.number t.reduce);
      coding = k;
      packets = t.packets;
      component = c;
    }

-- each component of a tile whose components climb stands where steps up to row e leave it
pub record IsClimbingTile (t : TileSource) (e : ℕ) (r : ClimbingTile) : Type 0 where
  pub count : length r.components.items ≡ t.headers.siz.components
  pub each : (c : ℕ) (other : ComponentRows) → c < t.headers.siz.components
      → IsComponentRows (component_in t c) e (slice_index_or r.components.items c other)

-- these are the samples of the tile, component by component, and none of its code-blocks has a fault
pub record AreTilePlanes (t : TileSource) (planes : List (Vec ℤ)) : Type 0 where
  pub samples : lists_of planes ≡ map (λ c. raster (shown_area t.headers.siz t.number t.reduce)
      (component_samples t.bytes t.headers t.number t.reduce t.packets c)) (range_with_len 0 t.headers.siz.components)
  pub fine : tested (tile_planes_at t.bytes t.headers t.number t.reduce t.packets) ≡ Ok tt

-- what a tile that is made at once holds are its samples
abbrev pub IsWholeTile : TileSource → WholeTile → Type 0
IsWholeTile t r = (v : Vec (Vec ℤ)) → r.planes ≡ Some v → AreTilePlanes t v.items

-- a tile stands before row e, however it's made
pub record IsTileRows (t : TileSource) (e : ℕ) (r : TileRows) : Type 0 where
  pub climbing : (c : ClimbingTile) → r.climbing ≡ Some c → IsClimbingTile t e c
  pub whole : IsWholeTile t r.whole

-- a code-block of a component has this fault
pub record HasFaultBelow (t : TileSource) (e : Fault) : Type 0 where
  pub component : ℕ
  pub few : component < t.headers.siz.components
  pub fault : HasFault (component_in t component) e

-- one of the tile has it, or it's the first of the tile
abbrev pub HasFaultIn : TileSource → Fault → Type 0
HasFaultIn t e = HasFaultBelow t e ⊎ (tested (tile_planes_at t.bytes t.headers t.number t.reduce t.packets) ≡ Err e)
