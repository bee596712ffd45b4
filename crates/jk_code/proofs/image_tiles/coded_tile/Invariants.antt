use Rattle.std.proofs.Common.{◌≤◌, ◌-◌}
use Rattle.jk_tile.specs.encoding.Forward.{tile_value}
use Rattle.jk_tile.specs.encoding.FallingTiles.{HasTileSamples}
use Rattle.jk_code.specs.ComingRows.{component_of, area_of_coming, IsFallingTile}
use Rattle.jk_code.proofs.image_tiles.coded_tile.Given as goal

-- the rows before are given
abbrev pub invariant-loop-y : goal.invariant-loop-y
invariant-loop-y l = record {
  tile : IsFallingTile l.coming l.number l.y l.tile;
  rows : HasTileSamples (component_of l.coming l.number) (tile_value l.image l.coming.parameters.now.colour) l.tile;
  low : (area_of_coming l.coming l.number).y0 ≤ l.y;
  high : l.y ≤ (area_of_coming l.coming l.number).y1;
}

abbrev pub decreases-loop-y : goal.decreases-loop-y
decreases-loop-y l = l.rect.y1 - l.y
