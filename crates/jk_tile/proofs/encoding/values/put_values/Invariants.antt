use Rattle.std.proofs.Common.{◌≡◌, length}
use Rattle.jk_math.specs.Raster.{columns_of, raster}
use Rattle.jk_wave.specs.climbing.Held.{rows_between}
use Rattle.jk_tile.specs.encoding.Forward.{tile_value}
use Rattle.jk_tile.proofs.encoding.values.put_values.Given as goal

-- the rows before
abbrev pub invariant-loop-y : goal.invariant-loop-y
invariant-loop-y l = record {
  rows : l.values.items ≡ raster (rows_between l.rect l.rect.y0 l.y) (tile_value l.image l.colours l.component);
  long : length l.row.items ≡ columns_of l.rect;
}
