use Rattle.std.proofs.Common.{◌≡◌, length}
use Rattle.jk_geom.specs.Rectangles.{meet}
use Rattle.jk_tile.proofs.Fillings.{AreCommonRows}
use Rattle.jk_tile.proofs.decoding.filling.put_common.Given as goal

abbrev pub invariant-loop-row : goal.invariant-loop-row
invariant-loop-row l = record {
  long : length l.rows ≡ length l.fn.rows;
  written : AreCommonRows l.lies l.place (meet l.place l.lies.area) l.row l.values l.fn.rows l.rows;
}
