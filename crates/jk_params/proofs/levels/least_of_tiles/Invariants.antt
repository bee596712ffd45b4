use Rattle.std.proofs.Common.{◌≡◌}
use Rattle.jk_marks.specs.Siz.{tile_count}
use Rattle.jk_params.specs.Levels.{least_levels}
use Rattle.jk_params.proofs.levels.least_of_tiles.Given as goal

abbrev pub invariant-loop-number : goal.invariant-loop-number
invariant-loop-number l = record {
  end_is : l.number-end ≡ tile_count l.headers.siz;
  least : l.least ≡ least_levels l.headers.tiles l.number;
}
