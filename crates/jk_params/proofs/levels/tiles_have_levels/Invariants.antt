use Rattle.std.proofs.Common.{◌≡◌, true}
use Rattle.jk_marks.specs.Siz.{tile_count}
use Rattle.jk_params.specs.Headers.{tile_in}
use Rattle.jk_params.specs.Levels.{has_levels, holds_below}
use Rattle.jk_params.proofs.levels.tiles_have_levels.Given as goal

-- the tiles before have the levels
abbrev pub invariant-loop-number : goal.invariant-loop-number
invariant-loop-number l = record {
  end_is : l.number-end ≡ tile_count l.headers.siz;
  before : holds_below (λ t. has_levels l.levels (tile_in l.headers.tiles t)) l.number ≡ true;
}
