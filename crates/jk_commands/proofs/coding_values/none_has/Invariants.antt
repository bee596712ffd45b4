use Rattle.std.proofs.Common.{◌≡◌, true, not, length}
use Rattle.jk_params.specs.Headers.{tile_in}
use Rattle.jk_window.specs.Views.{holds_below}
use Rattle.jk_commands.specs.AllLines.{flag_in}
use Rattle.jk_commands.proofs.coding_values.none_has.Given as goal

-- the tiles before passed
abbrev pub invariant-loop-number : goal.invariant-loop-number
invariant-loop-number l = record {
  end_is : l.number-end ≡ length l.headers.tiles;
  before : holds_below (λ t. not (flag_in l.flag (tile_in l.headers.tiles t).cod)) l.number ≡ true;
}
