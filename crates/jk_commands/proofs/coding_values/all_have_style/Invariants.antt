use Rattle.std.proofs.Common.{◌≡◌, true, length}
use Rattle.std.specs.List.{list_all}
use Rattle.jk_params.specs.Headers.{tile_in}
use Rattle.jk_window.specs.Views.{holds_below}
use Rattle.jk_commands.specs.AllLines.{has_style}
use Rattle.jk_commands.proofs.coding_values.all_have_style.Given as goal

-- the tiles before passed
abbrev pub invariant-loop-number : goal.invariant-loop-number
invariant-loop-number l = record {
  end_is : l.number-end ≡ length l.headers.tiles;
  before : holds_below (λ t. list_all (has_style l.style) (tile_in l.headers.tiles t).codings) l.number ≡ true;
}
