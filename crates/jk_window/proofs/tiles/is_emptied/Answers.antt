use Rattle.std.proofs.Common.{sym, ◌∙◌}
use Rattle.jk_window.proofs.Beside.{beside_none}
use Rattle.jk_window.proofs.tiles.is_emptied.Goals as goal

pub returns : goal.returns
returns c = λ e. record {
  none = beside_none c.args.index.now c.args.window.now c.args.view c.args.tile (sym c.is_beside.ensures ∙ e);
  counters = c.parts.ensures.ends.counters c.if-counted.false;
}
