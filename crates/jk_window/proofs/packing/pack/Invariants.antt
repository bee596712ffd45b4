use Rattle.std.proofs.Common.{◌≡◌, ◌*◌, length}
use Rattle.jk_window.specs.Packing.{AreLevel, Spell}
use Rattle.jk_window.proofs.packing.pack.Given as goal

abbrev pub invariant-loop-number : goal.invariant-loop-number
invariant-loop-number l = record {
  count : length l.lists.groups.items ≡ l.number;
  level : AreLevel l.lists;
  spell : Spell l.lists l.entries (l.number * 64);
}
