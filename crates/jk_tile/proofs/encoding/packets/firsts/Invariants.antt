use Rattle.std.proofs.Common.{◌≡◌, ℕ, ◌≤◌, length, slice_index}
use Rattle.jk_geom.specs.Counts.{precincts_below}
use Rattle.jk_tile.proofs.encoding.packets.firsts.Given as goal

abbrev pub invariant-loop-r : goal.invariant-loop-r
invariant-loop-r l = record {
  long : length l.firsts ≡ 12;
  sum : l.sum ≡ precincts_below l.rect l.coding l.r;
  each : (i : ℕ) → i ≤ l.r → slice_index l.firsts i ≡ precincts_below l.rect l.coding i;
}
