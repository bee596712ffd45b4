use Rattle.std.proofs.Common.{◌≡◌, replicate, None}
use Rattle.jk_tile.proofs.encoding.packets.no_writers.Given as goal

abbrev pub invariant-loop : goal.invariant-loop
invariant-loop l = l.slots.items ≡ replicate l.counter None
