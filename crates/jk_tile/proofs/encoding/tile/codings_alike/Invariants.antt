use Rattle.std.proofs.Common.{◌≡◌, replicate}
use Rattle.jk_tile.proofs.encoding.tile.codings_alike.Given as goal

abbrev pub invariant-loop : goal.invariant-loop
invariant-loop l = l.codings ≡ replicate l.counter l.coding
