use Rattle.std.proofs.Common.{◌≡◌, ℕ, [], length}
use Rattle.jk_math.specs.Lists.{list_at}
use Rattle.jk_tile.proofs.decoding.bodies.empty_bodies.Given as goal

abbrev pub invariant-loop : goal.invariant-loop
invariant-loop l = record {
  long : length l.lists.items ≡ l.counter;
  empty : (n : ℕ) → list_at l.lists.items n ≡ [];
}
