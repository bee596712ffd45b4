use Rattle.std.proofs.Common.{◌≡◌, vec_len}
use Rattle.vectors_hall.proofs.calls.shelves.Given as goal

-- so many so far
abbrev pub invariant-loop : goal.invariant-loop
invariant-loop g l = vec_len l.all ≡ l.counter
