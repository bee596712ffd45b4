use Rattle.std.proofs.Common.{◌≡◌}
use Rattle.jk_hall.proofs.history.grown.Given as goal

-- each turn begins with the front as it was
abbrev pub invariant-loop : goal.invariant-loop
invariant-loop g l =
    (goal.iterator-loop g).can_next l.iterator' × (goal.iterator-loop g).is_finite l.iterator' × (l.next ≡ l.front)
