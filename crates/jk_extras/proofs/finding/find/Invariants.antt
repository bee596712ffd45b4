use Rattle.std.proofs.Common.{◌-◌, ◌≤◌, length, drop}
use Rattle.jk_extras.specs.Finding.{found_at}
use Rattle.jk_extras.proofs.Looking.{Left}
use Rattle.jk_extras.proofs.finding.find.Given as goal

abbrev pub invariant-loop-at : goal.invariant-loop-at
invariant-loop-at l = record { behind : l.from ≤ l.at; left : Left l.wanted l.at (drop l.at l.file) (found_at l.wanted l.from l.file) }

abbrev pub decreases-loop-at : goal.decreases-loop-at
decreases-loop-at l = length l.file - l.at
