use Rattle.std.proofs.Common.{◌≡◌, ◌-◌, ◌*◌, drop}
use Rattle.jk_extras.specs.Profiles.{lie_within}
use Rattle.jk_extras.proofs.profiles.lie_within.Given as goal

abbrev pub invariant-loop-k : goal.invariant-loop-k
invariant-loop-k l = lie_within l.size (l.count - l.k) (drop (12 * l.k) l.table) ≡ lie_within l.size l.count l.table
