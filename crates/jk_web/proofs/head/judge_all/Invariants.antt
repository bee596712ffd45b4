use Rattle.std.proofs.Common.{◌≤◌, ◌-◌, length, drop}
use Rattle.jk_web.specs.Serving.{Requests}
use Rattle.jk_web.proofs.head.judge_all.Given as goal

abbrev pub invariant-requests : goal.invariant-requests
invariant-requests l = (l.start ≤ length l.rest) × Requests l.rest (drop l.start l.rest)

abbrev pub decreases-requests : goal.decreases-requests
decreases-requests l = length l.rest - l.start
