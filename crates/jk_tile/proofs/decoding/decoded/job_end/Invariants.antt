use Rattle.std.proofs.Common.{◌<◌, ◌≤◌, ◌-◌, length}
use Rattle.jk_tile.proofs.decoding.decoded.job_end.Given as goal

abbrev pub invariant-loop-end : goal.invariant-loop-end
invariant-loop-end l = record {
  more : l.first < l.end;
  to : l.end ≤ length l.segments;
}

abbrev pub decreases-loop-end : goal.decreases-loop-end
decreases-loop-end l = length l.segments - l.end
