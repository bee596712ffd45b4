use Rattle.std.proofs.Common.{◌≤◌, ◌≡◌, ◌+◌, ◌-◌, length, drop, false, slice_range}
use Rattle.jk_extras.specs.Header.{met_passed, met_at}
use Rattle.jk_extras.proofs.Passing.{Left}
use Rattle.jk_extras.proofs.header.read_header.Given as goal

abbrev pub invariant-loop-at : goal.invariant-loop-at
invariant-loop-at l = record {
  within : l.at ≤ length l.header;
  whole : l.header ≡ slice_range l.file l.start l.end;
  left : Left met_passed false l.met (l.start + l.at) (drop l.at l.header) (met_at l.start l.header);
}

abbrev pub decreases-loop-at : goal.decreases-loop-at
decreases-loop-at l = length l.header - l.at
