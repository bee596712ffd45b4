use Rattle.std.proofs.Common.{◌≡◌, ◌-◌, ◌≤◌}
use Rattle.jk_bits.specs.Giving.{Moves}
use Rattle.jk_tree.specs.Asking.{climb}
use Rattle.jk_tree.proofs.read.climb.Given as goal

abbrev pub invariant-loop-low : goal.invariant-loop-low
invariant-loop-low l = record {
  within : l.low ≤ l.threshold;
  moved : Moves l.fn.reader l.reader;
  told : climb l.low (l.threshold - l.low) l.reader ≡ climb l.initial.low (l.threshold - l.initial.low) l.fn.reader;
}

abbrev pub decreases-loop-low : goal.decreases-loop-low
decreases-loop-low l = l.threshold - l.low
