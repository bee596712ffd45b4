use Rattle.std.proofs.Common.{length, ◌+◌, ◌-◌, ◌<◌, ◌≤◌}
use Rattle.jk_tile.proofs.encoding.ahead.group_size.Given as goal

abbrev pub invariant-loop-count : goal.invariant-loop-count
invariant-loop-count l = record {
  some : 0 < l.count;
  inside : l.from + l.count ≤ length l.blocks;
}

abbrev pub decreases-loop-count : goal.decreases-loop-count
decreases-loop-count l = length l.blocks - l.count
