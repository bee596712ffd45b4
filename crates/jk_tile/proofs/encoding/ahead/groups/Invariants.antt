use Rattle.std.proofs.Common.{length, ◌-◌, ◌≤◌}
use Rattle.jk_tile.proofs.encoding.AheadLaws.{AreGroupsUpto}
use Rattle.jk_tile.proofs.encoding.ahead.groups.Given as goal

abbrev pub invariant-loop-from : goal.invariant-loop-from
invariant-loop-from l = record {
  inside : l.from ≤ length l.blocks;
  upto : AreGroupsUpto l.layers l.blocks l.from l.jobs.items;
}

abbrev pub decreases-loop-from : goal.decreases-loop-from
decreases-loop-from l = length l.blocks - l.from
