use Rattle.std.proofs.Common.{◌≤◌, length}
use Rattle.jk_walk.specs.WalkReading.{full_numbers}
use Rattle.jk_tile.specs.decoding.Gathered.{AreByPrecinct}
use Rattle.jk_tile.proofs.decoding.Full.{reached}
use Rattle.jk_tile.proofs.decoding.chains.packets_by_precinct.Given as goal

abbrev pub invariant-loop-left : goal.invariant-loop-left
invariant-loop-left l = record {
  within : l.left ≤ length (full_numbers 0 l.packets);
  chains : AreByPrecinct l.packets (reached l.packets l.left) l.component l.resolution l.precincts l.chains;
}

abbrev pub decreases-loop-left : goal.decreases-loop-left
decreases-loop-left l = l.left
