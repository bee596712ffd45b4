use Rattle.std.proofs.Common.{◌+◌, ◌-◌}
use Rattle.jk_code.specs.ComingWalks.{IsComingWalk, EndsFallen, IsGivenTo}
use Rattle.jk_code.specs.TeamWork.{IsTeamWork}
use Rattle.jk_code.proofs.coming_with.fallen_tiles_with.Given as goal

abbrev pub invariant-loop-walk : goal.invariant-loop-walk
invariant-loop-walk g l = record {
  walk : IsComingWalk l.coming l.walk;
  whole : EndsFallen l.coming l.walk;
  given : IsGivenTo g.S.RowSupply.framed g.S.RowSupply.next g.S.RowSupply.gave l.coming l.fn.supply l.supply l.walk;
  work : IsTeamWork l.work;
}

abbrev pub decreases-loop-walk : goal.decreases-loop-walk
decreases-loop-walk g l = l.coming.frame.y0 + l.coming.frame.height - l.walk.y
