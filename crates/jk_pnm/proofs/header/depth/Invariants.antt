use Rattle.std.proofs.Common.{◌≡◌}
use Rattle.jk_pnm.specs.Reading.{depth_at}
use Rattle.jk_pnm.proofs.HeaderSteps.{depth_from}
use Rattle.jk_pnm.proofs.header.depth.Given as goal

-- no depth below fits
abbrev pub invariant-loop-depth : goal.invariant-loop-depth
invariant-loop-depth l = depth_from l.maxval l.depth ≡ depth_at l.maxval
