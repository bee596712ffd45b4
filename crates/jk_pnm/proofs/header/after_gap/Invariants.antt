use Rattle.std.proofs.Common.{◌≡◌, false, drop}
use Rattle.jk_pnm.specs.Reading.{after_gap}
use Rattle.jk_pnm.proofs.header.after_gap.Given as goal

-- what is left goes on as the whole
abbrev pub invariant-loop-at : goal.invariant-loop-at
invariant-loop-at l = after_gap l.comment (drop l.at l.bytes) ≡ after_gap false l.bytes
