use Rattle.std.proofs.Common.{◌≡◌, leb, drop}
use Rattle.jk_extras.proofs.Sizes.{others_size}
use Rattle.jk_extras.proofs.judging.fit.Given as goal

abbrev pub invariant-loop-other : goal.invariant-loop-other
invariant-loop-other l = leb (others_size (drop l.other-index l.others)) l.left ≡ leb (others_size l.others) l.room
