use Rattle.std.proofs.Common.{◌≡◌, ◌+◌, drop}
use Rattle.jk_extras.proofs.Sizes.{others_size}
use Rattle.jk_extras.proofs.judging.others_size.Given as goal

abbrev pub invariant-loop-other : goal.invariant-loop-other
invariant-loop-other l = l.size + others_size (drop l.other-index l.others) ≡ others_size l.others
