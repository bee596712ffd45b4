use Rattle.std.proofs.Common.{◌-◌, length}
use Rattle.jk_extras.specs.Texts.{others_from}
use Rattle.jk_extras.proofs.Copying.{OthersLeft}
use Rattle.jk_extras.proofs.telling.put_others.Given as goal

abbrev pub invariant-loop-at : goal.invariant-loop-at
invariant-loop-at l = record { left : OthersLeft l.file l.out.items l.at (others_from (length l.file) l.fn.out.items l.from l.file) }

abbrev pub decreases-loop-at : goal.decreases-loop-at
decreases-loop-at l = length l.file - l.at
