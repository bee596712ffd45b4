use Rattle.std.proofs.Common.{pos}
use Rattle.jk_c.proofs.Spreading.{IsSpread}
use Rattle.jk_c.proofs.signed.put_shorts.Given as goal

abbrev pub invariant-loop-i : goal.invariant-loop-i
invariant-loop-i l = IsSpread (λ z. z) (pos 0) l.i l.components l.component l.samples l.initial.pixels l.pixels
