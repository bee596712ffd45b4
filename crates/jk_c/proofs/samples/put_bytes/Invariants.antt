use Rattle.std.proofs.Common.{pos}
use Rattle.jk_c.proofs.Spreading.{IsSpread}
use Rattle.jk_c.proofs.samples.put_bytes.Given as goal

abbrev pub invariant-loop-i : goal.invariant-loop-i
invariant-loop-i l = IsSpread pos 0 l.i l.components l.component l.samples l.initial.pixels l.pixels
