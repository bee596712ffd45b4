use Rattle.std.proofs.Common.{take}
use Rattle.jk_window.specs.PartEnds.{HaveNoCounters}
use Rattle.jk_window.proofs.parts.have_counters.Given as goal

abbrev pub invariant-loop-i : goal.invariant-loop-i
invariant-loop-i l = HaveNoCounters (take l.i l.entries)
