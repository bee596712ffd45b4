use Rattle.jk_digest.specs.Schedules.{HasWords, one_of}
use Rattle.jk_digest.proofs.schedule.schedules.Given as goal

-- the words before
abbrev pub invariant-loop-t : goal.invariant-loop-t
invariant-loop-t l = HasWords (one_of l.a l.b l.c l.d) l.words l.t

abbrev pub invariant-loop-t-2 : goal.invariant-loop-t-2
invariant-loop-t-2 l = HasWords (one_of l.a l.b l.c l.d) l.words l.t
