use Rattle.std.proofs.Common.{◌≡◌, ◌+◌, drop, length}
use Rattle.jk_jobs.specs.Dealing.{AreGiven}
use Rattle.jk_jobs.proofs.dealing.merged.Given as goal

abbrev pub invariant-loop-slot : goal.invariant-loop-slot
invariant-loop-slot g l = record {
  all : AreGiven g.W.Work.gives l.jobs (length l.all.items) l.all.items;
  rest : l.slot-iterator.rest.items ≡ drop (length l.all.items) l.fn.slots.items;
  long : length l.all.items + length l.slot-iterator.rest.items ≡ length l.jobs;
}
