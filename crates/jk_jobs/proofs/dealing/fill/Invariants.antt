use Rattle.std.proofs.Common.{◌≡◌, length}
use Rattle.jk_jobs.specs.Dealing.{AreTaken, AreFilled}
use Rattle.jk_jobs.proofs.dealing.fill.Given as goal

abbrev pub invariant-loop-taken : goal.invariant-loop-taken
invariant-loop-taken g l = record {
  taken : AreTaken g.W.Work.gives l.jobs l.taken-iterator.rest.items;
  long : length l.slots.items ≡ length l.jobs;
  filled : AreFilled g.W.Work.gives l.jobs l.slots.items;
}
