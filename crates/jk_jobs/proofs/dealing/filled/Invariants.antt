use Rattle.std.proofs.Common.{◌≡◌, All, length}
use Rattle.jk_jobs.specs.Dealing.{AreTaken, AreFilled}
use Rattle.jk_jobs.proofs.dealing.filled.Given as goal

abbrev pub invariant-loop-share : goal.invariant-loop-share
invariant-loop-share g l = record {
  taken : All (λ v. AreTaken g.W.Work.gives l.jobs v.items) l.share-iterator.rest.items;
  long : length l.slots.items ≡ length l.jobs;
  filled : AreFilled g.W.Work.gives l.jobs l.slots.items;
}
