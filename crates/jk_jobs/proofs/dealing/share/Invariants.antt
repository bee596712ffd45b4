use Rattle.jk_jobs.specs.Dealing.{AreTaken}
use Rattle.jk_jobs.proofs.dealing.share.Given as goal

abbrev pub invariant-loop : goal.invariant-loop
invariant-loop g l = AreTaken g.W.Work.gives l.jobs l.all.items
