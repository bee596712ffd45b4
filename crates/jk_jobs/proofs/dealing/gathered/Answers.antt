use Rattle.jk_jobs.specs.Dealing.{AreTaken}
use Rattle.jk_jobs.proofs.Shares.{all_ok}
use Rattle.jk_jobs.proofs.dealing.gathered.Goals as goal

pub filled-requires-clause-taken : goal.filled-requires-clause-taken
filled-requires-clause-taken g c κs within =
    all_ok (λ v. AreTaken g.W.Work.gives c.args.jobs.now v.items) c.in_ok-collected.field-0.items c.args.shares.items c.in_ok-collected.ensures.shares c.requires.taken
