use Rattle.jk_jobs.specs.Dealing.{AreTaken}
use Rattle.jk_jobs.proofs.Shares.{rest_all}
use Rattle.jk_jobs.proofs.dealing.filled.Goals as goal

pub loop-share-preserved : goal.loop-share-preserved
loop-share-preserved g c =
    record {
      taken = (rest_all (λ v. AreTaken g.W.Work.gives c.args.jobs.now v.items) c.loop-share.share-iterator.rest.items c.next.new.self.rest.items c.in-Some.share c.in-Some.ensures.steps.0 c.loop-share.invariant.taken).1;
      long = c.fill.ensures.long;
      filled = c.fill.ensures.filled;
    }
