use Rattle.std.proofs.Common.{◌<◌, length, subst, ◌∙◌, arith}
use Rattle.std.proofs.lemmas.List.{get_or_default}
use Rattle.std.proofs.lemmas.List.Elements.{All-push, All-same}
use Rattle.jk_jobs.specs.Dealing.{IsTaken}
use Rattle.jk_jobs.proofs.dealing.share.Goals as goal

pub loop-preserved : goal.loop-preserved
loop-preserved g c =
    let gives = g.W.Work.gives in
    let jobs = c.args.jobs.now in
    let job = c.fetch_add-job.result in
    let less : job < length jobs = omega (arith, c.if-job-jobs.false) in
    All-same (IsTaken gives jobs) c.push.new.self.items _ c.in_ok-push.ensures.items (All-push (IsTaken gives jobs) c.loop.all.items _ c.loop.invariant (record {
      is_job = less;
      gives_it = λ j. subst (λ x. gives x c.done-given.result) (c.index-jobs-job.is ∙ get_or_default jobs job c.index-jobs-job.result j less) c.done-given.ensures;
    }))
