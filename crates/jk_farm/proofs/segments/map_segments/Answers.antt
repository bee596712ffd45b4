use Rattle.std.proofs.Common.{Err, IfOk}
use Rattle.std.specs.List.{AllZip}
use Rattle.jk_math.specs.declared.fault.Fault.TheVariants.{BadParameters}
use Rattle.jk_jobs.proofs.Laws.{by_workers}
use Rattle.jk_farm.specs.Blocks.{IsBlockOf}
use Rattle.jk_farm.proofs.InOrder.{segments_answer, segments_sized}
use Rattle.jk_farm.proofs.segments.map_segments.Goals as goal

pub returns-clause-exact : goal.returns-clause-exact
returns-clause-exact g c = λ some few. segments_answer c.args.jobs.now c.map_jobs.result (c.map_jobs.ensures.given some few)

pub returns-clause-sized : goal.returns-clause-sized
returns-clause-sized g c =
    let jobs = c.args.jobs.now in
    let r = c.map_jobs.result in
    by_workers (λ s. IfOk s (λ v. AllZip IsBlockOf jobs v.items)) c.args.workers (Err BadParameters) r c.map_jobs.ensures.range
    (λ some few. segments_sized jobs r (c.map_jobs.ensures.given some few)) tt
