use Rattle.std.proofs.Common.{Err, IfOk}
use Rattle.std.specs.List.{AllZip}
use Rattle.jk_math.specs.declared.fault.Fault.TheVariants.{BadParameters}
use Rattle.jk_jobs.proofs.Laws.{by_workers}
use Rattle.jk_farm.specs.Blocks.{IsCodedAs}
use Rattle.jk_farm.proofs.InOrder.{blocks_answer, blocks_memory}
use Rattle.jk_farm.proofs.blocks.map_blocks.Goals as goal

pub returns-clause-exact : goal.returns-clause-exact
returns-clause-exact g c =
    let blocks = c.args.blocks.now in
    let r = c.map_jobs.result in
    by_workers (λ s. IfOk s (λ v. AllZip IsCodedAs blocks v.items)) c.args.workers (Err BadParameters) r c.map_jobs.ensures.range
    (λ some few. blocks_answer blocks r (c.map_jobs.ensures.given some few)) tt

pub returns-clause-memory : goal.returns-clause-memory
returns-clause-memory g c = λ some few. blocks_memory c.args.blocks.now c.map_jobs.result (c.map_jobs.ensures.given some few)
