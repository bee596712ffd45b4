-- Each lane by itself.
use Rattle.std.proofs.Common.{◌∙◌}
use Rattle.sha2.specs.Sha256.{add32, small_sigma0, small_sigma1}
use Rattle.jk_digest.proofs.ScheduleVectors.{made_long, made_at}
use Rattle.jk_digest.proofs.schedule.next.Goals as goal

pub returns-clause-lanes : goal.returns-clause-lanes
returns-clause-lanes c = rw (c.small_sigma1.ensures, c.small_sigma0.ensures)
    (made_long c.load.result c.load-2.result c.load-3.result c.load-4.result c.load.ensures.lanes c.load-2.ensures.lanes c.load-3.ensures.lanes c.load-4.ensures.lanes)

pub returns-clause-each : goal.returns-clause-each
returns-clause-each c k low = rw (c.small_sigma1.ensures, c.small_sigma0.ensures)
    (made_at c.load.result c.load-2.result c.load-3.result c.load-4.result c.load.ensures.lanes c.load-2.ensures.lanes c.load-3.ensures.lanes c.load-4.ensures.lanes k low
    ∙ (λ i. add32 (add32 (add32 (small_sigma1 (c.load.ensures.each k low i)) (c.load-2.ensures.each k low i)) (small_sigma0 (c.load-3.ensures.each k low i))) (c.load-4.ensures.each k low i)))
