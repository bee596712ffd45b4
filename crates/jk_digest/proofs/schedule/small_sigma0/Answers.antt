-- Each lane by itself.
use Rattle.jk_digest.proofs.ScheduleVectors.{sigma0_lanes}
use Rattle.jk_digest.proofs.schedule.small_sigma0.Goals as goal

pub returns : goal.returns
returns c = rw (c.rotated.ensures, c.rotated-2.ensures) (sigma0_lanes c.args.x c.requires)
