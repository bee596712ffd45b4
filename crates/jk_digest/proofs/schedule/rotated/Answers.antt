-- Each lane by itself.
use Rattle.jk_digest.proofs.ScheduleVectors.{rotated_lanes}
use Rattle.jk_digest.proofs.schedule.rotated.Goals as goal

pub returns : goal.returns
returns c = rotated_lanes c.args.x c.args.by c.requires.lanes c.requires.some c.requires.within
