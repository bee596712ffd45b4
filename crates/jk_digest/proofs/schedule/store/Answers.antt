-- The lanes are stored behind what was there.
use Rattle.jk_digest.proofs.Storing.{stored}
use Rattle.jk_digest.proofs.schedule.store.Goals as goal

pub returns : goal.returns
returns c p old new = stored p c.args.words.now c.args.each c.args.t c.requires.all c.requires.lanes c.requires.within old new
