use Rattle.jk_scan.proofs.Gathering.{gathered}
use Rattle.jk_scan.proofs.words.gather.Goals as goal

pub returns : goal.returns
returns c = gathered c.args.centre c.args.above c.args.below
