-- Lane by lane.
use Rattle.jk_digest.proofs.RoundVectors.{added_fours, added_lane}
use Rattle.jk_digest.proofs.lanes.added.Goals as goal

pub returns-clause-fours : goal.returns-clause-fours
returns-clause-fours c = added_fours c.args.hash c.args.v c.requires.hash c.requires.variables

pub returns-clause-each : goal.returns-clause-each
returns-clause-each c = added_lane c.args.hash c.args.v c.requires.hash c.requires.variables
