-- Lane by lane.
use Rattle.jk_digest.proofs.RoundVectors.{maj_long, maj_at}
use Rattle.jk_digest.proofs.lanes.maj.Goals as goal

pub returns-clause-lanes : goal.returns-clause-lanes
returns-clause-lanes c = maj_long c.args.x c.args.y c.args.z c.requires.x c.requires.y c.requires.z

pub returns-clause-each : goal.returns-clause-each
returns-clause-each c = maj_at c.args.x c.args.y c.args.z c.requires.x c.requires.y c.requires.z
