-- Lane by lane.
use Rattle.jk_digest.proofs.RoundVectors.{sigma0_quads}
use Rattle.jk_digest.proofs.lanes.big_sigma0.Goals as goal

pub returns : goal.returns
returns c = rw (c.rotated.ensures, c.rotated-2.ensures, c.rotated-3.ensures) (sigma0_quads c.args.x c.requires)
