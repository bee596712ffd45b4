use Rattle.jk_block.proofs.decoding.Eights.{magnitude_is}
use Rattle.jk_block.proofs.decoding.coefficients.magnitude.Goals as goal

pub returns-clause-is : goal.returns-clause-is
returns-clause-is c = magnitude_is c.args.eight c.args.c
