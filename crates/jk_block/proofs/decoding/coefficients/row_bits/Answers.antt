use Rattle.jk_block.proofs.WordBits.{row_bits_are}
use Rattle.jk_block.proofs.decoding.coefficients.row_bits.Goals as goal

pub returns : goal.returns
returns c = λ n i p q. row_bits_are c.args.word c.args.k n i c.requires p q
