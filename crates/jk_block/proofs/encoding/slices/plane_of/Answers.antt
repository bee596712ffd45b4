use Rattle.jk_block.proofs.WordBits.{row_bits_are}
use Rattle.jk_block.proofs.encoding.slices.plane_of.Goals as goal

pub returns : goal.returns
returns c n i p q = row_bits_are c.args.slice c.args.bit n i c.requires p q
