use Rattle.jk_block.proofs.Meanings.{block_one}
use Rattle.jk_block.proofs.theorems.one_meaning.Goals as goal

pub returns : goal.returns
returns c = block_one
