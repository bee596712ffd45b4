use Rattle.jk_block.proofs.Meanings.{block_found, block_only}
use Rattle.jk_block.proofs.theorems.read_is_meant.Goals as goal

pub returns-clause-found : goal.returns-clause-found
returns-clause-found c = block_found

pub returns-clause-only : goal.returns-clause-only
returns-clause-only c = block_only
