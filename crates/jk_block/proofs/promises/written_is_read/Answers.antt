use Rattle.jk_block.proofs.Parts.{coded_means, coded_read}
use Rattle.jk_block.proofs.promises.written_is_read.Goals as goal

pub returns-clause-means : goal.returns-clause-means
returns-clause-means c = coded_means

pub returns-clause-read : goal.returns-clause-read
returns-clause-read c = coded_read
