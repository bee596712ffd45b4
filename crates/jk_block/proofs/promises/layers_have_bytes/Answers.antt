use Rattle.jk_block.proofs.Layering.{upto_means, upto_cut, upto_rise, upto_whole}
use Rattle.jk_block.proofs.promises.layers_have_bytes.Goals as goal

pub returns-clause-means : goal.returns-clause-means
returns-clause-means c = upto_means

pub returns-clause-lower : goal.returns-clause-lower
returns-clause-lower c = upto_cut

pub returns-clause-rises : goal.returns-clause-rises
returns-clause-rises c = upto_rise

pub returns-clause-whole : goal.returns-clause-whole
returns-clause-whole c = upto_whole
