use Rattle.jk_block.proofs.Layering.{passes_rise, passes_few, passes_whole}
use Rattle.jk_block.proofs.promises.layers_have_passes.Goals as goal

pub returns-clause-rises : goal.returns-clause-rises
returns-clause-rises c = passes_rise

pub returns-clause-few : goal.returns-clause-few
returns-clause-few c = passes_few

pub returns-clause-whole : goal.returns-clause-whole
returns-clause-whole c = passes_whole
