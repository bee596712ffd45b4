use Rattle.jk_store.proofs.Indexed.{written_indexed}
use Rattle.jk_store.proofs.adding.file_of.Goals as goal

pub returns-clause-image : goal.returns-clause-image
returns-clause-image c = written_indexed c.encode.result c.args.image.now c.args.parameters.now c.requires c.encode.ensures.exact c.encode.ensures.means
