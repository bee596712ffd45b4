use Rattle.jk_window.proofs.IndexLaws.{has_index}
use Rattle.jk_window.proofs.theorems.what_can_be_read_has_an_index.Goals as goal

pub returns : goal.returns
returns c = has_index
