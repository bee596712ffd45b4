use Rattle.jk_mqenc.proofs.Unmarked.{written-grows}
use Rattle.jk_mqenc.proofs.theorems.written_grows.Goals as goal

pub returns : goal.returns
returns c = written-grows
