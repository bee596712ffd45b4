use Rattle.jk_extras.proofs.Again.{told_again}
use Rattle.jk_extras.proofs.theorems.is_told_again.Goals as goal

pub returns : goal.returns
returns c = λ file codestream j e text before capture display due read. told_again file codestream j e text before capture display due read
