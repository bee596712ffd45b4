use Rattle.jk_extras.proofs.OthersBack.{others_back}
use Rattle.jk_extras.proofs.theorems.others_are_read.Goals as goal

pub returns : goal.returns
returns c = λ file codestream j e text uuids due. others_back file codestream j e text uuids due
