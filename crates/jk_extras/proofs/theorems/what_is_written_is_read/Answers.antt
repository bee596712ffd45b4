use Rattle.jk_extras.proofs.ReadBack.{read_back}
use Rattle.jk_extras.proofs.theorems.what_is_written_is_read.Goals as goal

pub returns : goal.returns
returns c = λ file codestream j e text t capture display due read. read_back file codestream j e text t capture display due read
