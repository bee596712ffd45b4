use Rattle.jk_stored.proofs.Forward.{header_forward}
use Rattle.jk_stored.proofs.theorems.headers_are_read_forward.Goals as goal

pub returns : goal.returns
returns c = header_forward
