use Rattle.jk_extras.proofs.TextsRead.{text_read}
use Rattle.jk_extras.proofs.theorems.a_text_is_read.Goals as goal

pub returns : goal.returns
returns c = λ file codestream j told text fits read spelled. text_read file codestream j told text fits read spelled
