use Rattle.jk_code.proofs.WindowLaws.{window_meant}
use Rattle.jk_code.proofs.windows.windows_show_the_picture.Goals as goal

pub returns : goal.returns
returns c = window_meant
