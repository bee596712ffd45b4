use Rattle.jk_window.proofs.CutAgain.{front_again, cut_again}
use Rattle.jk_window.proofs.theorems.emptied_codestreams_are_codestreams.Goals as goal

pub returns-clause-fronts : goal.returns-clause-fronts
returns-clause-fronts c = front_again

pub returns-clause-window : goal.returns-clause-window
returns-clause-window c = cut_again
