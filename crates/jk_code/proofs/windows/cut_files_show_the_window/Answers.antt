use Rattle.jk_code.proofs.CutViews.{window_shown_by}
use Rattle.jk_code.proofs.ViewAgain.{window_kept}
use Rattle.jk_code.proofs.windows.cut_files_show_the_window.Goals as goal

pub returns-clause-shown : goal.returns-clause-shown
returns-clause-shown c = window_shown_by

pub returns-clause-kept : goal.returns-clause-kept
returns-clause-kept c = window_kept
