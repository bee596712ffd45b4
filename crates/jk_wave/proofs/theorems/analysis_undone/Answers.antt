use Rattle.jk_wave.proofs.Undoing.{is_undone, is_reduced}
use Rattle.jk_wave.proofs.theorems.analysis_undone.Goals as goal

pub returns-clause-undone : goal.returns-clause-undone
returns-clause-undone c = is_undone

pub returns-clause-reduced : goal.returns-clause-reduced
returns-clause-reduced c = is_reduced
