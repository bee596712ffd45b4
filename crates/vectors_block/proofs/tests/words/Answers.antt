use Rattle.std.proofs.Common.{◌+◌, ◌*◌}
use Rattle.jk_scan.proofs.Laws.{on_zero}
use Rattle.vectors_block.proofs.tests.words.Goals as goal

pub quiet-requires : goal.quiet-requires
quiet-requires t c = λ column i _ _ _. on_zero (8 * column + i)
