use Rattle.std.proofs.Common.{◌+◌, ◌*◌, ◌/◌, ◌%◌, ◌∙◌, arith}
use Rattle.jk_columns.proofs.pairs.pairs.Goals as goal

pub returns : goal.returns
returns c = λ p k h l. c.paired.ensures p k h l ∙ c.row_bytes.ensures.value (k % 4) (2 * p + k / 4) (omega arith) (omega arith)
