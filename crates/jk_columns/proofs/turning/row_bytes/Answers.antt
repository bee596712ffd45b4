use Rattle.std.specs.Simd.Lanes.{chunk, number_l}
use Rattle.std.proofs.Common.{◌^◌}
use Rattle.jk_columns.proofs.Turned.{row_byte, digits_are}
use Rattle.jk_columns.proofs.turning.row_bytes.Goals as goal

pub returns-clause-bytes : goal.returns-clause-bytes
returns-clause-bytes c = digits_are 32 (number_l (2 ^ 64) (chunk 0 4 c.args.rows.now))

pub returns-clause-value : goal.returns-clause-value
returns-clause-value c = λ r k h l. row_byte c.args.rows.now r k c.type_inv.rows h l
