use Rattle.jk_columns.proofs.Joining.{PutTo}
use Rattle.jk_columns.proofs.sheet.put_columns.Given as goal

abbrev pub invariant-loop-c : goal.invariant-loop-c
invariant-loop-c l = PutTo l.rows l.members l.ones l.runs l.fn.bytes l.fn.count l.bytes l.count l.c
