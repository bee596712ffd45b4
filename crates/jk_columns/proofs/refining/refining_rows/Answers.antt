use Rattle.std.proofs.Common.{rules}
use Rattle.jk_scan.specs.Bits.{on}
use Rattle.jk_columns.proofs.Moved.{small_context}
use Rattle.jk_columns.proofs.refining.refining_rows.Goals as goal

pub returns-clause-value : goal.returns-clause-value
returns-clause-value c = search rules

pub returns-clause-small : goal.returns-clause-small
returns-clause-small c = λ k l on_row. small_context _ (on c.args.refined k) (on c.args.touched k) (on c.args.ones k) (returns-clause-value c k l on_row)
