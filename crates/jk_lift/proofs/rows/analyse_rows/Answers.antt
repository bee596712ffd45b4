use Rattle.std.proofs.Common.{arith}
use Rattle.jk_lift.proofs.Columns.{AnalysesRows-from, AnalysesRows-one_even, AnalysesRows-one_odd}
use Rattle.jk_lift.proofs.rows.analyse_rows.Goals as goal

pub returns-then-height-gt1 : goal.returns-then-height-gt1
returns-then-height-gt1 c = AnalysesRows-from c.args.start c.args.width c.args.rows.now c.lift_rows.new.rows c.if-height-gt1.true c.lift_rows.ensures

pub returns-then-start-eq1 : goal.returns-then-start-eq1
returns-then-start-eq1 c = AnalysesRows-one_odd c.args.start c.args.width c.args.rows.now c.double.new.row (omega arith) c.if-start-eq1.true c.double.ensures

pub returns-else-start-eq1 : goal.returns-else-start-eq1
returns-else-start-eq1 c = AnalysesRows-one_even c.args.start c.args.width c.args.rows.now (omega arith) (omega arith)
