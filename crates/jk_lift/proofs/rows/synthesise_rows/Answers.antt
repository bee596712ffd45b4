use Rattle.std.proofs.Common.{arith}
use Rattle.jk_lift.proofs.Halving.{even_sample-within}
use Rattle.jk_lift.proofs.Columns.{SynthesisesRows-from, SynthesisesRows-one_even, SynthesisesRows-one_odd}
use Rattle.jk_lift.proofs.rows.synthesise_rows.Goals as goal

pub lift_rows-requires-clause-within : goal.lift_rows-requires-clause-within
lift_rows-requires-clause-within c = even_sample-within

pub returns-then-height-gt1 : goal.returns-then-height-gt1
returns-then-height-gt1 c = SynthesisesRows-from c.args.start c.args.width c.args.rows.now c.lift_rows.new.rows c.if-height-gt1.true c.lift_rows.ensures

pub returns-then-start-eq1 : goal.returns-then-start-eq1
returns-then-start-eq1 c = SynthesisesRows-one_odd c.args.start c.args.width c.args.rows.now c.halve.new.row (omega arith) c.if-start-eq1.true c.halve.ensures

pub returns-else-start-eq1 : goal.returns-else-start-eq1
returns-else-start-eq1 c = SynthesisesRows-one_even c.args.start c.args.width c.args.rows.now (omega arith) (omega arith)
