use Rattle.jk_lift.proofs.Sweeping.{IsBetween-from, IsCut-from, before_below, after_below}
use Rattle.jk_lift.proofs.rows.lift_rows.Goals as goal

pub lift_inside-requires-in-loop-row-2-clause-befores : goal.lift_inside-requires-in-loop-row-2-clause-befores
lift_inside-requires-in-loop-row-2-clause-befores g c = λ x w l.
    let lifted = c.lift_inside-in-loop-row in
    let between = IsBetween-from g.F.Step.formula g.G.Step.formula c.args.second c.args.height c.args.width c.loop-row.row c.args.rows.now c.loop-row.rows lifted.new.rows
    c.requires.tall c.loop-row.invariant lifted.ensures.lifted lifted.ensures.others in
    before_below g.F.Step.formula g.G.Step.formula c.args.second c.args.height c.args.width c.loop-row.row x c.args.rows.now lifted.new.rows
    c.requires.tall between c.requires.small c.requires.within w l

pub lift_inside-requires-in-loop-row-2-clause-afters : goal.lift_inside-requires-in-loop-row-2-clause-afters
lift_inside-requires-in-loop-row-2-clause-afters g c = λ x w l.
    let lifted = c.lift_inside-in-loop-row in
    let between = IsBetween-from g.F.Step.formula g.G.Step.formula c.args.second c.args.height c.args.width c.loop-row.row c.args.rows.now c.loop-row.rows lifted.new.rows
    c.requires.tall c.loop-row.invariant lifted.ensures.lifted lifted.ensures.others in
    after_below g.F.Step.formula g.G.Step.formula c.args.second c.args.height c.args.width c.loop-row.row x c.args.rows.now lifted.new.rows
    c.requires.tall between c.requires.small c.requires.within w l

pub loop-row-preserved : goal.loop-row-preserved
loop-row-preserved g c =
    let lifted = c.lift_inside-in-loop-row in
    let between = IsBetween-from g.F.Step.formula g.G.Step.formula c.args.second c.args.height c.args.width c.loop-row.row c.args.rows.now c.loop-row.rows lifted.new.rows
    c.requires.tall c.loop-row.invariant lifted.ensures.lifted lifted.ensures.others in
    let both = c.lift_inside-in-loop-row-2 in
    IsCut-from g.F.Step.formula g.G.Step.formula c.args.second c.args.height c.args.width c.loop-row.row c.args.rows.now lifted.new.rows both.new.rows
    c.requires.tall between c.loop-row-test.true both.ensures.lifted both.ensures.others
