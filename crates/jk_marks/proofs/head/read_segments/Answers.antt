use Rattle.std.proofs.Common.{◌+◌, ◌-◌, sym, refl, ◌∙◌, ap, arith}
use Rattle.std.proofs.lemmas.Result.{err_from_is_err_and}
use Rattle.std.proofs.lemmas.Bool.{eq-eqb, ne_eqb}
use Rattle.jk_marks.specs.Place.{ReadingPlace}
use Rattle.jk_marks.specs.Reading.{segments_at}
use Rattle.jk_marks.proofs.Loops.{segments_more, segments_end}
use Rattle.jk_marks.proofs.Steps.{number_moves}
use Rattle.jk_marks.proofs.head.read_segments.Goals as goal

pub returns-in_err-marker-clause-exact : goal.returns-in_err-marker-clause-exact
returns-in_err-marker-clause-exact c =
    let p = err_from_is_err_and c.from_residual.result c.from_residual.ensures.1 in
    let step = segments_more c.left-end.result c.loop.counter c.args.components c.args.last c.args.heading c.loop.head c.loop.cursor c.loop-test.true in
    rw (p.1, p.2) (sym c.loop.invariant ∙ step ∙ rw c.in_err-marker.ensures.exact refl)

pub returns-then-marker-last-clause-exact : goal.returns-then-marker-last-clause-exact
returns-then-marker-last-clause-exact c =
    let step = segments_more c.left-end.result c.loop.counter c.args.components c.args.last c.args.heading c.loop.head c.loop.cursor c.loop-test.true in
    sym c.loop.invariant ∙ step ∙ rw (c.in_ok-marker.ensures.exact, eq-eqb _ _ c.if-marker-last.true) refl

pub returns-then-marker-last-clause-passed : goal.returns-then-marker-last-clause-passed
returns-then-marker-last-clause-passed c = omega (arith, number_moves 2 c.in_ok-marker.marker c.loop.cursor c.two_bytes.new.self c.in_ok-marker.ensures.exact)

pub returns-in_err-head-clause-exact : goal.returns-in_err-head-clause-exact
returns-in_err-head-clause-exact c =
    let p = err_from_is_err_and c.from_residual-in_err-head.result c.from_residual-in_err-head.ensures.1 in
    let step = segments_more c.left-end.result c.loop.counter c.args.components c.args.last c.args.heading c.loop.head c.loop.cursor c.loop-test.true in
    rw (p.1, p.2) (sym c.loop.invariant ∙ step ∙ rw (c.in_ok-marker.ensures.exact, ne_eqb _ _ c.if-marker-last.false, c.in_err-head.ensures) refl)

pub loop-preserved : goal.loop-preserved
loop-preserved c =
    let step = segments_more c.left-end.result c.loop.counter c.args.components c.args.last c.args.heading c.loop.head c.loop.cursor c.loop-test.true in
    ap (λ (p : ReadingPlace). segments_at (c.left-end.result - (c.loop.counter + 1)) c.args.heading c.args.components c.args.last c.in_ok-head.head p) c.leave-in-loop.ensures
    ∙ sym (sym c.loop.invariant ∙ step ∙ rw (c.in_ok-marker.ensures.exact, ne_eqb _ _ c.if-marker-last.false, c.in_ok-head.ensures) refl)

pub returns-clause-exact : goal.returns-clause-exact
returns-clause-exact c =
    sym c.loop.invariant ∙ segments_end c.left-end.result c.loop.counter c.args.components c.args.last c.args.heading c.loop.head c.loop.cursor c.loop-test.false
