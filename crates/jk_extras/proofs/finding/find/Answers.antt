use Rattle.std.proofs.Common.{◌≡◌, ℕ, ◌+◌, ◌<◌, true, List, length, drop, sym, ap, subst, ◌∙◌, arith}
use Rattle.std.proofs.lemmas.List.{take_rest, length-drop, drop-drop}
use Rattle.std.proofs.lemmas.Result.{err_from_is_err_and}
use Rattle.jk_boxes.specs.Reading.{box_at}
use Rattle.jk_extras.specs.Finding.{found_at}
use Rattle.jk_extras.proofs.Looking.{Left, starts, more, fault, met, stops}
use Rattle.jk_extras.proofs.Passing.{some_head}
use Rattle.jk_extras.proofs.finding.find.Goals as goal

pub loop-at-init : goal.loop-at-init
loop-at-init c =
    record {
      behind = omega arith;
      left = starts c.args.wanted (length c.args.file.now) c.args.from (drop c.args.from c.args.file.now) (omega (arith, length-drop c.args.from c.args.file.now));
    }

pub returns-in_err-head-clause-exact : goal.returns-in_err-head-clause-exact
returns-in_err-head-clause-exact c =
    let file = c.args.file.now in
    let rest = drop c.loop-at.at file in
    let some : 0 < length rest = omega (arith, length-drop c.loop-at.at file) in
    let read = ap (box_at true) (sym (take_rest file c.loop-at.at)) ∙ sym c.in_err-head.ensures.exact in
    let due = fault c.args.wanted c.loop-at.at rest _ _ c.loop-at.invariant.left some read in
    let p = err_from_is_err_and c.from_residual.result c.from_residual.ensures.1 in
    rw (p.1, p.2) (sym due)

pub returns-then-is_wanted-clause-exact : goal.returns-then-is_wanted-clause-exact
returns-then-is_wanted-clause-exact c =
    let file = c.args.file.now in
    let rest = drop c.loop-at.at file in
    let some : 0 < length rest = omega (arith, length-drop c.loop-at.at file) in
    let read = ap (box_at true) (sym (take_rest file c.loop-at.at)) ∙ sym c.in_ok-head.ensures.exact in
    sym (met c.args.wanted c.loop-at.at rest _ c.in_ok-head.head c.loop-at.invariant.left some read (sym c.is_wanted.ensures ∙ c.if-is_wanted.true))

pub loop-at-preserved : goal.loop-at-preserved
loop-at-preserved c =
    let file = c.args.file.now in
    let rest = drop c.loop-at.at file in
    let some : 0 < length rest = omega (arith, length-drop c.loop-at.at file) in
    let read = ap (box_at true) (sym (take_rest file c.loop-at.at)) ∙ sym c.in_ok-head.ensures.exact in
    let size : 0 < c.in_ok-head.head.size = some_head c.in_ok-head.head c.in_ok-head.ensures.head in
    let next = more c.args.wanted c.loop-at.at rest _ c.in_ok-head.head c.loop-at.invariant.left some read size (sym c.is_wanted.ensures ∙ c.if-is_wanted.false) in
    let is : drop c.in_ok-head.head.size rest ≡ drop (c.loop-at.at + c.in_ok-head.head.size) file = drop-drop c.in_ok-head.head.size c.loop-at.at file in
    record { behind = omega (arith, c.loop-at.invariant.behind); left = subst (λ (x : List ℕ). Left c.args.wanted (c.loop-at.at + c.in_ok-head.head.size) x (found_at c.args.wanted c.args.from file)) is next }

pub returns-clause-exact : goal.returns-clause-exact
returns-clause-exact c =
    let file = c.args.file.now in
    sym (stops c.args.wanted c.loop-at.at (drop c.loop-at.at file) _ c.loop-at.invariant.left (omega (arith, length-drop c.loop-at.at file)))
