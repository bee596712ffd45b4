use Rattle.std.proofs.Common.{◌≡◌, ℕ, ◌+◌, ◌<◌, false, List, length, drop, sym, ap, subst, ◌∙◌, arith}
use Rattle.std.proofs.lemmas.List.{take_rest, length-drop, drop-drop}
use Rattle.std.proofs.lemmas.Result.{err_from_is_err_and}
use Rattle.jk_boxes.specs.Reading.{box_at}
use Rattle.jk_extras.specs.Grids.{grids_passed, grids_step, grids_at, no_grids}
use Rattle.jk_extras.proofs.Passing.{Left, starts, more, fault, refused, stops, some_head}
use Rattle.jk_extras.proofs.grids.read_grids.Goals as goal

pub loop-at-init : goal.loop-at-init
loop-at-init c = record { within = omega arith; left = starts grids_step false no_grids 0 c.args.contents.now }

pub returns-in_err-head : goal.returns-in_err-head
returns-in_err-head c =
    let whole = c.args.contents.now in
    let rest = drop c.loop-at.at whole in
    let some : 0 < length rest = omega (arith, length-drop c.loop-at.at whole) in
    let read = ap (box_at false) (sym (take_rest whole c.loop-at.at)) ∙ sym c.in_err-head.ensures.exact in
    let due = fault grids_step false c.loop-at.grids c.loop-at.at rest _ _ c.loop-at.invariant.left some read in
    let p = err_from_is_err_and c.from_residual.result c.from_residual.ensures.1 in
    rw (p.1, p.2) (sym due)

pub returns-in_err-grids : goal.returns-in_err-grids
returns-in_err-grids c =
    let whole = c.args.contents.now in
    let rest = drop c.loop-at.at whole in
    let some : 0 < length rest = omega (arith, length-drop c.loop-at.at whole) in
    let read = ap (box_at false) (sym (take_rest whole c.loop-at.at)) ∙ sym c.in_ok-head.ensures.exact in
    let pass = ap (grids_passed c.loop-at.grids c.in_ok-head.head) (sym (take_rest whole c.loop-at.at)) ∙ sym c.in_err-grids.ensures in
    let due = refused grids_step false c.loop-at.grids c.loop-at.at rest _ c.in_ok-head.head _ c.loop-at.invariant.left some read pass in
    let p = err_from_is_err_and c.from_residual-in_err-grids.result c.from_residual-in_err-grids.ensures.1 in
    rw (p.1, p.2) (sym due)

pub loop-at-preserved : goal.loop-at-preserved
loop-at-preserved c =
    let whole = c.args.contents.now in
    let rest = drop c.loop-at.at whole in
    let len = length-drop c.loop-at.at whole in
    let some : 0 < length rest = omega (arith, len) in
    let read = ap (box_at false) (sym (take_rest whole c.loop-at.at)) ∙ sym c.in_ok-head.ensures.exact in
    let pass = ap (grids_passed c.loop-at.grids c.in_ok-head.head) (sym (take_rest whole c.loop-at.at)) ∙ sym c.in_ok-grids.ensures in
    let size : 0 < c.in_ok-head.head.size = some_head c.in_ok-head.head c.in_ok-head.ensures.head in
    let next = more grids_step false c.loop-at.grids c.in_ok-grids.grids c.loop-at.at rest _ c.in_ok-head.head c.loop-at.invariant.left some read size pass in
    let is : drop c.in_ok-head.head.size rest ≡ drop (c.loop-at.at + c.in_ok-head.head.size) whole = drop-drop c.in_ok-head.head.size c.loop-at.at whole in
    record {
      within = omega (arith, ap (λ (x : List ℕ). length x) (take_rest whole c.loop-at.at), len, c.in_ok-head.ensures.whole);
      left = subst (λ (x : List ℕ). Left grids_step false c.in_ok-grids.grids (c.loop-at.at + c.in_ok-head.head.size) x (grids_at whole)) is next;
    }

pub returns : goal.returns
returns c =
    let whole = c.args.contents.now in
    sym (stops grids_step false c.loop-at.grids c.loop-at.at (drop c.loop-at.at whole) _ c.loop-at.invariant.left (omega (arith, length-drop c.loop-at.at whole)))
