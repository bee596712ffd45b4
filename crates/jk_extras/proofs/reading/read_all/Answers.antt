use Rattle.std.proofs.Common.{◌≡◌, ℕ, ◌+◌, ◌<◌, true, List, length, drop, Ok, sym, ap, subst, ◌∙◌, arith}
use Rattle.std.proofs.lemmas.List.{take_rest, length-drop, drop-drop}
use Rattle.std.proofs.lemmas.Result.{err_from_is_err_and}
use Rattle.jk_math.specs.Answer.{Refuses}
use Rattle.jk_math.specs.Steps.{refuses_due}
use Rattle.jk_boxes.specs.Reading.{box_at}
use Rattle.jk_extras.specs.Boxed.{Plain, plain, read_step, read_step_at, nothing_read, extras_read}
use Rattle.jk_extras.proofs.Passing.{Left, starts, more, fault, refused, stops, some_head}
use Rattle.jk_extras.proofs.Plainly.{none_plain, refuses_then}
use Rattle.jk_extras.proofs.reading.read_all.Goals as goal

pub loop-at-init : goal.loop-at-init
loop-at-init c =
    let whole = c.args.boxes.now in
    record {
      within = omega arith;
      left = subst (λ (x : Plain). Left read_step_at true x 0 whole (extras_read whole)) (sym (none_plain c.none-extras.result c.none-extras.ensures)) (starts read_step_at true nothing_read 0 whole);
    }

pub returns-in_err-head : goal.returns-in_err-head
returns-in_err-head c =
    let whole = c.args.boxes.now in
    let rest = drop c.loop-at.at whole in
    let some : 0 < length rest = omega (arith, length-drop c.loop-at.at whole) in
    let read = ap (box_at true) (sym (take_rest whole c.loop-at.at)) ∙ sym c.in_err-head.ensures.exact in
    let due = fault read_step_at true (plain c.loop-at.extras) c.loop-at.at rest _ _ c.loop-at.invariant.left some read in
    let p = err_from_is_err_and c.from_residual.result c.from_residual.ensures.1 in
    rw (p.1, p.2) (refuses_due _ _ due)

pub returns-in_err-add : goal.returns-in_err-add
returns-in_err-add c =
    let whole = c.args.boxes.now in
    let rest = drop c.loop-at.at whole in
    let some : 0 < length rest = omega (arith, length-drop c.loop-at.at whole) in
    let read = ap (box_at true) (sym (take_rest whole c.loop-at.at)) ∙ sym c.in_ok-head.ensures.exact in
    let d = c.in_err-add.field-0.0 in
    let step = subst (λ (x : List ℕ). Refuses d (read_step (plain c.loop-at.extras) c.in_ok-head.head x)) (take_rest whole c.loop-at.at) c.in_err-add.ensures in
    let due = refuses_then d (read_step (plain c.loop-at.extras) c.in_ok-head.head rest) (extras_read whole) step
    (λ e. refused read_step_at true (plain c.loop-at.extras) c.loop-at.at rest (extras_read whole) c.in_ok-head.head d c.loop-at.invariant.left some read e) in
    let p = err_from_is_err_and c.from_residual-in_err-add.result c.from_residual-in_err-add.ensures.1 in
    rw (p.1, p.2) due

pub loop-at-preserved : goal.loop-at-preserved
loop-at-preserved c =
    let whole = c.args.boxes.now in
    let rest = drop c.loop-at.at whole in
    let due = extras_read whole in
    let len = length-drop c.loop-at.at whole in
    let some : 0 < length rest = omega (arith, len) in
    let read = ap (box_at true) (sym (take_rest whole c.loop-at.at)) ∙ sym c.in_ok-head.ensures.exact in
    let pass : read_step (plain c.loop-at.extras) c.in_ok-head.head rest ≡ Ok (plain c.add.new.extras) =
    ap (read_step (plain c.loop-at.extras) c.in_ok-head.head) (sym (take_rest whole c.loop-at.at)) ∙ c.in_ok-add.ensures in
    let size : 0 < c.in_ok-head.head.size = some_head c.in_ok-head.head c.in_ok-head.ensures.head in
    let next = more read_step_at true (plain c.loop-at.extras) (plain c.add.new.extras) c.loop-at.at rest due c.in_ok-head.head c.loop-at.invariant.left some read size pass in
    let is : drop c.in_ok-head.head.size rest ≡ drop (c.loop-at.at + c.in_ok-head.head.size) whole = drop-drop c.in_ok-head.head.size c.loop-at.at whole in
    record {
      within = omega (arith, ap (λ (x : List ℕ). length x) (take_rest whole c.loop-at.at), len, c.in_ok-head.ensures.whole);
      left = subst (λ (x : List ℕ). Left read_step_at true (plain c.add.new.extras) (c.loop-at.at + c.in_ok-head.head.size) x due) is next;
    }

pub returns : goal.returns
returns c =
    let whole = c.args.boxes.now in
    stops read_step_at true (plain c.loop-at.extras) c.loop-at.at (drop c.loop-at.at whole) _ c.loop-at.invariant.left (omega (arith, length-drop c.loop-at.at whole))
