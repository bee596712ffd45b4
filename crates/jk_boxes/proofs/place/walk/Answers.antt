use Rattle.std.proofs.Common.{◌≡◌, ℕ, ◌+◌, ◌<◌, true, List, length, drop, sym, ap, subst, ◌∙◌, arith}
use Rattle.std.proofs.lemmas.List.{take_rest, length-drop, drop-drop}
use Rattle.std.proofs.lemmas.Result.{err_from_is_err_and}
use Rattle.jk_boxes.specs.Reading.{box_at, passed, place_in}
use Rattle.jk_boxes.proofs.Loops.{WalkLeft, walk_starts, walk_more, walk_fault, walk_refused, walk_ends, some_head, unseen}
use Rattle.jk_boxes.proofs.place.walk.Goals as goal

pub loop-at-init : goal.loop-at-init
loop-at-init c =
    record {
      within = c.requires;
      left = walk_starts (length c.args.file.now) c.args.at (drop c.args.at c.args.file.now) (omega (arith, length-drop c.args.at c.args.file.now));
    }

pub returns-in_err-head : goal.returns-in_err-head
returns-in_err-head c =
    let file = c.args.file.now in
    let rest = drop c.loop-at.at file in
    let some : 0 < length rest = omega (arith, length-drop c.loop-at.at file) in
    let read = ap (box_at true) (sym (take_rest file c.loop-at.at)) ∙ sym c.in_err-head.ensures.exact in
    let due = walk_fault c.loop-at.seen c.loop-at.at _ _ rest _ _ c.loop-at.invariant.left some read in
    let p = err_from_is_err_and c.from_residual.result c.from_residual.ensures.1 in
    rw (p.1, p.2) (sym due)

pub returns-in_err-seen : goal.returns-in_err-seen
returns-in_err-seen c =
    let file = c.args.file.now in
    let rest = drop c.loop-at.at file in
    let some : 0 < length rest = omega (arith, length-drop c.loop-at.at file) in
    let read = ap (box_at true) (sym (take_rest file c.loop-at.at)) ∙ sym c.in_ok-head.ensures.exact in
    let pass = ap (passed c.loop-at.seen c.loop-at.at c.in_ok-head.head) (sym (take_rest file c.loop-at.at)) ∙ sym c.in_err-seen.ensures in
    let due = walk_refused c.loop-at.seen c.loop-at.at _ _ rest _ c.in_ok-head.head _ c.loop-at.invariant.left some read pass in
    let p = err_from_is_err_and c.from_residual-in_err-seen.result c.from_residual-in_err-seen.ensures.1 in
    rw (p.1, p.2) (sym due)

pub loop-at-preserved : goal.loop-at-preserved
loop-at-preserved c =
    let file = c.args.file.now in
    let rest = drop c.loop-at.at file in
    let len = length-drop c.loop-at.at file in
    let some : 0 < length rest = omega (arith, len) in
    let read = ap (box_at true) (sym (take_rest file c.loop-at.at)) ∙ sym c.in_ok-head.ensures.exact in
    let pass = ap (passed c.loop-at.seen c.loop-at.at c.in_ok-head.head) (sym (take_rest file c.loop-at.at)) ∙ sym c.in_ok-seen.ensures in
    let size : 0 < c.in_ok-head.head.size = some_head c.in_ok-head.head c.in_ok-head.ensures.head in
    let more = walk_more c.loop-at.seen c.in_ok-seen.seen c.loop-at.at _ _ rest _ c.in_ok-head.head c.loop-at.invariant.left some read size pass in
    let next : drop c.in_ok-head.head.size rest ≡ drop (c.loop-at.at + c.in_ok-head.head.size) file = drop-drop c.in_ok-head.head.size c.loop-at.at file in
    record {
      within = omega (arith, ap (λ (x : List ℕ). length x) (take_rest file c.loop-at.at), len, c.in_ok-head.ensures.whole);
      left = subst (λ (x : List ℕ). WalkLeft c.in_ok-seen.seen (c.loop-at.at + c.in_ok-head.head.size) x (length file) c.args.at (drop c.args.at file)) next more;
    }

pub returns-in-Code : goal.returns-in-Code
returns-in-Code c =
    let file = c.args.file.now in
    let none : length (drop c.loop-at.at file) ≡ 0 = omega (arith, length-drop c.loop-at.at file) in
    sym (walk_ends c.loop-at.seen c.loop-at.at _ _ (drop c.loop-at.at file) _ c.loop-at.invariant.left none ∙ ap place_in c.in-Code.is)

pub returns-in_default : goal.returns-in_default
returns-in_default c =
    let file = c.args.file.now in
    let none : length (drop c.loop-at.at file) ≡ 0 = omega (arith, length-drop c.loop-at.at file) in
    sym (walk_ends c.loop-at.seen c.loop-at.at _ _ (drop c.loop-at.at file) _ c.loop-at.invariant.left none ∙ unseen c.loop-at.seen c.in_default.not-Code)
