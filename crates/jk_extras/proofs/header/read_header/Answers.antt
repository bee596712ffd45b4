use Rattle.std.proofs.Common.{◌≡◌, ℕ, ◌+◌, ◌-◌, ◌<◌, false, List, length, take, drop, sym, ap, subst, ◌∙◌, refl, arith}
use Rattle.std.proofs.lemmas.List.{take_rest, length-drop, drop-drop}
use Rattle.std.proofs.lemmas.Result.{err_from_is_err_and}
use Rattle.jk_boxes.specs.Reading.{box_at}
use Rattle.jk_extras.specs.Header.{met_passed, met_at, nothing_met}
use Rattle.jk_extras.proofs.Passing.{Left, starts, more, fault, refused, stops, some_head}
use Rattle.jk_extras.proofs.header.read_header.Goals as goal

pub loop-at-init : goal.loop-at-init
loop-at-init c =
    let header = take (c.args.end - c.args.start) (drop c.args.start c.args.file.now) in
    record {
      within = omega arith;
      whole = refl;
      left = subst (λ (n : ℕ). Left met_passed false nothing_met n header (met_at c.args.start header)) (omega arith)
          (starts met_passed false nothing_met c.args.start header);
    }

pub returns-in_err-head : goal.returns-in_err-head
returns-in_err-head c =
    let header = take (c.args.end - c.args.start) (drop c.args.start c.args.file.now) in
    let rest = drop c.loop-at.at header in
    let some : 0 < length rest = omega (arith, length-drop c.loop-at.at header) in
    let read = ap (box_at false) (sym (take_rest header c.loop-at.at)) ∙ sym c.in_err-head.ensures.exact in
    let due = fault met_passed false c.loop-at.met (c.args.start + c.loop-at.at) rest _ _ c.loop-at.invariant.left some read in
    let p = err_from_is_err_and c.from_residual.result c.from_residual.ensures.1 in
    rw (p.1, p.2) (sym due)

pub returns-in_err-met : goal.returns-in_err-met
returns-in_err-met c =
    let header = take (c.args.end - c.args.start) (drop c.args.start c.args.file.now) in
    let rest = drop c.loop-at.at header in
    let some : 0 < length rest = omega (arith, length-drop c.loop-at.at header) in
    let read = ap (box_at false) (sym (take_rest header c.loop-at.at)) ∙ sym c.in_ok-head.ensures.exact in
    let pass = ap (met_passed c.loop-at.met (c.args.start + c.loop-at.at) c.in_ok-head.head) (sym (take_rest header c.loop-at.at)) ∙ sym c.in_err-met.ensures in
    let due = refused met_passed false c.loop-at.met (c.args.start + c.loop-at.at) rest _ c.in_ok-head.head _ c.loop-at.invariant.left some read pass in
    let p = err_from_is_err_and c.from_residual-in_err-met.result c.from_residual-in_err-met.ensures.1 in
    rw (p.1, p.2) (sym due)

pub loop-at-preserved : goal.loop-at-preserved
loop-at-preserved c =
    let header = take (c.args.end - c.args.start) (drop c.args.start c.args.file.now) in
    let rest = drop c.loop-at.at header in
    let len = length-drop c.loop-at.at header in
    let some : 0 < length rest = omega (arith, len) in
    let read = ap (box_at false) (sym (take_rest header c.loop-at.at)) ∙ sym c.in_ok-head.ensures.exact in
    let pass = ap (met_passed c.loop-at.met (c.args.start + c.loop-at.at) c.in_ok-head.head) (sym (take_rest header c.loop-at.at)) ∙ sym c.in_ok-met.ensures in
    let size : 0 < c.in_ok-head.head.size = some_head c.in_ok-head.head c.in_ok-head.ensures.head in
    let next = more met_passed false c.loop-at.met c.in_ok-met.met (c.args.start + c.loop-at.at) rest _ c.in_ok-head.head c.loop-at.invariant.left some read size pass in
    let is : drop c.in_ok-head.head.size rest ≡ drop (c.loop-at.at + c.in_ok-head.head.size) header = drop-drop c.in_ok-head.head.size c.loop-at.at header in
    let place : (c.args.start + c.loop-at.at) + c.in_ok-head.head.size ≡ c.args.start + (c.loop-at.at + c.in_ok-head.head.size) = omega arith in
    record {
      within = omega (arith, ap (λ (x : List ℕ). length x) (take_rest header c.loop-at.at), len, c.in_ok-head.ensures.whole);
      whole = refl;
      left = subst (λ (n : ℕ). Left met_passed false c.in_ok-met.met n (drop (c.loop-at.at + c.in_ok-head.head.size) header) (met_at c.args.start header)) place
          (subst (λ (x : List ℕ). Left met_passed false c.in_ok-met.met ((c.args.start + c.loop-at.at) + c.in_ok-head.head.size) x (met_at c.args.start header)) is next);
    }

pub returns : goal.returns
returns c =
    let header = take (c.args.end - c.args.start) (drop c.args.start c.args.file.now) in
    sym (stops met_passed false c.loop-at.met (c.args.start + c.loop-at.at) (drop c.loop-at.at header) _ c.loop-at.invariant.left (omega (arith, length-drop c.loop-at.at header)))
