use Rattle.std.proofs.Common.{◌≡◌, ℕ, ◌+◌, ◌<◌, false, List, length, drop, Ok, sym, ap, subst, ◌∙◌, arith}
use Rattle.std.proofs.lemmas.List.{take_rest, length-drop, drop-drop}
use Rattle.std.proofs.lemmas.Result.{err_from_is_err_and}
use Rattle.std.specs.String.{string_bytes}
use Rattle.jk_math.specs.Steps.{refuses_due}
use Rattle.jk_boxes.specs.Reading.{box_at}
use Rattle.jk_extras.proofs.Laws.{Left, more, fault, stops, some_head}
use Rattle.jk_beside.specs.Listing.{colour_step, colours_in}
use Rattle.jk_beside.proofs.listing.colours.Goals as goal

pub returns-in_err-head : goal.returns-in_err-head
returns-in_err-head c =
    let whole = c.args.header.now in
    let rest = drop c.loop-at.at whole in
    let some : 0 < length rest = omega (arith, length-drop c.loop-at.at whole) in
    let read = ap (box_at false) (sym (take_rest whole c.loop-at.at)) ∙ sym c.in_err-head.ensures.exact in
    let due = fault colour_step false (string_bytes c.loop-at.lines) c.loop-at.at rest _ _ c.loop-at.invariant.left some read in
    let p = err_from_is_err_and c.from_residual.result c.from_residual.ensures.1 in
    rw (p.1, p.2) (refuses_due _ _ due)

pub loop-at-preserved : goal.loop-at-preserved
loop-at-preserved c =
    let whole = c.args.header.now in
    let rest = drop c.loop-at.at whole in
    let due = colours_in whole in
    let len = length-drop c.loop-at.at whole in
    let some : 0 < length rest = omega (arith, len) in
    let read = ap (box_at false) (sym (take_rest whole c.loop-at.at)) ∙ sym c.in_ok-head.ensures.exact in
    let pass : colour_step (string_bytes c.loop-at.lines) c.loop-at.at c.in_ok-head.head rest ≡ Ok (string_bytes c.put_header_box.new.lines) =
    ap (colour_step (string_bytes c.loop-at.lines) 0 c.in_ok-head.head) (sym (take_rest whole c.loop-at.at)) ∙ c.in_ok-put_header_box.ensures.ok in
    let size : 0 < c.in_ok-head.head.size = some_head c.in_ok-head.head c.in_ok-head.ensures.head in
    let next = more colour_step false (string_bytes c.loop-at.lines) (string_bytes c.put_header_box.new.lines) c.loop-at.at rest due c.in_ok-head.head c.loop-at.invariant.left some read size pass in
    let is : drop c.in_ok-head.head.size rest ≡ drop (c.loop-at.at + c.in_ok-head.head.size) whole = drop-drop c.in_ok-head.head.size c.loop-at.at whole in
    record {
      within = omega (arith, ap (λ (x : List ℕ). length x) (take_rest whole c.loop-at.at), len, c.in_ok-head.ensures.whole);
      left = subst (λ (x : List ℕ). Left colour_step false (string_bytes c.put_header_box.new.lines) (c.loop-at.at + c.in_ok-head.head.size) x due) is next;
    }

pub returns : goal.returns
returns c =
    let whole = c.args.header.now in
    stops colour_step false (string_bytes c.loop-at.lines) c.loop-at.at (drop c.loop-at.at whole) _ c.loop-at.invariant.left (omega (arith, length-drop c.loop-at.at whole))
