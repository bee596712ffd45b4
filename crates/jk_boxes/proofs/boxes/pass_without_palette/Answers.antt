use Rattle.std.proofs.Common.{◌≡◌, ℕ, ◌+◌, ◌<◌, List, length, drop, sym, ap, subst, ◌∙◌, arith}
use Rattle.std.proofs.lemmas.Bool.{eq-eqb, ne_eqb}
use Rattle.std.proofs.lemmas.List.{take_rest, length-drop, drop-drop}
use Rattle.std.proofs.lemmas.Result.{err_from_is_err_and}
use Rattle.jk_boxes.specs.Reading.{box_at}
use Rattle.jk_boxes.proofs.Loops.{PaletteLeft, palette_more, palette_fault, palette_met, palette_ends, some_head}
use Rattle.jk_boxes.proofs.boxes.pass_without_palette.Goals as goal

pub returns-in_err-head : goal.returns-in_err-head
returns-in_err-head c =
    let whole = c.args.boxes.now in
    let rest = drop c.loop-at.at whole in
    let some : 0 < length rest = omega (arith, length-drop c.loop-at.at whole) in
    let read = ap (box_at c.args.ends) (sym (take_rest whole c.loop-at.at)) ∙ sym c.in_err-head.ensures.exact in
    let due = palette_fault c.args.ends rest whole _ c.loop-at.invariant.left some read in
    let p = err_from_is_err_and c.from_residual.result c.from_residual.ensures.1 in
    rw (p.1, p.2) (sym due)

pub returns-then-head-eq-PALETTE : goal.returns-then-head-eq-PALETTE
returns-then-head-eq-PALETTE c =
    let whole = c.args.boxes.now in
    let rest = drop c.loop-at.at whole in
    let some : 0 < length rest = omega (arith, length-drop c.loop-at.at whole) in
    let read = ap (box_at c.args.ends) (sym (take_rest whole c.loop-at.at)) ∙ sym c.in_ok-head.ensures.exact in
    sym (palette_met c.args.ends rest whole c.in_ok-head.head c.loop-at.invariant.left some read (eq-eqb _ _ c.if-head-eq-PALETTE.true))

pub loop-at-preserved : goal.loop-at-preserved
loop-at-preserved c =
    let whole = c.args.boxes.now in
    let rest = drop c.loop-at.at whole in
    let len = length-drop c.loop-at.at whole in
    let some : 0 < length rest = omega (arith, len) in
    let read = ap (box_at c.args.ends) (sym (take_rest whole c.loop-at.at)) ∙ sym c.in_ok-head.ensures.exact in
    let size : 0 < c.in_ok-head.head.size = some_head c.in_ok-head.head c.in_ok-head.ensures.head in
    let more = palette_more c.args.ends rest whole c.in_ok-head.head c.loop-at.invariant.left some read size (ne_eqb _ _ c.if-head-eq-PALETTE.false) in
    let next : drop c.in_ok-head.head.size rest ≡ drop (c.loop-at.at + c.in_ok-head.head.size) whole = drop-drop c.in_ok-head.head.size c.loop-at.at whole in
    record {
      within = omega (arith, ap (λ (x : List ℕ). length x) (take_rest whole c.loop-at.at), len, c.in_ok-head.ensures.whole);
      left = subst (λ (x : List ℕ). PaletteLeft c.args.ends x whole) next more;
    }

pub returns : goal.returns
returns c =
    let whole = c.args.boxes.now in
    sym (palette_ends c.args.ends (drop c.loop-at.at whole) whole c.loop-at.invariant.left (omega (arith, length-drop c.loop-at.at whole)))
