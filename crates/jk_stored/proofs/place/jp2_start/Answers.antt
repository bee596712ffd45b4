use Rattle.std.proofs.Common.{◌≡◌, ◌+◌, ℕ, List, sym, ap, ◌∙◌, subst, arith}
use Rattle.std.specs.Prelude.{slice_range}
use Rattle.jk_boxes.specs.declared.place.Boxed.{Boxed}
use Rattle.jk_boxes.specs.Boxes.{HoldsAt, form_of}
use Rattle.jk_math.specs.Steps.{done}
use Rattle.jk_stored.proofs.PlaceLaws.{jp2_found, not_false}
use Rattle.jk_stored.proofs.place.jp2_start.Goals as goal

pub returns : goal.returns
returns c = λ f long begins.
    let small = c.in_ok-small.small.items in
    let b = c.in_ok-boxed.boxed in
    let at = c.in-Some.at in
    let form = c.in-Some.form in
    jp2_found f c.args.front.now small b form c.in_ok-told_form.told_form at (at + c.head_size-head.result) c.args.size
    (subst (λ (xs : List ℕ). HoldsAt xs (slice_range xs b.start b.end) b) c.deref-2.ensures.value c.in_ok-boxed.ensures.found)
    (not_false b.jp2 c.if-not-boxed.false)
    (subst (λ (xs : List ℕ). (codestream : List ℕ) (place : Boxed) (holds : HoldsAt xs codestream place) → done c.in_ok-told_form.told_form ≡ done (form_of holds)) c.deref-3.ensures.value c.in_ok-told_form.ensures.holds)
    (c.are_one-same.ensures c.if-not-same.false)
    (omega (arith, c.if-boxed-start.false)) (ap (λ k. at + k) c.head_size-head.ensures.value)
    (omega (arith, c.if-boxed-len.false, c.len.ensures))
    c.in_ok-small.ensures begins
    (omega (arith, c.find_code.ensures, c.if-head-front.false))
    (c.are_same-is_told.ensures c.if-not-is_told.false ∙ c.deref.ensures.value ∙ c.in_ok-told.ensures)
    (sym c.fits-due.ensures.is ∙ c.if-not-due.false)
    (omega (arith, c.if-size-front.false)) long
