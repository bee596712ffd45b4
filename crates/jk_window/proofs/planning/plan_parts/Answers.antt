use Rattle.std.proofs.Common.{◌≡◌, ◌+◌, ◌-◌, ◌++◌, false, refl, take, drop, get_or, List, sym, ap, subst, ◌∙◌, arith}
use Rattle.std.specs.Prelude.{sum_by}
use Rattle.std.specs.List.{AllByRecursion}
use Rattle.std.proofs.lemmas.List.{drop_more}
use Rattle.jk_marks.specs.declared.part_head.PartHead.{PartHead}
use Rattle.jk_marks.specs.PartHeads.{heads_text}
use Rattle.jk_window.specs.Framing.{Frame}
use Rattle.jk_window.specs.Planning.{IsHead, plan_text, part_from}
use Rattle.jk_window.proofs.PartPlans.{size_of, PsotFits, going_starts, going_more, going_over}
use Rattle.jk_window.proofs.planning.plan_parts.Goals as goal

pub loop-head-init : goal.loop-head-init
loop-head-init c =
    let i = c.args.index.now in
    let items = c.deref-head-items.result.now in
    let own : items ≡ i.frame.heads = c.deref-head-items.ensures.value ∙ ap (λ (x : Frame). x.heads) (c.around.view_is ∙ c.around-around.ensures.value) in
    let sound = c.around-around.ensures.sound in
    let fits = c.around-around.ensures.fits c.args.window.now c.args.view in
    going_starts i c.args.window.now c.args.view c.args.plan.now items
    (subst (AllByRecursion (IsHead i.headers)) (sym own) sound.heads)
    (subst (AllByRecursion (PsotFits i c.args.window.now c.args.view)) (sym own) fits.parts)
    (ap (λ (hs : List PartHead). sum_by size_of hs) own ∙ sound.segments)

pub plan_content-requires-clause-head : goal.plan_content-requires-clause-head
plan_content-requires-clause-head c =
    let none : PartHead = record { tile = 0; number = 0; total = 0; is_open = false; size = 0 } in
    (subst (AllByRecursion (IsHead c.args.index.now.headers)) (drop_more c.deref-head-items.result.now c.loop-head.head-index none c.loop-head-test.true) c.loop-head.invariant.heads_left).0

pub plan_content-requires-clause-size : goal.plan_content-requires-clause-size
plan_content-requires-clause-size c = c.loop-head.invariant.size ∙ c.requires.size

pub plan_content-requires-clause-fits : goal.plan_content-requires-clause-fits
plan_content-requires-clause-fits c =
    let w = c.args.window.now in
    let v = c.args.view in
    let none : PartHead = record { tile = 0; number = 0; total = 0; is_open = false; size = 0 } in (
      w,
      v,
      c.requires.plans,
      (subst (AllByRecursion (PsotFits c.args.index.now w v)) (drop_more c.deref-head-items.result.now c.loop-head.head-index none c.loop-head-test.true) c.loop-head.invariant.fits).0,
    )

pub loop-head-preserved : goal.loop-head-preserved
loop-head-preserved c =
    let i = c.args.index.now in
    let w = c.args.window.now in
    let v = c.args.view in
    let items = c.deref-head-items.result.now in
    let k = c.loop-head.head-index in
    let at = c.loop-head.at in
    let none : PartHead = record { tile = 0; number = 0; total = 0; is_open = false; size = 0 } in
    let h = get_or items k none in
    let segments : c.deref.result.now ≡ i.frame.segments = c.deref.ensures.value ∙ ap (λ (x : Frame). x.segments) (c.around.view_is ∙ c.around-around.ensures.value) in
    let n : at + h.size - at ≡ h.size = omega arith in
    let piece : take (at + h.size - at) (drop at c.deref.result.now) ≡ take h.size (drop at i.frame.segments) = λ j. take (n j) (drop at (segments j)) in
    going_more i w v c.args.plan.now c.loop-head.plan c.plan_content.new.plan items k at none h _ c.loop-head.invariant c.loop-head-test.true refl piece
    c.in_ok-plan_content.ensures.size (λ file index. c.in_ok-plan_content.ensures.text w v file c.requires.plans index)

pub returns-clause-text : goal.returns-clause-text
returns-clause-text c = λ file index.
    let i = c.args.index.now in
    let items = c.deref-head-items.result.now in
    let own : items ≡ i.frame.heads = c.deref-head-items.ensures.value ∙ ap (λ (x : Frame). x.heads) (c.around.view_is ∙ c.around-around.ensures.value) in
    going_over i c.args.window.now c.args.view c.args.plan.now c.loop-head.plan items c.loop-head.head-index c.loop-head.at c.loop-head.invariant c.loop-head-test.false file index
    ∙ ap (λ (hs : List PartHead). plan_text file c.args.plan.now ++ heads_text hs i.frame.segments (part_from file i c.args.window.now c.args.view)) own
