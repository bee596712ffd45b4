use Rattle.std.proofs.Common.{◌≡◌, ◌+◌, false, drop, get_or, ap, subst, ◌∙◌, List, arith}
use Rattle.std.specs.List.{AllByRecursion}
use Rattle.std.proofs.lemmas.List.Sums.{sum_by-cons}
use Rattle.std.specs.Prelude.{sum_by}
use Rattle.std.proofs.lemmas.List.{drop_all, drop_more}
use Rattle.jk_marks.specs.declared.part_head.PartHead.{PartHead}
use Rattle.jk_window.specs.Framing.{Frame}
use Rattle.jk_window.specs.Planning.{IsHead, part_size}
use Rattle.jk_window.proofs.FramedFile.{head_size_with}
use Rattle.jk_window.proofs.planning.codestream_length.Goals as goal

pub content_length-requires-clause-head : goal.content_length-requires-clause-head
content_length-requires-clause-head c =
    let none : PartHead = record { tile = 0; number = 0; total = 0; is_open = false; size = 0 } in
    (subst (AllByRecursion (IsHead c.args.index.now.headers)) (drop_more c.deref-head-items.result.now c.loop-head.head-index none c.loop-head-test.true) c.loop-head.invariant.heads).0

pub content_length-requires-clause-plans : goal.content_length-requires-clause-plans
content_length-requires-clause-plans c = (c.args.window.now, c.args.view, c.requires.plans)

pub loop-head-preserved : goal.loop-head-preserved
loop-head-preserved c =
    let i = c.args.index.now in
    let w = c.args.window.now in
    let v = c.args.view in
    let items = c.deref-head-items.result.now in
    let k = c.loop-head.head-index in
    let none : PartHead = record { tile = 0; number = 0; total = 0; is_open = false; size = 0 } in
    let h = get_or items k none in
    let f = head_size_with (part_size i w v) in
    let more = drop_more items k none c.loop-head-test.true in
    let here = ap (sum_by f) more ∙ sum_by-cons f h (drop (k + 1) items) in
    let content = c.content_length.ensures w v c.requires.plans in
    let one = c.saturating_add.ensures in
    let two = c.saturating_add-length.ensures in
    let three = c.saturating_add-length-in-loop-head.ensures in
    let sum = c.loop-head.invariant.sum in
    record {
      sum = omega (arith, here, content, one, two, three, sum);
      small = omega (arith, three);
      heads = (subst (AllByRecursion (IsHead i.headers)) more c.loop-head.invariant.heads).1;
    }

pub returns : goal.returns
returns c =
    let i = c.args.index.now in
    let items = c.deref-head-items.result.now in
    let f = head_size_with (part_size i c.args.window.now c.args.view) in
    let none = ap (sum_by f) (drop_all c.loop-head.head-index items c.loop-head-test.false) in
    let own : items ≡ i.frame.heads = c.deref-head-items.ensures.value ∙ ap (λ (x : Frame). x.heads) (c.around.view_is ∙ c.around-around.ensures.value) in
    let all = ap (λ (hs : List PartHead). sum_by f hs) own in
    let sum = c.loop-head.invariant.sum in
    let here = c.saturating_add-2.ensures in
    omega (arith, none, all, sum, here)
