use Rattle.std.proofs.Common.{◌<◌, ◌^◌, ◌++◌, List, sym, ap, subst, ◌∙◌}
use Rattle.std.proofs.lemmas.Result.{on_ok_weaker}
use Rattle.std.proofs.Common.{append_assoc}
use Rattle.jk_marks.specs.PartHeads.{part_head}
use Rattle.jk_window.specs.Planning.{plan_text, plan_length}
use Rattle.jk_window.proofs.PartPlans.{psot_cut, head_cut}
use Rattle.jk_window.proofs.planning.plan_part.Goals as goal

pub plan_head-requires : goal.plan_head-requires
plan_head-requires c = record {
  fits = subst (λ p. p < 2 ^ 32) (sym (psot_cut c.args.head.now c.length.result (plan_length c.args.content.now) c.length.ensures c.requires.fits)) c.requires.fits;
}

pub returns-clause-text : goal.returns-clause-text
returns-clause-text c =
    let h = c.args.head.now in
    let n = plan_length c.args.content.now in
    let same = head_cut h c.args.segments.now c.length.result n (psot_cut h c.length.result n c.length.ensures c.requires.fits) in
    on_ok_weaker c.append.result
    (λ behind file. (
    let text = plan_text file c.args.content.now in
    behind.made file
    ∙ ap (λ (xs : List _). xs ++ text) (c.in_ok-plan_head.ensures.ok.made file)
    ∙ append_assoc (plan_text file c.args.plan.now) (part_head h c.args.segments.now c.length.result) text
    ∙ ap (λ xs. plan_text file c.args.plan.now ++ (xs ++ text)) same))
    c.append.ensures.ok
