use Rattle.std.proofs.Common.{◌*◌, ◌<◌, ◌^◌, ◌++◌, sym, ap, subst, ◌∙◌, append_assoc, arith}
use Rattle.std.proofs.Math.Nat.{mul-le-mul_right}
use Rattle.std.proofs.lemmas.Result.{on_ok_weaker}
use Rattle.jk_marks.specs.PartHeads.{psot_for, part_head}
use Rattle.jk_window.specs.Emptying.{emptied_texts}
use Rattle.jk_window.specs.Planning.{plan_text}
use Rattle.jk_window.proofs.planning.plan_emptied.Goals as goal

pub overflow_mul-count : goal.overflow_mul-count
overflow_mul-count c =
    let bound = mul-le-mul_right c.emptied_size.result c.requires.few in
    let small = c.emptied_size.ensures.small in
    record { fits = omega (arith, bound, small) }

pub plan_head-requires : goal.plan_head-requires
plan_head-requires c = record { fits = subst (λ k. psot_for c.args.head.now (c.args.count * k) < 2 ^ 32) (sym c.emptied_size.ensures.size) c.requires.fits }

pub returns-clause-text : goal.returns-clause-text
returns-clause-text c =
    let h = c.args.head.now in
    let text = emptied_texts c.args.eph c.args.count in
    let same = ap (λ k. part_head h c.args.segments.now (c.args.count * k)) c.emptied_size.ensures.size in
    on_ok_weaker c.write_emptied.result
    (λ behind file. (
    behind.made file
    ∙ ap (λ xs. xs ++ text) (c.in_ok-plan_head.ensures.ok.made file)
    ∙ append_assoc (plan_text file c.args.plan.now) (part_head h c.args.segments.now (c.args.count * c.emptied_size.result)) text
    ∙ ap (λ xs. plan_text file c.args.plan.now ++ (xs ++ text)) same))
    c.write_emptied.ensures.ok
