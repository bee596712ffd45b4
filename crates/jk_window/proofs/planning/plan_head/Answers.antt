use Rattle.std.proofs.Common.{◌++◌, length, ap, subst, ◌∙◌}
use Rattle.std.proofs.lemmas.Result.{on_ok_weaker}
use Rattle.jk_marks.specs.PartHeads.{part_head}
use Rattle.jk_window.specs.Planning.{IsBehind}
use Rattle.jk_window.proofs.planning.plan_head.Goals as goal

pub returns-clause-ok : goal.returns-clause-ok
returns-clause-ok c =
    let head = part_head c.args.head.now c.args.segments.now c.args.content in
    let text = c.deref.ensures.value ∙ c.in_ok-put_part_head.ensures.ok ∙ ap (λ xs. xs ++ head) c.clear.ensures.items in
    on_ok_weaker c.write.result (λ is. subst (λ xs. IsBehind c.args.plan.now c.write.new.self (λ _. xs) (length xs)) text is) c.write.ensures.ok
