use Rattle.std.proofs.Common.{◌≡◌, ◌<◌, ◌+◌, ◌-◌, ◌∙◌, [], ◌∷◌, List, ℕ, sym, subst, arith, length, set}
use Rattle.jk_window.specs.Planning.{PlanFields, IsBehind, no_step}
use Rattle.jk_window.proofs.PlanLaws.{plan_of, write_plan, get_same}
use Rattle.jk_window.proofs.steps.CutPlan.write_byte_last.Goals as goal

pub returns-clause-ok : goal.returns-clause-ok
returns-clause-ok c =
    let i = c.self.inside in
    let n = c.len-last.result - 1 in
    let x = c.index-step.result.now in
    let bytes = c.args.byte ∷ [] in
    let p = plan_of i.steps.items i.written.items i.size in
    let some : 0 < length i.steps.items = subst (λ (q : PlanFields). 0 < length q.steps) (sym c.self.view_is) c.requires.some in
    let count : length i.steps.items ≡ n + 1 = omega (arith, some, c.len-last.ensures) in
    let lt : n < length i.steps.items = omega (arith, count) in
    let b = write_plan p n x bytes c.self.invariant count (c.index-step.ensures ∙ get_same i.steps.items n x no_step lt) in
    subst (λ (q : PlanFields). IsBehind q (plan_of (set i.steps.items n (record { start = x.start; end = x.end; written = x.written + length bytes })) c.push.new.self.items i.size) (λ _. bytes) (length bytes)) c.self.view_is
    (subst (λ (written : List ℕ). IsBehind p (plan_of (set i.steps.items n (record { start = x.start; end = x.end; written = x.written + length bytes })) written i.size) (λ _. bytes) (length bytes)) (sym c.in_ok-push.ensures.items) b.behind)
