use Rattle.std.proofs.Common.{List, sym, subst}
use Rattle.std.specs.List.{AllZip}
use Rattle.std.proofs.lemmas.Result.{IfOk-weaker}
use Rattle.jk_order.specs.PacketOrder.{order}
use Rattle.jk_window.specs.Cutting.{Entered, runs_at}
use Rattle.jk_window.specs.PartEnds.{cut_at}
use Rattle.jk_window.specs.Planning.{IsRunPlan}
use Rattle.jk_window.specs.Numbered.{packets_in}
use Rattle.jk_window.proofs.NumberedPlans.{names_long}
use Rattle.jk_window.proofs.tiles.plan_by_numbers.Goals as goal

pub returns-clause-plans : goal.returns-clause-plans
returns-clause-plans c = λ places is.
    let t = c.args.cut.now in
    let same = is.cut (order t.shape.now) (names_long t c.requires.all) in
    IfOk-weaker c.plan_intervals.result
    (λ v. AllZip (IsRunPlan c.args.size t) (cut_at (packets_in t) 0 t.parts.now.ends.items) v.items)
    (λ v. AllZip (IsRunPlan c.args.size t) (runs_at (packets_in t) places) v.items)
    (λ v all. subst (λ (rs : List (List Entered)). AllZip (IsRunPlan c.args.size t) rs v.items) (sym same) all)
    c.plan_intervals.ensures.plans
