use Rattle.std.proofs.Common.{List, length, ap, ◌∙◌, subst}
use Rattle.std.specs.List.{AllZip, zip}
use Rattle.std.proofs.lemmas.Result.{IfOk-weaker}
use Rattle.jk_geom.specs.declared.shape.PacketName.{PacketName}
use Rattle.jk_window.specs.Cutting.{runs_at}
use Rattle.jk_window.specs.Planning.{IsRunPlan}
use Rattle.jk_window.specs.Numbered.{packets_in}
use Rattle.jk_window.proofs.NumberedPlans.{names_long}
use Rattle.jk_window.proofs.tiles.plan_by_names.Goals as goal

pub plan_runs-requires-clause-all : goal.plan_runs-requires-clause-all
plan_runs-requires-clause-all c =
    ap (λ (ns : List PacketName). length ns) (c.deref.ensures.value ∙ c.in_ok-names.ensures.value) ∙ names_long c.args.cut.now c.requires.all

pub returns-clause-plans : goal.returns-clause-plans
returns-clause-plans c =
    let t = c.args.cut.now in
    let own = c.deref.ensures.value ∙ c.in_ok-names.ensures.value in
    IfOk-weaker c.plan_runs.result
    (λ v. AllZip (IsRunPlan c.args.size t) (runs_at (zip c.deref.result.now t.entries.now) c.args.places.now) v.items)
    (λ v. AllZip (IsRunPlan c.args.size t) (runs_at (packets_in t) c.args.places.now) v.items)
    (λ v all. subst (λ (ns : List PacketName). AllZip (IsRunPlan c.args.size t) (runs_at (zip ns t.entries.now) c.args.places.now) v.items) own all)
    c.plan_runs.ensures.plans
