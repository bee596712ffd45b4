use Rattle.std.proofs.Common.{◌≡◌, ◌+◌, ◌-◌, ◌^◌, ◌≤◌, min, drop}
use Rattle.std.specs.Prelude.{sum_by}
use Rattle.std.specs.List.{AllByRecursion}
use Rattle.jk_window.specs.Planning.{step_length, IsStep}
use Rattle.jk_window.proofs.steps.CutPlan.length.Given as goal

abbrev pub invariant-loop-step : goal.invariant-loop-step
invariant-loop-step l =
    (min (l.sum + sum_by step_length (drop l.step-index l.step-items)) (2 ^ 64 - 1) ≡ min (sum_by step_length l.self.steps) (2 ^ 64 - 1))
    × (l.sum ≤ 2 ^ 64 - 1)
    × AllByRecursion (IsStep l.self.size) (drop l.step-index l.step-items)
