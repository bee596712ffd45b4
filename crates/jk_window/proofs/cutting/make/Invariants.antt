use Rattle.std.proofs.Common.{◌≡◌, ◌+◌, ◌++◌, length, drop}
use Rattle.std.specs.Prelude.{sum_by}
use Rattle.std.specs.List.{AllByRecursion}
use Rattle.jk_window.specs.Planning.{planned, plan_text, IsStep}
use Rattle.jk_window.proofs.PlanLaws.{written_of}
use Rattle.jk_window.proofs.cutting.make.Given as goal

abbrev pub invariant-loop-step : goal.invariant-loop-step
invariant-loop-step l = record {
  steps : AllByRecursion (IsStep (length l.bytes)) (drop l.step-index l.step-items);
  there : l.at + sum_by written_of (drop l.step-index l.step-items) ≡ length l.plan.written;
  made : l.file.items ++ planned l.bytes (drop l.step-index l.step-items) (drop l.at l.plan.written) ≡ plan_text l.bytes l.plan;
}
