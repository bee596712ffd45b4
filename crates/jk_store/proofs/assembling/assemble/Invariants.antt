use Rattle.std.proofs.Common.{◌≡◌, ◌+◌, length, drop}
use Rattle.std.specs.List.{AllByRecursion, sum_by}
use Rattle.jk_store.specs.Readings.{IsReading}
use Rattle.jk_store.specs.PartsGiven.{size_of}
use Rattle.jk_window.specs.Planning.{IsStep}
use Rattle.jk_window.specs.declared.steps.CutStep.{CutStep}
use Rattle.jk_store.proofs.ReadingLaws.{MadeUpTo}
use Rattle.jk_store.proofs.assembling.assemble.Given as goal

-- the steps so far were made
abbrev pub invariant-loop-step : goal.invariant-loop-step
invariant-loop-step g l = record {
  reading : IsReading l.entry l.reading;
  within : AllByRecursion (IsStep (size_of l.entry)) (drop l.step-index l.steps);
  left : l.put + sum_by (λ (s : CutStep). s.written) (drop l.step-index l.steps) ≡ length l.written;
  made : MadeUpTo g.S.Shelf.keeps g.S.Shelf.gave_at g.S.Shelf.failed l.entry l.initial.shelf l.shelf l.reading l.plan (drop l.step-index l.steps) (drop l.put l.written) l.out.items;
}
