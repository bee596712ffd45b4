use Rattle.std.proofs.Common.{◌≡◌, ◌+◌, ◌-◌, ◌++◌, ◌∷◌, ◌∙◌, List, ℕ, sym, subst, ap, arith, append_assoc, length, get_or, take, drop}
use Rattle.std.specs.List.{AllByRecursion}
use Rattle.std.specs.Prelude.{sum_by}
use Rattle.std.proofs.lemmas.List.{append-nil, drop_more, drop_all, drop-drop}
use Rattle.std.proofs.lemmas.List.Sums.{sum_by-cons}
use Rattle.jk_walk.specs.TilePackets.{slice_of}
use Rattle.jk_window.specs.declared.steps.CutStep.{CutStep}
use Rattle.jk_window.specs.Planning.{planned, IsStep, no_step}
use Rattle.jk_window.proofs.PlanLaws.{written_of, planned-cons, planned-nil}
use Rattle.jk_window.proofs.cutting.make.Goals as goal

pub loop-step-init : goal.loop-step-init
loop-step-init c =
    let plan = c.args.plan.now in
    let items = c.steps-step-items.result.now in
    let own = c.steps-step-items.ensures.value in
    let is = c.steps-step-items.ensures.sound in
    let sum = ap (sum_by written_of) own ∙ is.written in
    record {
      steps = subst (λ n. AllByRecursion (IsStep n) items) c.requires (subst (AllByRecursion (IsStep plan.size)) (sym own) is.steps);
      there = omega (arith, sum);
      made = ap (λ (xs : List ℕ). xs ++ planned c.args.bytes.now items plan.written) c.in_ok-file.ensures.items ∙ ap (λ (xs : List CutStep). planned c.args.bytes.now xs plan.written) own;
    }

pub loop-step-preserved : goal.loop-step-preserved
loop-step-preserved c =
    let bytes = c.args.bytes.now in
    let items = c.steps-step-items.result.now in
    let k = c.loop-step.step-index in
    let at = c.loop-step.at in
    let s = get_or items k no_step in
    let rest = drop (k + 1) items in
    let written = c.args.plan.now.written in
    let here : drop k items ≡ s ∷ rest = drop_more items k no_step c.loop-step-test.true in
    let each = subst (AllByRecursion (IsStep (length bytes))) here c.loop-step.invariant.steps in
    let sum = ap (sum_by written_of) here ∙ sum_by-cons written_of s rest in
    let there = c.loop-step.invariant.there in
    let out = c.loop-step.file.items in
    let f = slice_of bytes (s.start, s.end) in
    let n : at + s.written - at ≡ s.written = omega arith in
    let piece : take (at + s.written - at) (drop at c.written-written.result.now) ≡ take s.written (drop at written) = λ j. take (n j) (drop at (c.written-written.ensures j)) in
    let behind = planned bytes rest (drop (at + s.written) written) in
    record {
      steps = each.1;
      there = omega (arith, there, sum);
      made =
          ap (λ (xs : List ℕ). xs ++ behind) c.in_ok-extend_from_slice-2.ensures.items
          ∙ ap (λ (xs : List ℕ). (xs ++ take (at + s.written - at) (drop at c.written-written.result.now)) ++ behind) c.in_ok-extend_from_slice.ensures.items
          ∙ ap (λ (xs : List ℕ). ((out ++ f) ++ xs) ++ behind) piece
          ∙ append_assoc (out ++ f) (take s.written (drop at written)) behind
          ∙ append_assoc out f (take s.written (drop at written) ++ behind)
          ∙ ap (λ (xs : List ℕ). out ++ (f ++ (take s.written (drop at written) ++ planned bytes rest xs))) (sym (drop-drop s.written at written))
          ∙ ap (λ (xs : List ℕ). out ++ xs) (sym (planned-cons bytes s rest (drop at written)))
          ∙ ap (λ (xs : List CutStep). out ++ planned bytes xs (drop at written)) (sym here)
          ∙ c.loop-step.invariant.made;
    }

pub returns : goal.returns
returns c =
    let bytes = c.args.bytes.now in
    let items = c.steps-step-items.result.now in
    let written = c.args.plan.now.written in
    let none = drop_all c.loop-step.step-index items c.loop-step-test.false in
    let out = c.loop-step.file.items in
    sym (append-nil out)
    ∙ ap (λ (xs : List ℕ). out ++ xs) (sym (planned-nil bytes (drop c.loop-step.at written)))
    ∙ ap (λ (xs : List CutStep). out ++ planned bytes xs (drop c.loop-step.at written)) (sym none)
    ∙ c.loop-step.invariant.made
