use Rattle.std.proofs.Common.{◌≡◌, ℕ, ◌+◌, ◌-◌, ◌<◌, ◌≤◌, ◌++◌, inl, inr, [], ◌∷◌, get_or, length, sym, ◌∙◌, ap, subst, arith}
use Rattle.std.proofs.lemmas.Bool.{cases_lt}
use Rattle.std.proofs.lemmas.List.{length-append, get_or_append_left, get_or-append_right}
use Rattle.jk_math.specs.declared.rect.Rect.{Rect}
use Rattle.jk_wave.specs.Levels.{part_list}
use Rattle.jk_wave.specs.declared.falling.level.FallingLevel.{FallingLevel}
use Rattle.jk_wave.specs.falling.Stack.{IsFallenTo}
use Rattle.jk_wave.proofs.falling.Stacked.{new_at}
use Rattle.jk_wave.proofs.falling.stack.first_levels.Goals as goal

pub loop-n-preserved : goal.loop-n-preserved
loop-n-preserved c =
    let rect = c.args.rect.now in
    let levels : ℕ = c.args.levels in
    let n : ℕ = c.loop-n.n in
    let old = c.loop-n.all.items in
    let level : FallingLevel = c.in_ok-new.field-0 in
    let items : c.push.new.self.items ≡ old ++ level ∷ [] = c.in_ok-push.ensures.items in
    let one = length-append old (level ∷ []) in
    let count = c.loop-n.invariant.count in
    let first = c.in_ok-new.ensures.first in
    let area = c.resolution.ensures.value in
    let last : (k : ℕ) (other : FallingLevel) → n ≤ k → k < n + 1 → get_or (old ++ level ∷ []) k other ≡ level =
    λ k other from less. get_or-append_right old (level ∷ []) n k other count from ∙ ap (λ j. get_or (level ∷ []) j other) (let z : k - n ≡ 0 = omega (arith, from, less) in z) in
    record {
      count = ap length items ∙ one ∙ (let e : length old + 1 ≡ n + 1 = omega (arith, count) in e);
      each = λ f k other lt. subst (λ all. IsFallenTo rect levels rect.y0 f k (get_or all k other)) (sym items) (elim (cases_lt k n) [
        | inl less ↦ subst (IsFallenTo rect levels rect.y0 f k) (sym (get_or_append_left old (level ∷ []) other k (omega (arith, count, less)))) (c.loop-n.invariant.each f k other less)
        | inr past ↦
            let here : n ≡ k = omega (arith, past, lt) in
            subst (IsFallenTo rect levels rect.y0 f k) (sym (last k other past lt)) (subst (λ j. IsFallenTo rect levels rect.y0 f j level) here
            (new_at rect levels n f level c.requires.area (omega (arith, c.loop-n-test.true)) c.in_ok-new.ensures.standing (first.0 ∙ area) (first.1 ∙ ap (λ (r : Rect). r.y0) area)))
      ]);
      none = λ k o other lt few. ap (λ all. part_list (get_or all k other).parts o) items ∙ elim (cases_lt k n) [
        | inl less ↦ ap (λ (s : FallingLevel). part_list s.parts o) (get_or_append_left old (level ∷ []) other k (omega (arith, count, less))) ∙ c.loop-n.invariant.none k o other less few
        | inr past ↦ ap (λ (s : FallingLevel). part_list s.parts o) (last k other past lt) ∙ c.in_ok-new.ensures.none o few
      ];
    }
