use Rattle.std.proofs.Common.{◌≡◌, ℕ, ◌+◌, ◌-◌, ◌++◌, inl, inr, [], ◌∷◌, get_or, length, sym, ◌∙◌, ap, subst, arith}
use Rattle.std.proofs.lemmas.Bool.{cases_lt}
use Rattle.std.proofs.lemmas.List.{length-append, get_or_append_left, get_or-append_right}
use Rattle.jk_math.specs.declared.rect.Rect.{Rect}
use Rattle.jk_geom.specs.Rectangles.{resolution_area}
use Rattle.jk_wave.specs.Bands.{coefficients_of}
use Rattle.jk_wave.specs.declared.climbing.level.ClimbingLevel.{ClimbingLevel}
use Rattle.jk_wave.specs.climbing.Stack.{IsLevelAt}
use Rattle.jk_wave.proofs.climbing.Stacking.{new_at}
use Rattle.jk_wave.proofs.climbing.stack.first_levels.Goals as goal

pub loop-q-preserved : goal.loop-q-preserved
loop-q-preserved c =
    let b = c.args.bands.now in
    let top : ℕ = c.args.top in
    let q : ℕ = c.loop-q.q in
    let bands = coefficients_of b.rect b.levels b.bands in
    let level : ClimbingLevel = c.in_ok-new.field-0 in
    let items : c.push.new.self.items ≡ c.loop-q.levels.items ++ level ∷ [] = c.in_ok-push.ensures.items in
    let one = length-append c.loop-q.levels.items (level ∷ []) in
    let made = c.in_ok-new.ensures.first in
    let area = c.resolution.ensures.value in
    let here = new_at b.rect b.levels top q bands level c.requires.area c.requires.top (omega (arith, c.loop-q-test.true)) c.in_ok-new.ensures.standing
    (made.0 ∙ area) (made.1 ∙ ap (λ (r : Rect). r.y0) area) made.2 in
    record {
      count = ap length items ∙ one ∙ (let n = c.loop-q.invariant.count in let e : length c.loop-q.levels.items + 1 ≡ q + 1 = omega (arith, n) in e);
      each = λ k other lt. subst (λ all. IsLevelAt b.rect b.levels top (resolution_area b.rect b.levels top).y0 bands k (get_or all k other)) (sym items) (elim (cases_lt k q) [
        | inl less ↦ subst (IsLevelAt b.rect b.levels top (resolution_area b.rect b.levels top).y0 bands k) (sym (get_or_append_left c.loop-q.levels.items (level ∷ []) other k (let n = c.loop-q.invariant.count in omega (arith, n, less))))
            (c.loop-q.invariant.each k other less)
        | inr more ↦
            let last : q ≡ k = omega (arith, lt, more) in
            let n = c.loop-q.invariant.count in
            let none : k - q ≡ 0 = omega (arith, last) in
            subst (λ m. IsLevelAt b.rect b.levels top (resolution_area b.rect b.levels top).y0 bands m (get_or (c.loop-q.levels.items ++ level ∷ []) k other)) last
            (subst (IsLevelAt b.rect b.levels top (resolution_area b.rect b.levels top).y0 bands q) (sym (get_or-append_right c.loop-q.levels.items (level ∷ []) q k other n more ∙ ap (λ m. get_or (level ∷ []) m other) none)) here)
      ]);
    }
