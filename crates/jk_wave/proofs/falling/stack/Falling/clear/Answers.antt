use Rattle.std.proofs.Common.{◌≡◌, ℕ, ◌^◌, ◌<◌, inl, inr, get_or, set, length, refl, sym, ◌∙◌, ap, subst, arith}
use Rattle.std.proofs.lemmas.Bool.{cases_eq}
use Rattle.std.proofs.lemmas.List.{get_or_default, get_or-set_same, get_or-set_other, length-set}
use Rattle.jk_math.specs.declared.rect.Rect.{Rect}
use Rattle.jk_wave.specs.Levels.{part_list}
use Rattle.jk_wave.specs.SourceRows.{AreBelow}
use Rattle.jk_wave.specs.declared.falling.level.FallingLevel.{FallingLevel}
use Rattle.jk_wave.proofs.falling.Stacked.{AreLike, like_itself, given_like}
use Rattle.jk_wave.proofs.falling.stack.Falling.clear.Goals as goal

pub loop-n-init : goal.loop-n-init
loop-n-init c = record {
  rect = refl;
  levels = refl;
  y = refl;
  count = refl;
  like = λ k other less. like_itself (get_or c.args.self.now.all.items k other);
  none = λ k o other less some few. absurd (omega (arith, less));
}

pub loop-n-preserved : goal.loop-n-preserved
loop-n-preserved c =
    let s = c.args.self.now in
    let n : ℕ = c.loop-n.n in
    let now = c.loop-n.invariant in
    let all = c.loop-n.self.all.items in
    let was = c.index_mut.result.now in
    let is = c.clear.new.self in
    let same = c.clear.ensures.same in
    let count = now.count in
    let long = c.requires.standing.2.at.count in
    let here : n < length all = omega (arith, c.loop-n-test.true, count, long) in
    record {
      rect = now.rect;
      levels = now.levels;
      y = now.y;
      count = length-set all n is ∙ count;
      like = λ k other less. elim (cases_eq k n) [
        | inl e ↦
            let first : was ≡ get_or all n other = c.index_mut.ensures.value ∙ get_or_default all n was other here in
            let like = now.like n other (omega (arith, less, e)) in
            subst (λ j. AreLike (get_or s.all.items j other) (get_or (set all n is) j other)) (sym e) (subst (AreLike (get_or s.all.items n other)) (sym (get_or-set_same all n is other here)) (record {
              area = same.0 ∙ ap (λ (l : FallingLevel). l.area) first ∙ like.area;
              y = same.1 ∙ ap (λ (l : FallingLevel). l.y) first ∙ like.y;
              fall = same.2 ∙ ap (λ (l : FallingLevel). l.fall) first ∙ like.fall;
              row = same.3 ∙ ap (λ (l : FallingLevel). l.row) first ∙ like.row;
              low = same.4 ∙ ap (λ (l : FallingLevel). l.parts.ll) first ∙ like.low;
            }))
        | inr ne ↦ subst (AreLike (get_or s.all.items k other)) (sym (get_or-set_other all n k is other ne)) (now.like k other less)
      ];
      none = λ k o other less some few. elim (cases_eq k n) [
        | inl e ↦ ap (λ j. part_list (get_or (set all n is) j other).parts o) e ∙ ap (λ (l : FallingLevel). part_list l.parts o) (get_or-set_same all n is other here) ∙ c.clear.ensures.none o some few
        | inr ne ↦ ap (λ (l : FallingLevel). part_list l.parts o) (get_or-set_other all n k is other ne) ∙ now.none k o other (omega (arith, less, ne)) some few
      ];
    }

pub returns-clause-given : goal.returns-clause-given
returns-clause-given c f given =
    let s = c.args.self.now in
    let now = c.loop-n.invariant in
    given_like f s _ now.rect now.levels now.y now.count now.like given

pub returns-clause-standing : goal.returns-clause-standing
returns-clause-standing c =
    let some = c.requires.standing in
    (some.0, subst (λ (r : Rect). AreBelow (2 ^ 17) r some.0) (sym c.loop-n.invariant.rect) some.1, returns-clause-given c some.0 some.2)

pub returns-clause-high : goal.returns-clause-high
returns-clause-high c n o other less some few = c.loop-n.invariant.none n o other (omega (arith, less, c.loop-n-test.false)) some few
