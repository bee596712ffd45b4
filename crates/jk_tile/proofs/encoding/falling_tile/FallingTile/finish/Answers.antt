use Rattle.std.proofs.Common.{◌≡◌, ℕ, List, [], ◌∷◌, length, drop, refl, sym, ap, subst, ◌∙◌, arith}
use Rattle.std.proofs.lemmas.List.{length-append}
use Rattle.jk_tile.specs.encoding.FallenComponents.{IsFallen, IsCodedOf}
use Rattle.jk_tile.specs.encoding.FallingComponents.{HasSamples}
use Rattle.jk_tile.specs.encoding.FallingTiles.{IsStandingAt}
use Rattle.jk_tile.specs.declared.encoding.fallen.FallenComponent.{FallenComponent}
use Rattle.jk_tile.proofs.encoding.ListsKept.{pushed, taken, taken_all}
use Rattle.jk_tile.proofs.encoding.falling_tile.FallingTile.finish.Goals as goal

pub loop-component-init : goal.loop-component-init
loop-component-init c =
    let all = c.args.self.components.items in
    let none = ap (λ (l : List FallenComponent). length l) c.in_ok-components.ensures.items in
    record {
      left = c.into_iter-component-iterator.ensures.into_iter_gives.0 ∙ sym (ap (λ n. drop n all) none);
      few = omega (arith, none);
      each = λ k other lt. absurd (omega (arith, lt, none));
      rows = λ f has k other lt. absurd (omega (arith, lt, none));
    }

pub finish-requires-clause-standing : goal.finish-requires-clause-standing
finish-requires-clause-standing c =
    let all = c.args.self.components.items in
    let n : ℕ = length c.loop-component.components.items in
    let x = c.in-Some.component in
    let is = taken all n x c.loop-component.component-iterator.rest.items c.next.new.self.rest.items c.loop-component.invariant.left c.in-Some.ensures.steps.0 in
    (subst (IsStandingAt c.args.source.now c.args.self.y) (is.here x) (c.requires.standing.each n x is.inside)).standing

pub finish-requires-clause-last : goal.finish-requires-clause-last
finish-requires-clause-last c =
    let all = c.args.self.components.items in
    let n : ℕ = length c.loop-component.components.items in
    let x = c.in-Some.component in
    let is = taken all n x c.loop-component.component-iterator.rest.items c.next.new.self.rest.items c.loop-component.invariant.left c.in-Some.ensures.steps.0 in
    (subst (IsStandingAt c.args.source.now c.args.self.y) (is.here x) (c.requires.standing.each n x is.inside)).next ∙ c.requires.last

pub loop-component-preserved : goal.loop-component-preserved
loop-component-preserved c =
    let s = c.args.source.now in
    let all = c.args.self.components.items in
    let old = c.loop-component.components.items in
    let new = c.push.new.self.items in
    let n : ℕ = length old in
    let x = c.in-Some.component in
    let kept = c.in_ok-finish.field-0 in
    let now = c.loop-component.invariant in
    let own = c.in_ok-finish.ensures in
    let is = taken all n x c.loop-component.component-iterator.rest.items c.next.new.self.rest.items now.left c.in-Some.ensures.steps.0 in
    let inside = is.inside in
    let long = ap (λ (l : List FallenComponent). length l) c.in_ok-push.ensures.items ∙ length-append old (kept ∷ []) in
    record {
      left = is.left ∙ ap (λ k. drop k all) (sym long);
      few = omega (arith, inside, long);
      each = λ k other lt. pushed (λ k y. IsFallen s y) old new n kept refl c.in_ok-push.ensures.items now.each own.fallen k other (omega (arith, lt, long));
      rows = λ f has k other lt. pushed (λ k y. IsCodedOf s (f k) y) old new n kept refl c.in_ok-push.ensures.items (now.rows f has) (own.rows (f n) (subst (HasSamples s (f n)) (is.here x) (has.each n x inside))) k other (omega (arith, lt, long));
    }

pub returns-clause-fallen : goal.returns-clause-fallen
returns-clause-fallen c = record { each = c.loop-component.invariant.each }

pub returns-clause-count : goal.returns-clause-count
returns-clause-count c =
    let few = c.loop-component.invariant.few in
    let rest = c.loop-component.component-iterator.rest in
    let none : length rest.items ≡ 0 = omega (arith, c.in-None.ensures.steps.0, rest.ok.0) in
    let all = taken_all c.args.self.components.items (length c.loop-component.components.items) rest.items c.loop-component.invariant.left none in
    omega (arith, few, all)

pub returns-clause-rows : goal.returns-clause-rows
returns-clause-rows c f has = record { each = c.loop-component.invariant.rows f has }
