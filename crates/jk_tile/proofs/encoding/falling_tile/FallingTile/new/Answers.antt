use Rattle.std.proofs.Common.{◌+◌, List, [], ◌∷◌, length, get_or, sym, ap, subst, ◌∙◌, arith}
use Rattle.std.proofs.lemmas.List.{length-append}
use Rattle.jk_math.specs.declared.rect.Rect.{Rect}
use Rattle.jk_tile.specs.encoding.FallingComponents.{HasSamples}
use Rattle.jk_tile.specs.encoding.FallingTiles.{IsStandingAt}
use Rattle.jk_tile.specs.declared.encoding.falling.FallingComponent.{FallingComponent}
use Rattle.jk_tile.proofs.encoding.ListsKept.{pushed}
use Rattle.jk_tile.proofs.encoding.falling_tile.FallingTile.new.Goals as goal

pub loop-preserved : goal.loop-preserved
loop-preserved c =
    let s = c.args.source.now in
    let now = c.loop.invariant in
    let old = c.loop.list.items in
    let new = c.push.new.self.items in
    let x = c.in_ok-new.field-0 in
    let own = c.in_ok-new.ensures in
    record {
      count = ap (λ (l : List FallingComponent). length l) c.in_ok-push.ensures.items ∙ length-append old (x ∷ []) ∙ ap (λ n. n + 1) now.count;
      each = pushed (λ k y. IsStandingAt s s.rect.y0 y) old new c.loop.counter x now.count c.in_ok-push.ensures.items now.each (record { standing = own.standing; next = own.first });
      rows = λ f. pushed (λ k y. HasSamples s (f k) y) old new c.loop.counter x now.count c.in_ok-push.ensures.items (now.rows f) (own.rows (f c.loop.counter));
    }

pub returns-clause-standing : goal.returns-clause-standing
returns-clause-standing c =
    let s = c.args.source.now in
    let now = c.loop.invariant in
    let count = now.count in
    let top = ap (λ (a : Rect). a.y0) c.rect.ensures.value in
    record { each = λ k other lt. subst (λ y. IsStandingAt s y (get_or c.loop.list.items k other)) (sym top) (now.each k other (omega (arith, lt, count))) }

pub returns-clause-count : goal.returns-clause-count
returns-clause-count c = let count = c.loop.invariant.count in omega (arith, count, c.loop-test.false, c.loop.auto.counter-end)

pub returns-clause-rows : goal.returns-clause-rows
returns-clause-rows c f = let count = c.loop.invariant.count in record { each = λ k other lt. c.loop.invariant.rows f k other (omega (arith, lt, count)) }
