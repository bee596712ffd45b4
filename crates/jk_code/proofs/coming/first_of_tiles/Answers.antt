use Rattle.std.proofs.Common.{◌+◌, List, [], ◌∷◌, length, ap, subst, ◌∙◌, arith}
use Rattle.std.proofs.lemmas.List.{length-append}
use Rattle.jk_tile.specs.encoding.Forward.{tile_value}
use Rattle.jk_tile.specs.encoding.Strips.{ComponentFrame}
use Rattle.jk_tile.specs.encoding.FallingTiles.{IsStandingTile, HasTileSamples}
use Rattle.jk_tile.specs.declared.encoding.falling_tile.FallingTile.{FallingTile}
use Rattle.jk_code.specs.ComingRows.{component_of, area_of_coming, IsFallingTile}
use Rattle.jk_code.proofs.EntriesKept.{pushed}
use Rattle.jk_code.proofs.coming.first_of_tiles.Goals as goal

pub loop-k-preserved : goal.loop-k-preserved
loop-k-preserved c =
    let s = c.args.coming.now in
    let k = c.loop-k.k in
    let first = c.args.first in
    let now = c.loop-k.invariant in
    let old = c.loop-k.tiles.items in
    let new = c.push.new.self.items in
    let x = c.in_ok-new.field-0 in
    let own = c.in_ok-new.ensures in
    let source = c.component_at-source.ensures in
    let same = ap (λ (f : ComponentFrame). f.rect.y0) source in
    record {
      count = ap (λ (l : List FallingTile). length l) c.in_ok-push.ensures.items ∙ length-append old (x ∷ []) ∙ ap (λ n. n + 1) now.count;
      each = pushed (λ j y. IsFallingTile s (first + j) (area_of_coming s first).y0 y) old new k x now.count c.in_ok-push.ensures.items now.each
          (record { standing = subst (λ (f : ComponentFrame). IsStandingTile f x) source own.standing; components = own.count; next = own.first ∙ same ∙ c.requires.beside k (omega (arith, c.loop-k-test.true)) });
      rows = λ p. pushed (λ j y. HasTileSamples (component_of s (first + j)) (tile_value p s.parameters.now.colour) y) old new k x now.count c.in_ok-push.ensures.items (now.rows p)
          (subst (λ (f : ComponentFrame). HasTileSamples f (tile_value p s.parameters.now.colour) x) source (own.rows (tile_value p s.parameters.now.colour)));
    }

pub returns-clause-count : goal.returns-clause-count
returns-clause-count c = let count = c.loop-k.invariant.count in omega (arith, count, c.loop-k-test.false, c.loop-k.auto.k-end)

pub returns-clause-tiles : goal.returns-clause-tiles
returns-clause-tiles c k other lt = let count = c.loop-k.invariant.count in c.loop-k.invariant.each k other (omega (arith, lt, count))

pub returns-clause-rows : goal.returns-clause-rows
returns-clause-rows c p k other lt = let count = c.loop-k.invariant.count in c.loop-k.invariant.rows p k other (omega (arith, lt, count))
