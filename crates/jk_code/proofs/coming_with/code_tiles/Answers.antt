use Rattle.std.proofs.Common.{◌≡◌, ◌≢◌, ◌<◌, ◌+◌, ℕ, length, get_or, ap, sym, subst, ◌∙◌, arith}
use Rattle.std.proofs.lemmas.List.{get_or-set_other, length-set}
use Rattle.jk_tile.specs.encoding.Forward.{tile_value}
use Rattle.jk_tile.specs.encoding.Strips.{ComponentFrame}
use Rattle.jk_tile.specs.encoding.FallingTiles.{IsStandingTile, HasTileSamples}
use Rattle.jk_code.specs.ComingRows.{component_of, IsFallingTile}
use Rattle.jk_code.specs.declared.coming_walk.ComingWalk.{ComingWalk}
use Rattle.jk_code.proofs.EntriesKept.{replaced}
use Rattle.jk_code.proofs.ComingWalkLaws.{with_tiles, tiles_changed}
use Rattle.jk_code.proofs.coming_with.code_tiles.Goals as goal

pub component_at-source-requires-clause-number : goal.component_at-source-requires-clause-number
component_at-source-requires-clause-number c =
    let few = c.requires.walk.below.few in
    omega (arith, few, c.loop-k-test.true, c.len-first.ensures, c.len-k-end.ensures)

pub code_listed-requires-clause-standing : goal.code_listed-requires-clause-standing
code_listed-requires-clause-standing c =
    let s = c.args.coming.now in
    let w = c.args.walk.now in
    let k : ℕ = c.loop-k.k in
    let x = c.index_mut.result.now in
    let lt : k < length w.tiles.items = omega (arith, c.loop-k-test.true, c.len-k-end.ensures) in
    let here : x ≡ get_or w.tiles.items k x = c.index_mut.ensures.value ∙ c.loop-k.invariant.left k x (omega arith) in
    let first : c.len-first.result ≡ length w.fallen.items = omega (arith, c.len-first.ensures) in
    let was : IsFallingTile s (length w.fallen.items + k) w.y x = subst (IsFallingTile s (length w.fallen.items + k) w.y) (sym here) (c.requires.walk.tiles k x lt) in
    subst (λ (f : ComponentFrame). IsStandingTile f x) (sym (c.component_at-source.ensures ∙ ap (λ n. component_of s (n + k)) first)) was.standing

pub loop-k-preserved : goal.loop-k-preserved
loop-k-preserved c =
    let s = c.args.coming.now in
    let w = c.args.walk.now in
    let k : ℕ = c.loop-k.k in
    let n : ℕ = length w.fallen.items in
    let now = c.loop-k.invariant in
    let held = c.loop-k.walk.tiles.items in
    let x = c.index_mut.result.now in
    let new = c.code_listed.new.self in
    let done = c.in_ok-code_listed.ensures in
    let count = now.count in
    let lt : k < length w.tiles.items = omega (arith, c.loop-k-test.true, c.len-k-end.ensures) in
    let inside : k < length held = omega (arith, lt, count) in
    let here : x ≡ get_or w.tiles.items k x = c.index_mut.ensures.value ∙ now.left k x (omega arith) in
    let first : c.len-first.result ≡ n = omega (arith, c.len-first.ensures) in
    let source = c.component_at-source.ensures ∙ ap (λ m. component_of s (m + k)) first in
    let was : IsFallingTile s (n + k) w.y x = subst (IsFallingTile s (n + k) w.y) (sym here) (c.requires.walk.tiles k x lt) in
    record {
      same = with_tiles c.loop-k.walk w _ now.same;
      count = length-set held k new ∙ count;
      done = replaced (λ j t. IsFallingTile s (n + j) w.y t) held k new inside now.done
          (record { standing = subst (λ (f : ComponentFrame). IsStandingTile f new) source done.standing; components = done.count ∙ was.components; next = done.next ∙ was.next });
      left = λ j other from. get_or-set_other held k j new other (let ne : j ≢ k = omega (arith, from) in ne) ∙ now.left j other (omega (arith, from));
      rows = λ p has. replaced (λ j t. HasTileSamples (component_of s (n + j)) (tile_value p s.parameters.now.colour) t) held k new inside (now.rows p has)
          (subst (λ (f : ComponentFrame). HasTileSamples f (tile_value p s.parameters.now.colour) new) source
          (done.rows (tile_value p s.parameters.now.colour)
          (subst (λ (f : ComponentFrame). HasTileSamples f (tile_value p s.parameters.now.colour) x) (sym source) (subst (HasTileSamples (component_of s (n + k)) (tile_value p s.parameters.now.colour)) (sym here) (has k x lt)))));
      ahead = done.ahead;
    }

pub returns-clause-walk : goal.returns-clause-walk
returns-clause-walk c =
    let now = c.loop-k.invariant in
    let count = now.count in
    tiles_changed c.args.coming.now c.args.walk.now c.loop-k.walk c.requires.walk now.same count (λ k other lt. now.done k other (omega (arith, lt, count, c.loop-k-test.false, c.len-k-end.ensures)))
    (λ p has k other lt. now.rows p has k other (omega (arith, lt, count, c.loop-k-test.false, c.len-k-end.ensures)))

pub returns-clause-end : goal.returns-clause-end
returns-clause-end c = ap (λ (w : ComingWalk). w.end) c.loop-k.invariant.same
