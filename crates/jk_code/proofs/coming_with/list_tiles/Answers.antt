use Rattle.std.proofs.Common.{◌≡◌, ◌<◌, ◌+◌, ℕ, length, ap, sym, subst, ◌∙◌, arith}
use Rattle.jk_tile.specs.encoding.Strips.{ComponentFrame}
use Rattle.jk_tile.specs.encoding.FallingTiles.{IsStandingTile}
use Rattle.jk_code.specs.ComingRows.{component_of, IsFallingTile}
use Rattle.jk_code.proofs.coming_with.list_tiles.Goals as goal

pub component_at-source-requires-clause-number : goal.component_at-source-requires-clause-number
component_at-source-requires-clause-number c =
    let few = c.requires.walk.below.few in
    omega (arith, few, c.loop-k-test.true, c.len-first.ensures, c.len-k-end.ensures)

pub list_waiting-requires-clause-standing : goal.list_waiting-requires-clause-standing
list_waiting-requires-clause-standing c =
    let s = c.args.coming.now in
    let w = c.args.walk.now in
    let k : ℕ = c.loop-k.k in
    let x = c.index.result.now in
    let lt : k < length w.tiles.items = omega (arith, c.loop-k-test.true, c.len-k-end.ensures) in
    let first : c.len-first.result ≡ length w.fallen.items = omega (arith, c.len-first.ensures) in
    let is : IsFallingTile s (length w.fallen.items + k) w.y x = subst (IsFallingTile s (length w.fallen.items + k) w.y) (sym c.index.ensures) (c.requires.walk.tiles k x lt) in
    subst (λ (f : ComponentFrame). IsStandingTile f x) (sym (c.component_at-source.ensures ∙ ap (λ n. component_of s (n + k)) first)) is.standing
