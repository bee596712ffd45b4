use Rattle.std.proofs.Common.{◌<◌, ℕ, length, sym, subst, arith}
use Rattle.jk_tile.specs.encoding.FallingTiles.{IsStandingAt}
use Rattle.jk_tile.proofs.encoding.falling_tile.FallingTile.list_waiting.Goals as goal

pub list_waiting-requires-clause-standing : goal.list_waiting-requires-clause-standing
list_waiting-requires-clause-standing c =
    let k : ℕ = c.loop-c.c in
    let was = c.index.result.now in
    let lt : k < length c.args.self.now.components.items = omega (arith, c.loop-c-test.true, c.len-c-end.ensures) in
    (subst (IsStandingAt c.args.source.now c.args.self.now.y) (sym c.index.ensures) (c.requires.standing.each k was lt)).standing
