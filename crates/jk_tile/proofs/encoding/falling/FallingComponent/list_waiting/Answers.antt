use Rattle.std.proofs.Common.{◌<◌, ℕ, sym, subst, arith}
use Rattle.jk_tile.specs.encoding.Strips.{bands_in}
use Rattle.jk_tile.specs.encoding.FallingComponents.{IsBandUpto}
use Rattle.jk_tile.proofs.encoding.falling.FallingComponent.list_waiting.Goals as goal

pub list_waiting-requires-clause-holds : goal.list_waiting-requires-clause-holds
list_waiting-requires-clause-holds c =
    let s = c.args.source.now in
    let b : ℕ = c.loop-b.b in
    let bands = c.requires.standing.bands in
    let due = bands.count in
    let was = c.index.result.now in
    let lt : b < bands_in s = omega (arith, c.loop-b-test.true, c.len-b-end.ensures, due) in
    (subst (IsBandUpto s c.args.self.now.y b) (sym c.index.ensures) (bands.each b was lt)).holds
