use Rattle.std.proofs.Common.{subst, sym, arith}
use Rattle.jk_tile.specs.encoding.Strips.{IsRowOf, IsWaitingRow}
use Rattle.jk_tile.proofs.encoding.Waiting.{waiting_at}
use Rattle.jk_tile.proofs.encoding.strips.BandStrips.list_waiting.Goals as goal

pub list_strip-requires-clause-strip : goal.list_strip-requires-clause-strip
list_strip-requires-clause-strip c =
    let s = c.args.source.now in
    let b = c.args.self.now in
    let row = c.index-row.result.now in
    let is = subst (IsWaitingRow s b.resolution b.band b.bits) (sym c.index-row.ensures) (waiting_at s b.resolution b.band b.bits b.top b.area.y0 b.waiting.items c.loop-index.index row (omega (arith, c.loop-index-test.true, c.len-index-end.ensures)) c.requires.holds.0.waiting) in
    subst (IsRowOf s b.resolution b.band row.area) (sym c.deref.ensures.value) is.row
