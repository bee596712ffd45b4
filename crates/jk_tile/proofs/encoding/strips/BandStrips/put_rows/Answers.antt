use Rattle.std.proofs.Common.{refl}
use Rattle.jk_wave.proofs.ColumnRows.{on_done}
use Rattle.jk_tile.proofs.encoding.Waiting.{longer_holds, longer_rows}
use Rattle.jk_tile.proofs.encoding.strips.BandStrips.put_rows.Goals as goal

pub complete-requires-clause-holds : goal.complete-requires-clause-holds
complete-requires-clause-holds c =
    longer_holds c.args.source.now c.args.self.now _ c.args.end c.args.rows.now c.top_bits.result c.requires.holds c.requires.some c.requires.inside c.requires.within c.requires.long c.top_bits.ensures.planes c.top_bits.ensures.few
    (record { resolution = refl; band = refl; area = refl; bits = c.max-self.ensures; strip = c.in_ok-extend_from_slice.ensures.items; blocks = refl; top = refl; waiting = refl })

pub returns-clause-rows : goal.returns-clause-rows
returns-clause-rows c =
    on_done c.complete.result (λ keeps f has rows. keeps f
    (longer_rows c.args.source.now f c.args.self.now _ c.args.end c.args.rows.now c.top_bits.result c.requires.holds.0 c.requires.some c.top_bits.ensures.planes
    (record { resolution = refl; band = refl; area = refl; bits = c.max-self.ensures; strip = c.in_ok-extend_from_slice.ensures.items; blocks = refl; top = refl; waiting = refl }) rows has)) c.complete.ensures.rows
