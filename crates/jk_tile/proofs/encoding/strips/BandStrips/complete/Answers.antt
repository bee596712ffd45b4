use Rattle.std.proofs.Common.{sym, ◌∙◌}
use Rattle.jk_tile.proofs.encoding.Waiting.{band_given, exponent_given, whole_given, open_given}
use Rattle.jk_tile.proofs.encoding.strips.BandStrips.complete.Goals as goal

pub end_row-requires-clause-whole : goal.end_row-requires-clause-whole
end_row-requires-clause-whole c =
    let s = c.args.source.now in
    let b = c.args.self.now in
    whole_given s b c.band-area.result c.block_exponent-exponent.result c.requires.holds c.requires.some
    (band_given s b c.rect.result c.band-area.result c.coding-coding.result.now c.orientation-orientation.result c.requires.holds.band c.rect.ensures.value c.coding-coding.ensures.value c.orientation-orientation.ensures c.band-area.ensures.value)
    (exponent_given s c.coding-coding.result.now b.resolution c.block_exponent-exponent.result c.coding-coding.ensures.value c.block_exponent-exponent.ensures.value) (sym c.is_start.ensures ∙ c.if-is_start.true)

pub returns-clause-holds : goal.returns-clause-holds
returns-clause-holds c =
    let s = c.args.source.now in
    let b = c.args.self.now in
    open_given s b c.band-area.result c.block_exponent-exponent.result c.requires.holds c.requires.some
    (band_given s b c.rect.result c.band-area.result c.coding-coding.result.now c.orientation-orientation.result c.requires.holds.band c.rect.ensures.value c.coding-coding.ensures.value c.orientation-orientation.ensures c.band-area.ensures.value)
    (exponent_given s c.coding-coding.result.now b.resolution c.block_exponent-exponent.result c.coding-coding.ensures.value c.block_exponent-exponent.ensures.value) (sym c.is_start.ensures ∙ c.if-is_start.false)
