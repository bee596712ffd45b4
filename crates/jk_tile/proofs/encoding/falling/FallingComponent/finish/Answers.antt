use Rattle.std.proofs.Common.{List, length, subst, ap, ◌∙◌}
use Rattle.std.proofs.lemmas.List.{length-map}
use Rattle.jk_tile.specs.encoding.FallenComponents.{fallen_band}
use Rattle.jk_tile.specs.encoding.FallingComponents.{AreBandsUpto}
use Rattle.jk_tile.specs.declared.encoding.fallen.FallenBand.{FallenBand}
use Rattle.jk_tile.proofs.encoding.ComponentFalls.{AreKnown}
use Rattle.jk_tile.proofs.encoding.ComponentDone.{fallen_bands, coded_bands}
use Rattle.jk_tile.proofs.encoding.falling.FallingComponent.finish.Goals as goal

pub code_all-requires : goal.code_all-requires
code_all-requires c = record { bands = (c.args.self.y, c.requires.standing.bands) }

pub returns-clause-fallen : goal.returns-clause-fallen
returns-clause-fallen c =
    let s = c.args.source.now in
    let all = c.code_all.new.bands.items in
    let standing = c.requires.standing in
    let bands = c.in_ok-code_all.ensures.bands c.args.self.y standing.bands in
    record {
      frame = standing.frame;
      count = ap (λ (l : List FallenBand). length l) c.in_ok-keep_all.ensures.bands ∙ length-map all fallen_band ∙ bands.count;
      each = fallen_bands s c.args.self.y all c.in_ok-keep_all.field-0.items c.in_ok-keep_all.ensures.bands bands;
    }

pub returns-clause-rows : goal.returns-clause-rows
returns-clause-rows c f has =
    let s = c.args.source.now in
    let all = c.code_all.new.bands.items in
    let standing = c.requires.standing in
    let known : AreKnown = record { falls_none = c.level_fallen.ensures.none; falls_all = c.level_fallen.ensures.all; falls_in_order = c.level_fallen.ensures.order; given_none = c.levels_fallen.ensures.none; given_all = c.levels_fallen.ensures.all; given_in_order = c.levels_fallen.ensures.order } in
    coded_bands known s _ all c.in_ok-keep_all.field-0.items standing.frame c.in_ok-keep_all.ensures.bands (subst (λ y. AreBandsUpto s y all) c.requires.last (c.in_ok-code_all.ensures.bands c.args.self.y standing.bands)) c.in_ok-code_all.ensures.none
    (c.in_ok-code_all.ensures.rows _ has.bands)
