use Rattle.std.proofs.Common.{◌+◌, ◌<◌, ℕ, List, [], ◌∷◌, length, ap, ◌∙◌, arith}
use Rattle.std.proofs.lemmas.List.{length-append}
use Rattle.jk_marks.specs.declared.coding.Coding.{Coding}
use Rattle.jk_tile.specs.encoding.Strips.{bands_in, HasRowsOf}
use Rattle.jk_tile.specs.encoding.FallingComponents.{IsBandUpto}
use Rattle.jk_tile.specs.declared.encoding.strips.BandStrips.{BandStrips}
use Rattle.jk_tile.proofs.encoding.ListsKept.{pushed}
use Rattle.jk_tile.proofs.encoding.ComponentFalls.{AreKnown, first_band}
use Rattle.jk_tile.proofs.encoding.falling.first_bands.Goals as goal

pub loop-b-preserved : goal.loop-b-preserved
loop-b-preserved c =
    let s = c.args.source.now in
    let b : ℕ = c.loop-b.b in
    let now = c.loop-b.invariant in
    let old = c.loop-b.bands.items in
    let new = c.push.new.self.items in
    let x = c.in_ok-new.field-0 in
    let own = c.in_ok-new.ensures in
    let frame = c.coding.ensures.frame in
    let levels = ap (λ (k : Coding). k.levels) c.coding.ensures.value in
    let test = c.loop-b-test.true in
    let lt : b < bands_in s = omega (arith, test, levels) in
    let known : AreKnown = record { falls_none = c.level_fallen.ensures.none; falls_all = c.level_fallen.ensures.all; falls_in_order = c.level_fallen.ensures.order; given_none = c.levels_fallen.ensures.none; given_all = c.levels_fallen.ensures.all; given_in_order = c.levels_fallen.ensures.order } in
    record {
      count = ap (λ (l : List BandStrips). length l) c.in_ok-push.ensures.items ∙ length-append old (x ∷ []) ∙ ap (λ n. n + 1) now.count;
      each = pushed (λ k y. IsBandUpto s s.rect.y0 k y) old new b x now.count c.in_ok-push.ensures.items now.each
          (first_band known s b c.band_name-r.result.0 c.band_name-r.result.1 x frame lt c.band_name-r.ensures.resolution c.band_name-r.ensures.band own.name.0 own.name.1 own.name.2 own.holds);
      rows = λ f. pushed (λ k y. HasRowsOf s f y) old new b x now.count c.in_ok-push.ensures.items (now.rows f) (own.rows f);
    }

pub returns-clause-rows : goal.returns-clause-rows
returns-clause-rows c f b other lt =
    let levels = ap (λ (k : Coding). k.levels) c.coding.ensures.value in
    let past = c.loop-b-test.false in
    let to = c.loop-b.auto.b-end in
    c.loop-b.invariant.rows f b other (omega (arith, lt, levels, past, to))
