use Rattle.std.proofs.Common.{sym, subst}
use Rattle.jk_math.specs.declared.rect.Rect.{Rect}
use Rattle.jk_geom.specs.Rectangles.{IsWithin}
use Rattle.jk_walk.specs.TilePackets.{band_number}
use Rattle.jk_tile.specs.Filling.{IsPartOf}
use Rattle.jk_tile.specs.decoding.Source.{source_coefficient}
use Rattle.jk_tile.proofs.Showing.{IsPut, put_keeps, put_shows, place_is, few_is, few_levels, values_agree}
use Rattle.jk_tile.proofs.decoding.strips.read_into.Goals as goal

pub returns-clause-shows : goal.returns-clause-shows
returns-clause-shows c = λ x y h.
    let s = c.args.source.now in
    let p = c.args.block.part in
    let place = place_is s p.resolution p.precinct p.band c.args.block.number c.args.block.grid.now c.block-place.result c.requires.grid c.block-place.ensures in
    let lt = few_is s p.resolution p.precinct p.band c.args.block.number c.args.block.grid.now c.requires.grid c.requires.number in
    let agrees = values_agree s p.resolution p.precinct p.band c.args.block.number c.block-place.result c.in_ok-read.read.values.items c.requires.source
    (few_levels s p.resolution c.requires.source c.requires.part.resolution) c.requires.part.precinct c.requires.part.band lt place c.in_ok-read.ensures.exact in
    put_shows c.args.area.now c.block-place.result c.args.strip.now c.put-2.new.plane c.in_ok-read.read.values.items (source_coefficient s (band_number p.resolution p.band))
    (subst (λ vs. IsPut c.args.area.now c.block-place.result c.args.strip.now c.put-2.new.plane vs) c.deref.ensures.value c.put-2.ensures.value) agrees
    (subst (λ (b : Rect). IsPartOf b c.args.area.now) (sym c.block-place.ensures) c.requires.place) x y (subst (λ (b : Rect). IsWithin b x y) (sym place) h)

pub returns-clause-keeps : goal.returns-clause-keeps
returns-clause-keeps c = λ x y h before.
    let s = c.args.source.now in
    let p = c.args.block.part in
    let place = place_is s p.resolution p.precinct p.band c.args.block.number c.args.block.grid.now c.block-place.result c.requires.grid c.block-place.ensures in
    let lt = few_is s p.resolution p.precinct p.band c.args.block.number c.args.block.grid.now c.requires.grid c.requires.number in
    let agrees = values_agree s p.resolution p.precinct p.band c.args.block.number c.block-place.result c.in_ok-read.read.values.items c.requires.source
    (few_levels s p.resolution c.requires.source c.requires.part.resolution) c.requires.part.precinct c.requires.part.band lt place c.in_ok-read.ensures.exact in
    put_keeps c.args.area.now c.block-place.result c.args.strip.now c.put-2.new.plane c.in_ok-read.read.values.items (source_coefficient s (band_number p.resolution p.band))
    (subst (λ vs. IsPut c.args.area.now c.block-place.result c.args.strip.now c.put-2.new.plane vs) c.deref.ensures.value c.put-2.ensures.value) agrees x y h before

pub returns-in-Some-clause-shows : goal.returns-in-Some-clause-shows
returns-in-Some-clause-shows c = λ x y h.
    let s = c.args.source.now in
    let p = c.args.block.part in
    let place = place_is s p.resolution p.precinct p.band c.args.block.number c.args.block.grid.now c.block-place.result c.requires.grid c.block-place.ensures in
    let lt = few_is s p.resolution p.precinct p.band c.args.block.number c.args.block.grid.now c.requires.grid c.requires.number in
    let agrees = values_agree s p.resolution p.precinct p.band c.args.block.number c.block-place.result c.in-Some.values.now c.requires.source
    (few_levels s p.resolution c.requires.source c.requires.part.resolution) c.requires.part.precinct c.requires.part.band lt place c.in-Some.ensures.exact in
    put_shows c.args.area.now c.block-place.result c.args.strip.now c.put.new.plane c.in-Some.values.now (source_coefficient s (band_number p.resolution p.band))
    c.put.ensures.value agrees
    (subst (λ (b : Rect). IsPartOf b c.args.area.now) (sym c.block-place.ensures) c.requires.place) x y (subst (λ (b : Rect). IsWithin b x y) (sym place) h)

pub returns-in-Some-clause-keeps : goal.returns-in-Some-clause-keeps
returns-in-Some-clause-keeps c = λ x y h before.
    let s = c.args.source.now in
    let p = c.args.block.part in
    let place = place_is s p.resolution p.precinct p.band c.args.block.number c.args.block.grid.now c.block-place.result c.requires.grid c.block-place.ensures in
    let lt = few_is s p.resolution p.precinct p.band c.args.block.number c.args.block.grid.now c.requires.grid c.requires.number in
    let agrees = values_agree s p.resolution p.precinct p.band c.args.block.number c.block-place.result c.in-Some.values.now c.requires.source
    (few_levels s p.resolution c.requires.source c.requires.part.resolution) c.requires.part.precinct c.requires.part.band lt place c.in-Some.ensures.exact in
    put_keeps c.args.area.now c.block-place.result c.args.strip.now c.put.new.plane c.in-Some.values.now (source_coefficient s (band_number p.resolution p.band))
    c.put.ensures.value agrees x y h before
