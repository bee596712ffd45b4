use Rattle.std.proofs.Common.{◌≡◌, ◌≤◌, length, refl, sym, ◌∙◌, ap, subst, arith}
use Rattle.jk_math.specs.Raster.{columns_of}
use Rattle.jk_wave.specs.declared.places.BandRows.{BandRows}
use Rattle.jk_wave.specs.LevelRows.{FitsIn}
use Rattle.jk_wave.specs.RegionRows.{resolution_with, level_places, band_rows}
use Rattle.jk_wave.proofs.BandPlaces.{has_rows}
use Rattle.jk_wave.proofs.PartSamples.{one_more_put}
use Rattle.jk_wave.proofs.backward.put_bands.Goals as goal

pub put_rows-requires-clause-fits : goal.put_rows-requires-clause-fits
put_rows-requires-clause-fits c =
    let s = c.args.region.now in
    let of : resolution_with c.loop-b.b ≡ c.args.r = omega arith in
    let long : level_places s (resolution_with c.loop-b.b) ≡ length c.loop-b.rows = ap (level_places s) of ∙ sym (c.loop-b.auto.rows ∙ c.requires.places) in
    subst (λ (p : BandRows). FitsIn p (length c.loop-b.rows)) (sym c.band_rows.ensures.value)
    (subst (FitsIn (band_rows s c.loop-b.b)) long (has_rows s c.loop-b.b).1)

pub put_rows-requires-clause-apart : goal.put_rows-requires-clause-apart
put_rows-requires-clause-apart c =
    subst (λ (p : BandRows). columns_of p.area ≤ p.step) (sym c.band_rows.ensures.value) (has_rows c.args.region.now c.loop-b.b).0

pub loop-b-init : goal.loop-b-init
loop-b-init c = record { put = λ d x y below of w. absurd (omega arith); low = λ x y some w. refl }

pub loop-b-preserved : goal.loop-b-preserved
loop-b-preserved c =
    let of : resolution_with c.loop-b.b ≡ c.args.r = omega arith in
    one_more_put c.args.region.now c.args.r c.loop-b.b c.band_rows.result c.args.bands.now c.plane.result.now c.args.rows.now c.loop-b.rows c.put_rows.new.rows
    of c.band_rows.ensures.value c.plane.ensures c.put_rows.ensures.written c.put_rows.ensures.others c.loop-b.invariant
