use Rattle.std.proofs.Common.{◌≡◌, ℕ, ◌+◌, ◌-◌, ◌*◌, ◌/◌, ◌%◌, sym, ◌∙◌, ap, subst, arith}
use Rattle.jk_math.specs.declared.rect.Rect.{Rect}
use Rattle.jk_math.specs.Raster.{columns_of}
use Rattle.jk_geom.specs.Rectangles.{IsArea}
use Rattle.jk_wave.specs.declared.places.BandRows.{BandRows}
use Rattle.jk_wave.specs.LevelRows.{part_rows}
use Rattle.jk_wave.specs.RegionRows.{band_rows}
use Rattle.jk_wave.proofs.BandPlaces.{band_lowest, band_number}
use Rattle.jk_wave.proofs.Local.{parities_back}
use Rattle.jk_wave.proofs.RegionAreas.{held_is_area, part_lowest}
use Rattle.jk_wave.proofs.places.band_rows.Goals as goal

pub returns-then-b-eq0-clause-value : goal.returns-then-b-eq0-clause-value
returns-then-b-eq0-clause-value c =
    let s = c.args.region.now in
    let none : 0 ≡ c.args.b = omega arith in
    ap (λ (a : Rect). let p : BandRows = record { area = a; start = 0; step = columns_of a } in p) (c.held-area.ensures.value ∙ sym (part_lowest s))
    ∙ sym (band_lowest s) ∙ ap (band_rows s) none

pub returns-then-b-eq0-clause-area : goal.returns-then-b-eq0-clause-area
returns-then-b-eq0-clause-area c =
    let s = c.args.region.now in
    subst IsArea (sym c.held-area.ensures.value) (held_is_area s c.requires.region s.top (omega arith))

pub returns-clause-value : goal.returns-clause-value
returns-clause-value c =
    let s = c.args.region.now in
    let r : ℕ = (c.args.b - 1) / 3 in
    let p : ℕ = (c.args.b - 1) % 3 in
    let number : 3 * r + (p + 1) ≡ c.args.b = omega arith in
    c.part_rows.ensures.value
    ∙ ap (part_rows c.around-near.result) (parities_back p (omega arith))
    ∙ ap (λ q. part_rows q (p + 1)) c.around-near.ensures.value
    ∙ sym (band_number s r (p + 1) (omega arith) (omega arith))
    ∙ ap (band_rows s) number
