use Rattle.std.proofs.Common.{◌≡◌, ℕ, ◌+◌, ◌-◌, ◌*◌, ◌/◌, ◌%◌, sym, ◌∙◌, ap, subst, arith}
use Rattle.jk_geom.specs.Rectangles.{IsArea}
use Rattle.jk_wave.specs.Bands.{numbered_area}
use Rattle.jk_wave.specs.Levels.{half_area}
use Rattle.jk_wave.specs.Regions.{IsPartOf, part_area}
use Rattle.jk_wave.proofs.RegionAreas.{held_is_area, part_lowest, part_number, part_inside}
use Rattle.jk_wave.proofs.Local.{parities_back}
use Rattle.jk_wave.proofs.region.part_area.Goals as goal

pub returns-then-b-eq0-clause-value : goal.returns-then-b-eq0-clause-value
returns-then-b-eq0-clause-value c =
    let s = c.args.region.now in
    let none : 0 ≡ c.args.b = omega arith in
    c.held.ensures.value ∙ sym (part_lowest s) ∙ ap (part_area s) none

pub returns-then-b-eq0-clause-inside : goal.returns-then-b-eq0-clause-inside
returns-then-b-eq0-clause-inside c =
    let s = c.args.region.now in
    let none : 0 ≡ c.args.b = omega arith in
    subst (λ q. IsPartOf q (numbered_area s.rect s.levels c.args.b)) (sym (c.held.ensures.value ∙ sym (part_lowest s) ∙ ap (part_area s) none))
    (part_inside s c.requires.region c.args.b c.requires.b)

pub returns-then-b-eq0-clause-area : goal.returns-then-b-eq0-clause-area
returns-then-b-eq0-clause-area c =
    let s = c.args.region.now in
    subst IsArea (sym c.held.ensures.value) (held_is_area s c.requires.region s.top (omega arith))

-- a sub-band above LL, by its resolution and orientation
is_part : (c : goal.After-half_area) → c.half_area.result ≡ part_area c.args.region.now c.args.b
is_part c =
    let s = c.args.region.now in
    let r : ℕ = (c.args.b - 1) / 3 in
    let p : ℕ = (c.args.b - 1) % 3 in
    let number : 3 * r + (p + 1) ≡ c.args.b = omega arith in
    c.half_area.ensures.value
    ∙ ap (half_area c.around-near.result) (parities_back p (omega arith))
    ∙ ap (λ q. half_area q (p + 1)) c.around-near.ensures.value
    ∙ sym (part_number s r (p + 1) (omega arith) (omega arith))
    ∙ ap (part_area s) number

pub returns-clause-value : goal.returns-clause-value
returns-clause-value c = is_part c

pub returns-clause-inside : goal.returns-clause-inside
returns-clause-inside c =
    let s = c.args.region.now in
    subst (λ q. IsPartOf q (numbered_area s.rect s.levels c.args.b)) (sym (is_part c)) (part_inside s c.requires.region c.args.b c.requires.b)
