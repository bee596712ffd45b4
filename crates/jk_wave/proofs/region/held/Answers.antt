use Rattle.std.proofs.Common.{◌≡◌, ◌+◌, ◌-◌, sym, ◌∙◌, ap, subst, arith}
use Rattle.jk_geom.specs.Rectangles.{resolution_area}
use Rattle.jk_lift.specs.Pieces.{near_area}
use Rattle.jk_wave.specs.Levels.{half_area}
use Rattle.jk_wave.specs.Regions.{IsPartOf, held}
use Rattle.jk_wave.proofs.RegionAreas.{held_none, held_more, held_part}
use Rattle.jk_wave.proofs.region.held.Goals as goal

pub loop-below-init : goal.loop-below-init
loop-below-init c =
    let s = c.args.region.now in
    (sym (held_none s), subst (λ q. IsPartOf q (resolution_area s.rect s.levels (s.top - 0))) (held_none s) (held_part s c.requires.region 0 (omega arith)))

pub loop-below-preserved : goal.loop-below-preserved
loop-below-preserved c =
    let s = c.args.region.now in
    let n = c.loop-below.below in
    let is : c.half_area-area.result ≡ held s (n + 1) = c.half_area-area.ensures.value
    ∙ ap (λ q. half_area q 0) c.near_area.ensures.value
    ∙ ap (λ q. half_area (near_area q c.loop-below.area) 0) c.resolution-whole.ensures.value
    ∙ ap (λ q. half_area (near_area (resolution_area s.rect s.levels (s.top - n)) q) 0) c.loop-below.invariant.0
    ∙ sym (held_more s n) in
    (is, subst (λ q. IsPartOf q (resolution_area s.rect s.levels (s.top - (n + 1)))) (sym is) (held_part s c.requires.region (n + 1) (omega arith)))
