use Rattle.std.proofs.Common.{◌-◌, ◌<◌, length, sym, ◌∙◌, ap, subst, arith}
use Rattle.std.proofs.lemmas.Result.{IfOk-weaker}
use Rattle.jk_math.specs.declared.rect.Rect.{Rect}
use Rattle.jk_math.specs.Raster.{places_of}
use Rattle.jk_geom.specs.Rectangles.{IsArea}
use Rattle.jk_wave.specs.Levels.{half_area}
use Rattle.jk_wave.specs.LevelRows.{AreZeros, IsBegun}
use Rattle.jk_wave.specs.Regions.{around}
use Rattle.jk_wave.proofs.LevelSamples.{below_is, begun_lowest, begun_above}
use Rattle.jk_wave.proofs.RegionAreas.{held_is_area}
use Rattle.jk_wave.proofs.level.begin_level.Goals as goal

pub zeros-requires : goal.zeros-requires
zeros-requires c =
    let s = c.args.region.now in
    subst IsArea (sym c.held.ensures.value) (held_is_area s c.requires.region s.top (omega arith))

pub returns-then-r-eq0-clause-begun : goal.returns-then-r-eq0-clause-begun
returns-then-r-eq0-clause-begun c =
    let s = c.args.region.now in
    IfOk-weaker c.zeros.result _ _ (λ v h. begun_lowest s c.args.r c.args.below.items v.items (omega arith)
    (subst (λ (a : Rect). AreZeros (places_of a) v.items) c.held.ensures.value h)) c.zeros.ensures.zeros

pub begin_rows-requires-clause-whole : goal.begin_rows-requires-clause-whole
begin_rows-requires-clause-whole c =
    let s = c.args.region.now in
    let some : 0 < c.args.r = omega arith in
    ap length c.deref.ensures.value ∙ c.requires.below some ∙ ap places_of (below_is s c.args.r some c.requires.r)
    ∙ ap (λ a. places_of (half_area a 0)) (sym c.around.ensures.value)

pub returns-clause-begun : goal.returns-clause-begun
returns-clause-begun c =
    let s = c.args.region.now in
    IfOk-weaker c.begin_rows.result _ _ (λ v h. begun_above s c.args.r c.args.below.items v.items (omega arith) c.requires.r
    (subst (λ l. IsBegun (around s (s.top - c.args.r)) l v.items) c.deref.ensures.value
    (subst (λ (a : Rect). IsBegun a c.deref.result.now v.items) c.around.ensures.value h))) c.begin_rows.ensures.begun
