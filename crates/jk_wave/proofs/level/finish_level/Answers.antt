use Rattle.std.proofs.Common.{◌≡◌, ℕ, ◌-◌, ◌++◌, length, take, drop, sym, ◌∙◌, ap, subst, arith}
use Rattle.jk_math.specs.declared.rect.Rect.{Rect}
use Rattle.jk_math.specs.Raster.{places_of, plane_at, raster}
use Rattle.jk_math.proofs.Laws.{raster_length}
use Rattle.jk_geom.specs.Rectangles.{resolution_area}
use Rattle.jk_wave.specs.Levels.{unlifted_over}
use Rattle.jk_wave.specs.LevelRows.{woven_rows, IsBoundedLevel}
use Rattle.jk_wave.specs.Regions.{held, around}
use Rattle.jk_wave.proofs.BandPlaces.{level_more}
use Rattle.jk_wave.proofs.LevelSamples.{lowest_samples, level_made, cropped_samples, made_is, made_small, level_bounded}
use Rattle.jk_wave.proofs.RegionAreas.{held_part, near_has}
use Rattle.jk_wave.proofs.level.finish_level.Goals as goal

pub returns-then-r-eq0-clause-samples : goal.returns-then-r-eq0-clause-samples
returns-then-r-eq0-clause-samples c f shown = lowest_samples c.args.region.now c.args.r c.args.rows.items f (omega arith) c.requires.level.places shown

pub returns-then-r-eq0-clause-made : goal.returns-then-r-eq0-clause-made
returns-then-r-eq0-clause-made c =
    made_is c.args.region.now c.args.r c.args.rows.items c.args.rows.items c.requires.level c.requires.region c.requires.r (returns-then-r-eq0-clause-samples c)

pub returns-then-r-eq0-clause-small : goal.returns-then-r-eq0-clause-small
returns-then-r-eq0-clause-small c =
    made_small c.args.region.now c.args.r c.args.rows.items c.requires.region c.requires.r (returns-then-r-eq0-clause-made c)

pub synthesise_level-requires-clause-whole : goal.synthesise_level-requires-clause-whole
synthesise_level-requires-clause-whole c =
    ap length c.deref_mut-2.ensures.value ∙ c.requires.level.places ∙ level_more c.args.region.now c.args.r (omega arith) ∙ ap places_of (sym c.around-near.ensures.value)

pub synthesise_level-requires-clause-small : goal.synthesise_level-requires-clause-small
synthesise_level-requires-clause-small c =
    let s = c.args.region.now in
    subst (λ (a : Rect). IsBoundedLevel a c.deref_mut-2.result.now) (sym c.around-near.ensures.value)
    (subst (IsBoundedLevel (around s (s.top - c.args.r))) (sym c.deref_mut-2.ensures.value)
    (level_bounded s c.args.r c.args.rows.items c.requires.region (omega arith) c.requires.r c.requires.level))

pub crop-requires-clause-whole : goal.crop-requires-clause-whole
crop-requires-clause-whole c =
    let s = c.args.region.now in
    let near : Rect = around s (s.top - c.args.r) in
    let made = level_made c.around-near.result near c.args.rows.len c.args.rows.items c.deref_mut-2.result.now c.synthesise_level.new.rows (omega (arith, c.args.rows.ok.0, c.deref_mut-2.ensures.value))
    c.synthesise_level.auto.rows c.deref_mut-2.ensures.value c.around-near.ensures.value c.synthesise_level.ensures in
    ap length made ∙ raster_length near (unlifted_over near (woven_rows near c.args.rows.items)) ∙ ap places_of (sym c.around-near.ensures.value)

pub returns-clause-samples : goal.returns-clause-samples
returns-clause-samples c f shown =
    let s = c.args.region.now in
    let n : ℕ = s.top - c.args.r in
    let near : Rect = around s n in
    let u : Rect = held s n in
    let plane = take c.args.rows.len (c.synthesise_level.new.rows ++ drop (length c.synthesise_level.new.rows) c.args.rows.items) in
    let cut : c.crop.result.items ≡ raster u (plane_at near plane) = c.crop.ensures
    ∙ ap (λ q. raster q (plane_at c.around-near.result plane)) c.held-shown.ensures.value
    ∙ ap (λ q. raster u (plane_at q plane)) c.around-near.ensures.value in
    let made = level_made c.around-near.result near c.args.rows.len c.args.rows.items c.deref_mut-2.result.now c.synthesise_level.new.rows (omega (arith, c.args.rows.ok.0, c.deref_mut-2.ensures.value))
    c.synthesise_level.auto.rows c.deref_mut-2.ensures.value c.around-near.ensures.value c.synthesise_level.ensures in
    let part = near_has (resolution_area s.rect s.levels (s.top - n)) u (held_part s c.requires.region n (omega arith)) in
    cropped_samples s c.args.r c.args.rows.items plane c.crop.result.items f c.requires.region (omega arith) c.requires.r shown made part cut

pub returns-clause-made : goal.returns-clause-made
returns-clause-made c =
    made_is c.args.region.now c.args.r c.args.rows.items c.crop.result.items c.requires.level c.requires.region c.requires.r (returns-clause-samples c)

pub returns-clause-small : goal.returns-clause-small
returns-clause-small c = made_small c.args.region.now c.args.r c.crop.result.items c.requires.region c.requires.r (returns-clause-made c)
