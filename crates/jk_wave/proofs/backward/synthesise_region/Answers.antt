use Rattle.std.proofs.Common.{◌≡◌, ℕ, ◌+◌, ◌-◌, length, sym, ◌∙◌, ap, subst, arith}
use Rattle.jk_math.specs.Raster.{raster}
use Rattle.jk_math.proofs.Laws.{raster_length}
use Rattle.jk_wave.specs.LevelRows.{coefficient_of}
use Rattle.jk_wave.specs.Regions.{held}
use Rattle.jk_wave.specs.RegionRows.{low_rows, ShowsLow, ShowsLevel, IsLevel}
use Rattle.jk_wave.specs.Resolutions.{resolution_of}
use Rattle.jk_wave.proofs.LevelSamples.{made_small}
use Rattle.jk_wave.proofs.PartSamples.{own, own_shown, held_made, bands_put, put_is_level, all_held}
use Rattle.jk_wave.proofs.Rows.{written_items}
use Rattle.jk_wave.proofs.backward.synthesise_region.Goals as goal

pub begin_level-requires-clause-below : goal.begin_level-requires-clause-below
begin_level-requires-clause-below c some =
    let s = c.args.region.now in
    let q : ℕ = c.loop-r.r - 1 in
    let lists = c.args.bands.now in
    ap length (c.loop-r.invariant some (own s lists) (own_shown s lists)) ∙ raster_length (held s (s.top - q)) (resolution_of s.rect s.levels (own s lists) q)

pub finish_level-requires-clause-level : goal.finish_level-requires-clause-level
finish_level-requires-clause-level c =
    let s = c.args.region.now in
    let lists = c.args.bands.now in
    let r : ℕ = c.loop-r.r in
    let rows = c.in_ok-rows.rows in
    let kept : length c.put_bands.new.rows ≡ length rows.items = c.put_bands.auto.rows ∙ ap length c.deref_mut.ensures.value in
    let whole = written_items rows.len c.put_bands.new.rows rows.items (omega (arith, rows.ok.0)) kept in
    let low = subst (λ l. ShowsLow s r (coefficient_of (low_rows s r) l) c.put_bands.new.rows) c.deref_mut.ensures.value c.put_bands.ensures.low in
    let begun = c.in_ok-rows.ensures.begun.level (λ some. held_made s (r - 1) lists c.loop-r.samples.items c.requires.parts (c.loop-r.invariant some)) in
    subst (IsLevel s r) (sym whole)
    (put_is_level s r lists c.in_ok-rows.rows.items c.put_bands.new.rows (omega arith) c.requires.parts begun kept low c.put_bands.ensures.bands)

pub loop-r-preserved : goal.loop-r-preserved
loop-r-preserved c some f shown =
    let s = c.args.region.now in
    let lists = c.args.bands.now in
    let r : ℕ = c.loop-r.r in
    let rows = c.in_ok-rows.rows in
    let kept : length c.put_bands.new.rows ≡ length rows.items = c.put_bands.auto.rows ∙ ap length c.deref_mut.ensures.value in
    let whole = written_items rows.len c.put_bands.new.rows rows.items (omega (arith, rows.ok.0)) kept in
    let low = subst (λ l. ShowsLow s r (coefficient_of (low_rows s r) l) c.put_bands.new.rows) c.deref_mut.ensures.value c.put_bands.ensures.low in
    let back : r ≡ r + 1 - 1 = omega arith in
    let shows : ShowsLevel s r f c.put_bands.new.rows = record {
      low = λ x y up w. low x y up w ∙ c.in_ok-rows.ensures.begun.shows (resolution_of s.rect s.levels f (r - 1)) (λ one. c.loop-r.invariant one f shown) x y up w;
      bands = bands_put s r lists c.put_bands.new.rows f (omega arith) shown c.put_bands.ensures.bands;
    } in
    c.in_ok-samples.ensures.samples f (subst (ShowsLevel s r f) (sym whole) shows)
    ∙ ap (λ n. raster (held s (s.top - n)) (resolution_of s.rect s.levels f n)) back

pub returns-clause-part : goal.returns-clause-part
returns-clause-part c f shown =
    let s = c.args.region.now in
    let q : ℕ = c.loop-r.r - 1 in
    all_held s q c.args.bands.now c.loop-r.samples.items f (omega arith) (c.loop-r.invariant (omega arith)) shown

pub returns-clause-small : goal.returns-clause-small
returns-clause-small c =
    let s = c.args.region.now in
    let q : ℕ = c.loop-r.r - 1 in
    made_small s q c.loop-r.samples.items c.requires.region (omega arith)
    (held_made s q c.args.bands.now c.loop-r.samples.items c.requires.parts (c.loop-r.invariant (omega arith)))
