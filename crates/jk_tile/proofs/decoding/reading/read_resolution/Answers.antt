use Rattle.std.proofs.Common.{◌≡◌, ℤ, List, ◌<◌, ◌-◌, ◌*◌, IfOk, length, ◌∙◌, ap, sym, subst, inl, inr, arith}
use Rattle.std.proofs.lemmas.Bool.{cases_eq}
use Rattle.std.proofs.lemmas.Result.{err_from_is_err_and}
use Rattle.jk_math.proofs.Laws.{raster_length}
use Rattle.jk_geom.specs.Precincts.{precinct_number}
use Rattle.jk_wave.specs.declared.region.Region.{Region}
use Rattle.jk_wave.specs.Regions.{held}
use Rattle.jk_math.specs.Raster.{places_of}
use Rattle.jk_wave.specs.RegionRows.{ShowsLevel, IsLevel, IsMadeSmall, IsBegunLevel}
use Rattle.std.specs.Vec.{with_items}
use Rattle.jk_math.specs.Raster.{raster}
use Rattle.jk_wave.specs.Resolutions.{resolution_of}
use Rattle.jk_tile.specs.decoding.TileReading.{each, precinct_part_tested}
use Rattle.jk_tile.specs.decoding.Source.{source_bodies, source_coefficient, block_count, ShowsPrecinct, Fills, resolution_values, resolution_at}
use Rattle.jk_tile.proofs.Steps.{each_none, each_more, each_fails, refuses_on}
use Rattle.jk_tile.proofs.Showing.{followed_numbers, count_is, resolution_fine, resolution_err, with_same}
use Rattle.jk_tile.proofs.AllBands.{made_answers, made_match}
use Rattle.jk_tile.proofs.decoding.Filled.{fills_same, fills_then, shown_on, begun_filling, level_shown}
use Rattle.jk_tile.proofs.decoding.reading.read_resolution.Goals as goal

pub begin_level-requires-clause-below : goal.begin_level-requires-clause-below
begin_level-requires-clause-below c = λ some.
    let s = c.args.source.now in
    ap (λ (xs : List ℤ). length xs) (c.requires.below some)
    ∙ raster_length (held s.region (s.region.top - (c.args.r - 1))) (resolution_of s.region.rect s.region.levels (source_coefficient s) (c.args.r - 1))
    ∙ ap (λ (q : Region). places_of (held q (q.top - (c.args.r - 1)))) (sym c.region-region.ensures.value)

pub loop-n-init : goal.loop-n-init
loop-n-init c =
    let s = c.args.source.now in
    let begun = subst (λ (q : Region). IsBegunLevel q c.args.r c.args.below.items c.in_ok-rows.rows.items) c.region-region.ensures.value c.in_ok-rows.ensures.begun in
    record {
      tested = each_none _;
      fills = fills_same s c.args.r c.in_ok-rows.rows.items (begun_filling s c.args.r c.args.below.items c.in_ok-rows.rows.items begun c.requires.made);
      shows = λ n lt. absurd (omega (arith, lt));
    }

pub follow-requires-clause-precinct : goal.follow-requires-clause-precinct
follow-requires-clause-precinct c = let long = c.in_ok-chains.ensures.chains.first in omega (arith, long, c.loop-n-test.true)

pub follow-requires-clause-chain : goal.follow-requires-clause-chain
follow-requires-clause-chain c = let own = c.in_ok-chains.ensures.chains.each c.loop-n.n c.loop-n-test.true in (own.0, own.1)

pub read_precinct-requires-clause-numbers : goal.read_precinct-requires-clause-numbers
read_precinct-requires-clause-numbers c =
    followed_numbers c.args.source.now c.args.r c.loop-n.n (c.precinct_count-across.result.0 * c.precinct_count-across.result.1) c.tile_packets.result.now c.number.result c.in_ok-chains.chains c.follow.new.numbers.items c.deref.result.now
    c.tile_packets.ensures c.number.ensures c.in_ok-chains.ensures.chains c.loop-n-test.true c.in_ok-follow.ensures.numbers c.deref.ensures.value

pub returns-in_err-read_precinct-clause-exact : goal.returns-in_err-read_precinct-clause-exact
returns-in_err-read_precinct-clause-exact c =
    let s = c.args.source.now in
    let e = c.in_err-read_precinct.field-0.0 in
    let q = err_from_is_err_and c.from_residual-in_err-read_precinct.result c.from_residual-in_err-read_precinct.ensures.1 in
    let count = count_is s c.args.r c.precinct_count-across.result.0 c.precinct_count-across.result.1 c.rect-rect.result c.coding.result.now c.rect-rect.ensures.value c.coding.ensures.value c.precinct_count-across.ensures.across c.precinct_count-across.ensures.down in
    let lt : c.loop-n.n < precinct_number s.region.rect s.coding c.args.r = omega (arith, c.loop-n-test.true, count) in
    rw (q.1, q.2) (refuses_on e (precinct_part_tested s.region s.coding c.args.r c.loop-n.n (source_bodies s c.args.r c.loop-n.n)) _ c.in_err-read_precinct.ensures.exact
    (λ h. resolution_err s c.args.r e (each_fails (precinct_number s.region.rect s.coding c.args.r) c.loop-n.n (λ n. precinct_part_tested s.region s.coding c.args.r n (source_bodies s c.args.r n)) e lt c.loop-n.invariant.tested h)))

pub loop-n-preserved : goal.loop-n-preserved
loop-n-preserved c =
    let s = c.args.source.now in
    let r = c.args.r in
    let first = c.in_ok-rows.rows.items in
    let old = c.loop-n.rows in
    let lent = c.deref_mut.result.now in
    let new = c.read_precinct.new.rows in
    let step : Fills s r old.items new = subst (λ (xs : List ℤ). Fills s r xs new) c.deref_mut.ensures.value c.in_ok-read_precinct.ensures.fills in
    let back : (with_items old new).items ≡ new = with_same old new (step.filling.level.places ∙ sym c.loop-n.invariant.fills.filling.level.places) in
    let kept = subst (λ (xs : List ℤ). Fills s r old.items xs) (sym back) step in
    record {
      tested = each_more c.loop-n.n (λ n. precinct_part_tested s.region s.coding r n (source_bodies s r n)) c.loop-n.invariant.tested c.in_ok-read_precinct.ensures.exact;
      fills = fills_then s r first old.items (with_items old new).items c.loop-n.invariant.fills kept;
      shows = λ n less. elim (cases_eq n c.loop-n.n) [
        | inl same ↦ subst (λ k. ShowsPrecinct s r k (with_items old new).items) (sym same) (subst (ShowsPrecinct s r c.loop-n.n) (sym back) c.in_ok-read_precinct.ensures.shows)
        | inr other ↦ λ i few. shown_on s r n i (block_count s r n i) old.items (with_items old new).items few kept (c.loop-n.invariant.shows n (omega (arith, less, other)) i few)
      ];
    }

pub finish_level-requires-clause-level : goal.finish_level-requires-clause-level
finish_level-requires-clause-level c = subst (λ (q : Region). IsLevel q c.args.r c.loop-n.rows.items) (sym c.region-region.ensures.value) c.loop-n.invariant.fills.filling.level

pub returns-clause-exact : goal.returns-clause-exact
returns-clause-exact c =
    let s = c.args.source.now in
    let r = c.args.r in
    let region = c.region-region.ensures.value in
    let count = count_is s r c.precinct_count-across.result.0 c.precinct_count-across.result.1 c.rect-rect.result c.coding.result.now c.rect-rect.ensures.value c.coding.ensures.value c.precinct_count-across.ensures.across c.precinct_count-across.ensures.down in
    let all : c.loop-n.n ≡ precinct_number s.region.rect s.coding r = omega (arith, c.loop-n-test.false, c.loop-n.auto.n-end, count) in
    let tested = ap (λ k. each k (λ n. precinct_part_tested s.region s.coding r n (source_bodies s r n))) (sym all) ∙ c.loop-n.invariant.tested in
    let begun = subst (λ (q : Region). IsBegunLevel q r c.args.below.items c.in_ok-rows.rows.items) region c.in_ok-rows.ensures.begun in
    let shown = level_shown s r c.args.below.items c.in_ok-rows.rows.items c.loop-n.rows.items c.rect-rect.ensures.source c.requires.r begun c.requires.below c.loop-n.invariant.fills (λ n lt. c.loop-n.invariant.shows n (omega (arith, lt, all))) in
    let f = source_coefficient s in
    let samples = subst (λ (q : Region). IfOk c.finish_level.result (λ v. v.items ≡ raster (held q (q.top - r)) (resolution_of q.rect q.levels f r))) region
    (c.finish_level.ensures.samples f (subst (λ (q : Region). ShowsLevel q r f c.loop-n.rows.items) (sym region) shown)) in
    made_answers c.finish_level.result (resolution_at s r) (resolution_values s r) (made_match c.finish_level.result (resolution_values s r) samples c.finish_level.ensures.err) (resolution_fine s r tested)

pub returns-clause-made : goal.returns-clause-made
returns-clause-made c = subst (λ (q : Region). IfOk c.finish_level.result (λ v. IsMadeSmall q c.args.r v.items)) c.region-region.ensures.value c.finish_level.ensures.made
