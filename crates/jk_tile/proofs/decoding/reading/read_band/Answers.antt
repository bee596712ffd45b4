use Rattle.std.proofs.Common.{◌≡◌, ◌+◌, ◌<◌, ◌≤◌, ◌^◌, ◌*◌, length, ◌∙◌, ap, sym, subst, inl, inr, arith}
use Rattle.std.specs.List.{AllByRecursion}
use Rattle.std.proofs.lemmas.Bool.{cases_eq}
use Rattle.std.proofs.lemmas.Result.{err_from_is_err_and}
use Rattle.jk_walk.specs.WalkReading.{place_end}
use Rattle.jk_tile.specs.TileBlocks.{block_bodies}
use Rattle.jk_tile.specs.decoding.TileReading.{each}
use Rattle.jk_wave.specs.declared.region.Region.{Region}
use Rattle.jk_wave.specs.Regions.{part_area}
use Rattle.jk_tile.specs.decoding.Source.{source_bodies, source_part, block_count, ShowsBlock}
use Rattle.jk_tile.proofs.Steps.{each_none, each_more, each_fails, refuses_on, met_by}
use Rattle.jk_tile.proofs.Showing.{block_tested, none_met, none_tested, none_shown, ends_fit, listed_bodies, grid_is}
use Rattle.jk_tile.proofs.decoding.Filled.{fills_same, fills_then}
use Rattle.jk_tile.proofs.decoding.reading.read_band.Goals as goal

pub bodies_by_block-requires-clause-ends : goal.bodies_by_block-requires-clause-ends
bodies_by_block-requires-clause-ends c =
    subst (λ ws. AllByRecursion (λ w. place_end w < 2 ^ 64) ws) (sym c.packets.ensures) (ends_fit (length c.args.source.now.bytes) (2 ^ 64) c.args.source.now.packets c.rect-rect.ensures.source.fits c.rect-rect.ensures.source.ends)

pub loop-j-init : goal.loop-j-init
loop-j-init c = record {
  tested = each_none _;
  fills = fills_same c.args.source.now c.args.part.resolution c.args.rows.now c.requires.filling;
  shows = λ j lt. absurd (omega (arith, lt));
}

pub index-requires : goal.index-requires
index-requires c =
    let s = c.args.source.now in
    let ends = subst (λ ws. AllByRecursion (λ w. place_end w ≤ length s.bytes) ws) (sym c.packets.ensures) c.rect-rect.ensures.source.ends in
    let long = (c.in_ok-lists.ensures.lists (length s.bytes) ends).long in
    let lt = c.loop-j-test.true in
    let same = c.in_ok-lists.lists.ok in
    omega (arith, lt, long, same)

pub read_at-requires-clause-inside : goal.read_at-requires-clause-inside
read_at-requires-clause-inside c =
    let s = c.args.source.now in
    let p = c.args.part in
    let ends = subst (λ ws. AllByRecursion (λ w. place_end w ≤ length s.bytes) ws) (sym c.packets.ensures) c.rect-rect.ensures.source.ends in
    (listed_bodies s p.resolution p.precinct p.band c.loop-j.j 0 (c.blocks-grid.result.across * c.blocks-grid.result.down) c.args.numbers.now c.packets.result.now c.in_ok-lists.lists.items c.index.result.now c.deref.result.now
    c.requires.numbers c.packets.ensures (c.in_ok-lists.ensures.lists (length s.bytes) ends) c.loop-j-test.true c.index.ensures c.deref.ensures.value).0

pub read_at-requires-clause-bodies : goal.read_at-requires-clause-bodies
read_at-requires-clause-bodies c =
    let s = c.args.source.now in
    let p = c.args.part in
    let ends = subst (λ ws. AllByRecursion (λ w. place_end w ≤ length s.bytes) ws) (sym c.packets.ensures) c.rect-rect.ensures.source.ends in
    let here : 0 + c.loop-j.j ≡ c.loop-j.j = omega arith in
    (listed_bodies s p.resolution p.precinct p.band c.loop-j.j 0 (c.blocks-grid.result.across * c.blocks-grid.result.down) c.args.numbers.now c.packets.result.now c.in_ok-lists.lists.items c.index.result.now c.deref.result.now
    c.requires.numbers c.packets.ensures (c.in_ok-lists.ensures.lists (length s.bytes) ends) c.loop-j-test.true c.index.ensures c.deref.ensures.value).1
    ∙ ap (λ n. block_bodies p.band n (source_bodies s p.resolution p.precinct)) here

pub returns-in_err-read_at-clause-exact : goal.returns-in_err-read_at-clause-exact
returns-in_err-read_at-clause-exact c =
    let s = c.args.source.now in
    let p = c.args.part in
    let bodies = source_bodies s p.resolution p.precinct in
    let grid = grid_is s p.resolution p.precinct p.band c.rect-rect.result c.coding.result.now c.orientation-orientation.result c.blocks-grid.result c.rect-rect.ensures.value c.coding.ensures.value c.orientation-orientation.ensures c.blocks-grid.ensures.value in
    let e = c.in_err-read_at.field-0.0 in
    let q = err_from_is_err_and c.from_residual-in_err-read_at.result c.from_residual-in_err-read_at.ensures.1 in
    let lt : c.loop-j.j < block_count s p.resolution p.precinct p.band = omega (arith, c.loop-j-test.true, ap (λ g. g.across * g.down) grid) in
    rw (q.1, q.2) (refuses_on e (block_tested s p.resolution p.precinct p.band c.loop-j.j) _ c.in_err-read_at.ensures.exact
    (λ h. met_by s.region s.coding p.resolution p.precinct p.band bodies
    ∙ each_fails (block_count s p.resolution p.precinct p.band) c.loop-j.j (block_tested s p.resolution p.precinct p.band) e lt c.loop-j.invariant.tested h))

pub loop-j-preserved : goal.loop-j-preserved
loop-j-preserved c =
    let s = c.args.source.now in
    let p = c.args.part in
    let bodies = source_bodies s p.resolution p.precinct in
    let grid = grid_is s p.resolution p.precinct p.band c.rect-rect.result c.coding.result.now c.orientation-orientation.result c.blocks-grid.result c.rect-rect.ensures.value c.coding.ensures.value c.orientation-orientation.ensures c.blocks-grid.ensures.value in
    record {
      tested = each_more c.loop-j.j (block_tested s p.resolution p.precinct p.band) c.loop-j.invariant.tested c.in_ok-read_at.ensures.exact;
      fills = fills_then s p.resolution c.args.rows.now c.loop-j.rows c.read_at.new.rows c.loop-j.invariant.fills c.in_ok-read_at.ensures.fills;
      shows = λ j lt. elim (cases_eq j c.loop-j.j) [
        | inl same ↦ subst (λ k. ShowsBlock s p.resolution p.precinct p.band k c.read_at.new.rows) (sym same) c.in_ok-read_at.ensures.shows
        | inr other ↦ λ x y h inside.
            let before : j < c.loop-j.j = omega (arith, lt, other) in
            c.in_ok-read_at.ensures.fills.keeps p.band x y c.requires.part.band inside (c.loop-j.invariant.shows j before x y h inside)
      ];
    }

pub returns-clause-exact : goal.returns-clause-exact
returns-clause-exact c =
    let s = c.args.source.now in
    let p = c.args.part in
    let grid = grid_is s p.resolution p.precinct p.band c.rect-rect.result c.coding.result.now c.orientation-orientation.result c.blocks-grid.result c.rect-rect.ensures.value c.coding.ensures.value c.orientation-orientation.ensures c.blocks-grid.ensures.value in
    let count : c.loop-j.j ≡ block_count s p.resolution p.precinct p.band = omega (arith, c.loop-j-test.false, ap (λ g. g.across * g.down) grid) in
    met_by s.region s.coding p.resolution p.precinct p.band (source_bodies s p.resolution p.precinct)
    ∙ ap (λ n. each n (block_tested s p.resolution p.precinct p.band)) (sym count) ∙ c.loop-j.invariant.tested

pub returns-then-not-touches-clause-exact : goal.returns-then-not-touches-clause-exact
returns-then-not-touches-clause-exact c =
    let s = c.args.source.now in
    let p = c.args.part in
    let grid = grid_is s p.resolution p.precinct p.band c.rect-rect.result c.coding.result.now c.orientation-orientation.result c.blocks-grid.result c.rect-rect.ensures.value c.coding.ensures.value c.orientation-orientation.ensures c.blocks-grid.ensures.value in
    let area : c.part_area-area.result ≡ source_part s p.resolution p.band = c.part_area-area.ensures.value ∙ ap (λ (q : Region). part_area q c.band_number.result) c.region.ensures.value ∙ ap (part_area s.region) c.band_number.ensures in
    none_tested s p.resolution p.precinct p.band (none_met s p.resolution p.precinct p.band c.blocks-grid.result c.part_area-area.result grid area (sym c.touches.ensures ∙ c.if-not-touches.true))

pub returns-then-not-touches-clause-shows : goal.returns-then-not-touches-clause-shows
returns-then-not-touches-clause-shows c =
    let s = c.args.source.now in
    let p = c.args.part in
    let grid = grid_is s p.resolution p.precinct p.band c.rect-rect.result c.coding.result.now c.orientation-orientation.result c.blocks-grid.result c.rect-rect.ensures.value c.coding.ensures.value c.orientation-orientation.ensures c.blocks-grid.ensures.value in
    let area : c.part_area-area.result ≡ source_part s p.resolution p.band = c.part_area-area.ensures.value ∙ ap (λ (q : Region). part_area q c.band_number.result) c.region.ensures.value ∙ ap (part_area s.region) c.band_number.ensures in
    none_shown s p.resolution p.precinct p.band (block_count s p.resolution p.precinct p.band) c.args.rows.now
    (none_met s p.resolution p.precinct p.band c.blocks-grid.result c.part_area-area.result grid area (sym c.touches.ensures ∙ c.if-not-touches.true))
