use Rattle.std.proofs.Common.{◌≡◌, ◌+◌, ◌<◌, ◌≤◌, ◌^◌, ◌*◌, length, ◌∙◌, ap, sym, subst, arith}
use Rattle.std.specs.List.{AllByRecursion}
use Rattle.std.proofs.lemmas.Result.{err_from_is_err_and}
use Rattle.jk_walk.specs.WalkReading.{place_end}
use Rattle.jk_tile.specs.TileBlocks.{block_bodies}
use Rattle.jk_tile.specs.decoding.TileReading.{each, tested, block_values}
use Rattle.jk_tile.specs.decoding.Source.{source_bodies, block_count}
use Rattle.jk_tile.proofs.Steps.{each_none, each_more, each_fails, refuses_on, tested_err, tested_ok, band_by}
use Rattle.jk_tile.proofs.Showing.{ends_fit, listed_bodies, grid_is}
use Rattle.jk_tile.proofs.decoding.judging.judge_band.Goals as goal

pub bodies_by_block-requires-clause-ends : goal.bodies_by_block-requires-clause-ends
bodies_by_block-requires-clause-ends c =
    subst (λ ws. AllByRecursion (λ w. place_end w < 2 ^ 64) ws) (sym c.packets.ensures) (ends_fit (length c.args.source.now.bytes) (2 ^ 64) c.args.source.now.packets c.rect-rect.ensures.source.fits c.rect-rect.ensures.source.ends)

pub loop-j-init : goal.loop-j-init
loop-j-init c = each_none _

pub index-requires : goal.index-requires
index-requires c =
    let s = c.args.source.now in
    let ends = subst (λ ws. AllByRecursion (λ w. place_end w ≤ length s.bytes) ws) (sym c.packets.ensures) c.rect-rect.ensures.source.ends in
    let long = (c.in_ok-lists.ensures.lists (length s.bytes) ends).long in
    let lt = c.loop-j-test.true in
    let same = c.in_ok-lists.lists.ok in
    omega (arith, lt, long, same)

pub read_band_block-requires-clause-inside : goal.read_band_block-requires-clause-inside
read_band_block-requires-clause-inside c =
    let s = c.args.source.now in
    let p = c.args.part in
    let ends = subst (λ ws. AllByRecursion (λ w. place_end w ≤ length s.bytes) ws) (sym c.packets.ensures) c.rect-rect.ensures.source.ends in
    (listed_bodies s p.resolution p.precinct p.band c.loop-j.j 0 (c.blocks-grid.result.across * c.blocks-grid.result.down) c.args.numbers.now c.packets.result.now c.in_ok-lists.lists.items c.index.result.now c.deref.result.now
    c.requires.numbers c.packets.ensures (c.in_ok-lists.ensures.lists (length s.bytes) ends) c.loop-j-test.true c.index.ensures c.deref.ensures.value).0

pub read_band_block-requires-clause-bodies : goal.read_band_block-requires-clause-bodies
read_band_block-requires-clause-bodies c =
    let s = c.args.source.now in
    let p = c.args.part in
    let ends = subst (λ ws. AllByRecursion (λ w. place_end w ≤ length s.bytes) ws) (sym c.packets.ensures) c.rect-rect.ensures.source.ends in
    let here : 0 + c.loop-j.j ≡ c.loop-j.j = omega arith in
    (listed_bodies s p.resolution p.precinct p.band c.loop-j.j 0 (c.blocks-grid.result.across * c.blocks-grid.result.down) c.args.numbers.now c.packets.result.now c.in_ok-lists.lists.items c.index.result.now c.deref.result.now
    c.requires.numbers c.packets.ensures (c.in_ok-lists.ensures.lists (length s.bytes) ends) c.loop-j-test.true c.index.ensures c.deref.ensures.value).1
    ∙ ap (λ n. block_bodies p.band n (source_bodies s p.resolution p.precinct)) here

pub returns-in_err-read_band_block : goal.returns-in_err-read_band_block
returns-in_err-read_band_block c =
    let s = c.args.source.now in
    let p = c.args.part in
    let bodies = source_bodies s p.resolution p.precinct in
    let grid = grid_is s p.resolution p.precinct p.band c.rect-rect.result c.coding.result.now c.orientation-orientation.result c.blocks-grid.result c.rect-rect.ensures.value c.coding.ensures.value c.orientation-orientation.ensures c.blocks-grid.ensures.value in
    let e = c.in_err-read_band_block.field-0.0 in
    let q = err_from_is_err_and c.from_residual-in_err-read_band_block.result c.from_residual-in_err-read_band_block.ensures.1 in
    let lt : c.loop-j.j < block_count s p.resolution p.precinct p.band = omega (arith, c.loop-j-test.true, ap (λ g. g.across * g.down) grid) in
    record {
      exact = rw (q.1, q.2) (refuses_on e (block_values s.region.rect s.coding p.resolution p.precinct p.band c.loop-j.j bodies) _ c.in_err-read_band_block.ensures.exact (λ h.
          band_by s.region.rect s.coding p.resolution p.precinct p.band bodies
          ∙ each_fails (block_count s p.resolution p.precinct p.band) c.loop-j.j (λ j. tested (block_values s.region.rect s.coding p.resolution p.precinct p.band j bodies)) e lt c.loop-j.invariant (tested_err _ e h)));
    }

pub loop-j-preserved : goal.loop-j-preserved
loop-j-preserved c =
    let s = c.args.source.now in
    let p = c.args.part in
    let bodies = source_bodies s p.resolution p.precinct in
    each_more c.loop-j.j (λ j. tested (block_values s.region.rect s.coding p.resolution p.precinct p.band j bodies)) c.loop-j.invariant (tested_ok _ _ c.in_ok-read_band_block.ensures.exact)

pub returns : goal.returns
returns c =
    let s = c.args.source.now in
    let p = c.args.part in
    let bodies = source_bodies s p.resolution p.precinct in
    let grid = grid_is s p.resolution p.precinct p.band c.rect-rect.result c.coding.result.now c.orientation-orientation.result c.blocks-grid.result c.rect-rect.ensures.value c.coding.ensures.value c.orientation-orientation.ensures c.blocks-grid.ensures.value in
    let count : c.loop-j.j ≡ block_count s p.resolution p.precinct p.band = omega (arith, c.loop-j-test.false, ap (λ g. g.across * g.down) grid) in
    record {
      exact = band_by s.region.rect s.coding p.resolution p.precinct p.band bodies
          ∙ ap (λ n. each n (λ j. tested (block_values s.region.rect s.coding p.resolution p.precinct p.band j bodies))) (sym count) ∙ c.loop-j.invariant;
    }
