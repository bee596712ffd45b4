use Rattle.std.proofs.Common.{◌≡◌, ◌<◌, ◌*◌, ◌∙◌, ap, sym, arith}
use Rattle.std.proofs.lemmas.Result.{err_from_is_err_and}
use Rattle.jk_geom.specs.Precincts.{precinct_number}
use Rattle.jk_tile.specs.decoding.TileReading.{each, precinct_tested}
use Rattle.jk_tile.specs.decoding.Source.{source_bodies}
use Rattle.jk_tile.proofs.Steps.{each_none, each_more, each_fails, refuses_on, resolution_by}
use Rattle.jk_tile.proofs.Showing.{followed_numbers, count_is}
use Rattle.jk_tile.proofs.decoding.judging.judge_resolution.Goals as goal

pub loop-n-init : goal.loop-n-init
loop-n-init c = each_none _

pub follow-requires-clause-precinct : goal.follow-requires-clause-precinct
follow-requires-clause-precinct c = let long = c.in_ok-chains.ensures.chains.first in omega (arith, long, c.loop-n-test.true)

pub follow-requires-clause-chain : goal.follow-requires-clause-chain
follow-requires-clause-chain c = let own = c.in_ok-chains.ensures.chains.each c.loop-n.n c.loop-n-test.true in (own.0, own.1)

pub judge_precinct-requires-clause-numbers : goal.judge_precinct-requires-clause-numbers
judge_precinct-requires-clause-numbers c =
    followed_numbers c.args.source.now c.args.r c.loop-n.n (c.precinct_count-across.result.0 * c.precinct_count-across.result.1) c.tile_packets.result.now c.number.result c.in_ok-chains.chains c.follow.new.numbers.items c.deref.result.now
    c.tile_packets.ensures c.number.ensures c.in_ok-chains.ensures.chains c.loop-n-test.true c.in_ok-follow.ensures.numbers c.deref.ensures.value

pub returns-in_err-judge_precinct : goal.returns-in_err-judge_precinct
returns-in_err-judge_precinct c =
    let s = c.args.source.now in
    let e = c.in_err-judge_precinct.field-0.0 in
    let q = err_from_is_err_and c.from_residual-in_err-judge_precinct.result c.from_residual-in_err-judge_precinct.ensures.1 in
    let count = count_is s c.args.r c.precinct_count-across.result.0 c.precinct_count-across.result.1 c.rect-rect.result c.coding.result.now c.rect-rect.ensures.value c.coding.ensures.value c.precinct_count-across.ensures.across c.precinct_count-across.ensures.down in
    let lt : c.loop-n.n < precinct_number s.region.rect s.coding c.args.r = omega (arith, c.loop-n-test.true, count) in
    record {
      exact = rw (q.1, q.2) (refuses_on e (precinct_tested s.region.rect s.coding c.args.r c.loop-n.n (source_bodies s c.args.r c.loop-n.n)) _ c.in_err-judge_precinct.ensures.exact
          (λ h. resolution_by s.region.rect s.coding c.args.r (source_bodies s c.args.r)
          ∙ each_fails (precinct_number s.region.rect s.coding c.args.r) c.loop-n.n (λ n. precinct_tested s.region.rect s.coding c.args.r n (source_bodies s c.args.r n)) e lt c.loop-n.invariant h));
    }

pub loop-n-preserved : goal.loop-n-preserved
loop-n-preserved c =
    let s = c.args.source.now in
    each_more c.loop-n.n (λ n. precinct_tested s.region.rect s.coding c.args.r n (source_bodies s c.args.r n)) c.loop-n.invariant c.in_ok-judge_precinct.ensures.exact

pub returns : goal.returns
returns c =
    let s = c.args.source.now in
    let count = count_is s c.args.r c.precinct_count-across.result.0 c.precinct_count-across.result.1 c.rect-rect.result c.coding.result.now c.rect-rect.ensures.value c.coding.ensures.value c.precinct_count-across.ensures.across c.precinct_count-across.ensures.down in
    let all : c.loop-n.n ≡ precinct_number s.region.rect s.coding c.args.r = omega (arith, c.loop-n-test.false, c.loop-n.auto.n-end, count) in
    record { exact = resolution_by s.region.rect s.coding c.args.r (source_bodies s c.args.r) ∙ ap (λ k. each k (λ n. precinct_tested s.region.rect s.coding c.args.r n (source_bodies s c.args.r n))) (sym all) ∙ c.loop-n.invariant }
