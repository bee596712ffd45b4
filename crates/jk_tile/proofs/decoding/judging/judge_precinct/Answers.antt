use Rattle.std.proofs.Common.{◌≡◌, ◌<◌, length, ◌∙◌, ap, sym, arith}
use Rattle.std.proofs.lemmas.Result.{err_from_is_err_and}
use Rattle.jk_walk.specs.TilePackets.{orientations}
use Rattle.jk_tile.specs.decoding.TileReading.{each, band_tested}
use Rattle.jk_tile.specs.decoding.Source.{source_bodies}
use Rattle.jk_tile.proofs.Steps.{each_none, each_more, each_fails, refuses_on, precinct_by}
use Rattle.jk_tile.proofs.decoding.judging.judge_precinct.Goals as goal

pub loop-i-init : goal.loop-i-init
loop-i-init c = each_none _

pub returns-in_err-judge_band : goal.returns-in_err-judge_band
returns-in_err-judge_band c =
    let s = c.args.source.now in
    let bodies = source_bodies s c.args.r c.args.n in
    let e = c.in_err-judge_band.field-0.0 in
    let q = err_from_is_err_and c.from_residual.result c.from_residual.ensures.1 in
    let lt : c.loop-i.i < length (orientations c.args.r) = omega (arith, c.loop-i-test.true, c.band_count-i-end.ensures) in
    record {
      exact = rw (q.1, q.2) (refuses_on e (band_tested s.region.rect s.coding c.args.r c.args.n c.loop-i.i bodies) _ c.in_err-judge_band.ensures.exact
          (λ h. precinct_by s.region.rect s.coding c.args.r c.args.n bodies
          ∙ each_fails (length (orientations c.args.r)) c.loop-i.i (λ i. band_tested s.region.rect s.coding c.args.r c.args.n i bodies) e lt c.loop-i.invariant h));
    }

pub loop-i-preserved : goal.loop-i-preserved
loop-i-preserved c =
    let s = c.args.source.now in
    let bodies = source_bodies s c.args.r c.args.n in
    each_more c.loop-i.i (λ i. band_tested s.region.rect s.coding c.args.r c.args.n i bodies) c.loop-i.invariant c.in_ok-judge_band.ensures.exact

pub returns : goal.returns
returns c =
    let s = c.args.source.now in
    let bodies = source_bodies s c.args.r c.args.n in
    let count : c.loop-i.i ≡ length (orientations c.args.r) = omega (arith, c.loop-i-test.false, c.loop-i.auto.i-end, c.band_count-i-end.ensures) in
    record { exact = precinct_by s.region.rect s.coding c.args.r c.args.n bodies ∙ ap (λ k. each k (λ i. band_tested s.region.rect s.coding c.args.r c.args.n i bodies)) (sym count) ∙ c.loop-i.invariant }
