use Rattle.std.proofs.Common.{◌≡◌, ◌<◌, ◌+◌, ◌∙◌, ap, sym, arith}
use Rattle.std.proofs.lemmas.Result.{err_from_is_err_and}
use Rattle.jk_wave.specs.declared.region.Region.{Region}
use Rattle.jk_tile.specs.decoding.TileReading.{each, resolution_tested}
use Rattle.jk_tile.specs.decoding.Source.{source_bodies}
use Rattle.jk_tile.proofs.Steps.{each_none, each_more, each_fails, refuses_on}
use Rattle.jk_tile.proofs.decoding.judging.judge_component.Goals as goal

pub loop-r-init : goal.loop-r-init
loop-r-init c = each_none _

pub returns-in_err-judge_resolution : goal.returns-in_err-judge_resolution
returns-in_err-judge_resolution c =
    let s = c.args.source.now in
    let e = c.in_err-judge_resolution.field-0.0 in
    let q = err_from_is_err_and c.from_residual.result c.from_residual.ensures.1 in
    let top = ap (λ (q : Region). q.top) c.region-top.ensures.value in
    let lt : c.loop-r.r < s.region.top + 1 = omega (arith, c.loop-r-test.true, top) in
    record {
      exact = rw (q.1, q.2) (refuses_on e (resolution_tested s.region.rect s.coding c.loop-r.r (source_bodies s c.loop-r.r)) _ c.in_err-judge_resolution.ensures.exact
          (λ h. each_fails (s.region.top + 1) c.loop-r.r (λ r. resolution_tested s.region.rect s.coding r (source_bodies s r)) e lt c.loop-r.invariant h));
    }

pub loop-r-preserved : goal.loop-r-preserved
loop-r-preserved c =
    let s = c.args.source.now in
    each_more c.loop-r.r (λ r. resolution_tested s.region.rect s.coding r (source_bodies s r)) c.loop-r.invariant c.in_ok-judge_resolution.ensures.exact

pub returns : goal.returns
returns c =
    let s = c.args.source.now in
    let top = ap (λ (q : Region). q.top) c.region-top.ensures.value in
    let all : c.loop-r.r ≡ s.region.top + 1 = omega (arith, c.loop-r-test.false, c.loop-r.auto.r-end, top) in
    record { exact = ap (λ k. each k (λ r. resolution_tested s.region.rect s.coding r (source_bodies s r))) (sym all) ∙ c.loop-r.invariant }
