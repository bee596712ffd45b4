use Rattle.std.proofs.Common.{◌≡◌, ◌<◌, ◌∙◌, ap, sym, subst, arith}
use Rattle.std.proofs.lemmas.Result.{err_from_is_err_and}
use Rattle.jk_math.specs.Answer.{Refuses}
use Rattle.jk_marks.specs.Siz.{tile_count}
use Rattle.jk_tile.specs.decoding.TileReading.{tested, tile_planes_at}
use Rattle.jk_tile.specs.decoding.TileSources.{TileSource}
use Rattle.jk_tile.proofs.Laws.{fine, each_none, each_more, each_fails, refuses_on}
use Rattle.jk_code.specs.MeaningReading.{places_at, tiles_tested}
use Rattle.jk_code.specs.Sources.{ImageSource, IsImageSource}
use Rattle.jk_code.proofs.RowLaws.{tile_tests}
use Rattle.jk_code.proofs.rows.judge.Goals as goal

pub loop-number-init : goal.loop-number-init
loop-number-init c = record {
  end_is = c.tile_count-number-end.ensures ∙ c.coded.invariant.sound.tiles ∙ ap (λ (s : ImageSource). tile_count s.headers.siz) c.coded.view_is;
  tested = each_none _;
}

pub returns-in_err-judge_tile : goal.returns-in_err-judge_tile
returns-in_err-judge_tile c =
    let s = c.args.coded.now in
    let t = c.loop-number.number in
    let is = subst IsImageSource c.coded.view_is c.coded.invariant in
    let lt : t < tile_count s.headers.siz = omega (arith, c.loop-number-test.true, c.loop-number.invariant.end_is) in
    let e = c.in_err-judge_tile.field-0.0 in
    let q = err_from_is_err_and c.from_residual.result c.from_residual.ensures.1 in
    let refuses = subst (λ (x : TileSource). Refuses e (tested (tile_planes_at x.bytes x.headers x.number x.reduce x.packets))) c.tile_of.ensures c.in_err-judge_tile.ensures.exact in
    record {
      exact = rw (q.1, q.2) (refuses_on e _ (tiles_tested s.bytes s.headers s.reduce (tile_count s.headers.siz)) refuses
          (λ failed. each_fails (tile_count s.headers.siz) t (λ n. tested (tile_planes_at s.bytes s.headers n s.reduce (places_at s.bytes s.headers n))) e lt c.loop-number.invariant.tested (tile_tests s t is lt ∙ failed)));
      source = is;
    }

pub loop-number-preserved : goal.loop-number-preserved
loop-number-preserved c =
    let s = c.args.coded.now in
    let t = c.loop-number.number in
    let is = subst IsImageSource c.coded.view_is c.coded.invariant in
    let lt : t < tile_count s.headers.siz = omega (arith, c.loop-number-test.true, c.loop-number.invariant.end_is) in
    let done = subst (λ (x : TileSource). tested (tile_planes_at x.bytes x.headers x.number x.reduce x.packets) ≡ fine) c.tile_of.ensures c.in_ok-judge_tile.ensures.exact in
    record {
      end_is = c.loop-number.invariant.end_is;
      tested = each_more t (λ n. tested (tile_planes_at s.bytes s.headers n s.reduce (places_at s.bytes s.headers n))) c.loop-number.invariant.tested (tile_tests s t is lt ∙ done);
    }

pub returns : goal.returns
returns c =
    let s = c.args.coded.now in
    let all : c.loop-number.number ≡ tile_count s.headers.siz = omega (arith, c.loop-number-test.false, c.loop-number.auto.number-end, c.loop-number.invariant.end_is) in
    record { exact = ap (tiles_tested s.bytes s.headers s.reduce) (sym all) ∙ c.loop-number.invariant.tested; source = subst IsImageSource c.coded.view_is c.coded.invariant }
