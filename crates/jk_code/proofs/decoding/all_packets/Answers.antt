use Rattle.std.proofs.Common.{◌≡◌, ◌<◌, ◌+◌, List, Err, length, ◌∙◌, ap, sym, subst, arith}
use Rattle.std.proofs.lemmas.Result.{err_from_is_err_and}
use Rattle.jk_marks.specs.Siz.{tile_count}
use Rattle.jk_walk.specs.declared.places.PacketPlace.{PacketPlace}
use Rattle.jk_walk.specs.WalkReading.{packets_at}
use Rattle.jk_tile.specs.decoding.TileReading.{tested}
use Rattle.jk_tile.proofs.Laws.{fine, each_none, each_more, each_fails, refuses_on, tested_ok, tested_err}
use Rattle.jk_code.specs.MeaningReading.{packets_tested}
use Rattle.jk_code.specs.Sources.{CodestreamSource}
use Rattle.jk_code.specs.Tiles.{AreRead}
use Rattle.jk_code.proofs.Placing.{read_more}
use Rattle.jk_code.proofs.decoding.all_packets.Goals as goal

pub loop-number-init : goal.loop-number-init
loop-number-init c = record {
  end_is = c.tile_count-number-end.ensures ∙ c.source.invariant.tiles;
  tested = each_none _;
  read = record { count = ap (λ (xs : List (List PacketPlace)). length xs) c.new-all.ensures.items; each = λ t lt. absurd (omega (arith, lt)) };
}

pub returns-in_err-read_packets-clause-exact : goal.returns-in_err-read_packets-clause-exact
returns-in_err-read_packets-clause-exact c =
    let bytes = c.source.inside.bytes.now in
    let h = c.source.inside.headers.now in
    let e = c.in_err-read_packets.field-0.0 in
    let q = err_from_is_err_and c.from_residual.result c.from_residual.ensures.1 in
    let lt : c.loop-number.number < tile_count h.siz = omega (arith, c.loop-number-test.true, c.loop-number.invariant.end_is) in
    rw (q.1, q.2) (refuses_on e (packets_at bytes h c.loop-number.number) _ c.in_err-read_packets.ensures.exact
    (λ is. subst (λ (s : CodestreamSource). packets_tested s.bytes s.headers (tile_count s.headers.siz) ≡ Err e) c.source.view_is
    (each_fails (tile_count h.siz) c.loop-number.number (λ t. tested (packets_at bytes h t)) e lt c.loop-number.invariant.tested (tested_err (packets_at bytes h c.loop-number.number) e is))))

pub loop-number-preserved : goal.loop-number-preserved
loop-number-preserved c =
    let bytes = c.source.inside.bytes.now in
    let h = c.source.inside.headers.now in
    let n = c.loop-number.number in
    let places = c.in_ok-read_packets.field-0 in
    record {
      end_is = c.loop-number.invariant.end_is;
      tested = each_more n (λ t. tested (packets_at bytes h t)) c.loop-number.invariant.tested (tested_ok (packets_at bytes h n) places c.in_ok-read_packets.ensures.exact);
      read = subst (AreRead bytes h (n + 1)) (sym c.in_ok-push.ensures.items) (read_more bytes h n c.loop-number.all.items places c.loop-number.invariant.read c.in_ok-read_packets.ensures.exact);
    }

pub returns-clause-exact : goal.returns-clause-exact
returns-clause-exact c =
    let h = c.source.inside.headers.now in
    let all : c.loop-number.number ≡ tile_count h.siz = omega (arith, c.loop-number-test.false, c.loop-number.auto.number-end, c.loop-number.invariant.end_is) in
    subst (λ (s : CodestreamSource). packets_tested s.bytes s.headers (tile_count s.headers.siz) ≡ fine) c.source.view_is
    (ap (packets_tested c.source.inside.bytes.now h) (sym all) ∙ c.loop-number.invariant.tested)

pub returns-clause-read : goal.returns-clause-read
returns-clause-read c =
    let h = c.source.inside.headers.now in
    let all : c.loop-number.number ≡ tile_count h.siz = omega (arith, c.loop-number-test.false, c.loop-number.auto.number-end, c.loop-number.invariant.end_is) in
    subst (λ (s : CodestreamSource). AreRead s.bytes s.headers (tile_count s.headers.siz) c.loop-number.all.items) c.source.view_is
    (subst (λ n. AreRead c.source.inside.bytes.now h n c.loop-number.all.items) all c.loop-number.invariant.read)
