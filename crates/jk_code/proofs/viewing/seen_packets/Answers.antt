use Rattle.std.proofs.Common.{◌≡◌, ◌<◌, ◌+◌, true, if◌then◌else◌, List, Option, Ok, Err, length, ◌∙◌, ap, sym, subst, arith}
use Rattle.std.proofs.lemmas.Result.{err_from_is_err_and}
use Rattle.jk_marks.specs.Siz.{tile_count}
use Rattle.jk_walk.specs.declared.places.PacketPlace.{PacketPlace}
use Rattle.jk_walk.specs.WalkReading.{packets_at}
use Rattle.jk_tile.specs.decoding.TileReading.{tested}
use Rattle.jk_tile.proofs.Laws.{fine, each_none, each_more, each_fails, refuses_on, tested_err}
use Rattle.jk_code.specs.Sources.{CodestreamSource}
use Rattle.jk_code.specs.Tiles.{AreSeen}
use Rattle.jk_code.specs.ViewReading.{is_seen, seen_packets_tested}
use Rattle.jk_code.proofs.ViewSteps.{if_true, seen_is, IsOwn, own_read, own_none, seen_more}
use Rattle.jk_code.proofs.viewing.seen_packets.Goals as goal
use Rattle.jk_code.proofs.viewing.seen_packets.Goals.{then-touches+in_ok-read_packets, else-touches}

pub loop-number-init : goal.loop-number-init
loop-number-init c = record {
  end_is = c.tile_count-number-end.ensures ∙ c.source.invariant.tiles;
  tested = each_none _;
  read = record {
    count = ap (λ (xs : List (Option (List PacketPlace))). length xs) c.new-all.ensures.items;
    each = λ t lt. absurd (omega (arith, lt));
    read = λ t lt. absurd (omega (arith, lt));
  };
}

pub returns-in_err-read_packets-clause-exact : goal.returns-in_err-read_packets-clause-exact
returns-in_err-read_packets-clause-exact c =
    let bytes = c.source.inside.bytes.now in
    let h = c.source.inside.headers.now in
    let d = c.args.reduce in
    let w = c.args.window.now in
    let n = c.loop-number.number in
    let e = c.in_err-read_packets.field-0.0 in
    let q = err_from_is_err_and c.from_residual.result c.from_residual.ensures.1 in
    let lt : n < tile_count h.siz = omega (arith, c.loop-number-test.true, c.loop-number.invariant.end_is) in
    let seen : is_seen h d w n ≡ true = seen_is h d n w c.shown.result c.touches.result true c.shown.ensures.value c.touches.ensures c.if-touches.true in
    rw (q.1, q.2) (refuses_on e (packets_at bytes h n) _ c.in_err-read_packets.ensures.exact
    (λ is. subst (λ (s : CodestreamSource). seen_packets_tested s.bytes s.headers d w (tile_count s.headers.siz) ≡ Err e) c.source.view_is
    (each_fails (tile_count h.siz) n (λ t. if is_seen h d w t then tested (packets_at bytes h t) else Ok tt) e lt c.loop-number.invariant.tested
    (if_true (is_seen h d w n) (tested (packets_at bytes h n)) fine seen ∙ tested_err (packets_at bytes h n) e is))))

pub loop-number-preserved : goal.loop-number-preserved
loop-number-preserved c =
    let bytes = c.source.inside.bytes.now in
    let h = c.source.inside.headers.now in
    let d = c.args.reduce in
    let w = c.args.window.now in
    let n = c.loop-number.number in
    let own : IsOwn bytes h d w n c.if-touches.packets = elim c.if-touches.branch [
      | then-touches+in_ok-read_packets b ↦
          own_read bytes h d w n c.if-touches.packets b.in_ok-read_packets.field-0 (seen_is h d n w c.shown.result c.touches.result true c.shown.ensures.value c.touches.ensures b.if-touches.true) b.in_ok-read_packets.ensures.exact b.packets-is
      | else-touches b ↦ own_none bytes h d w n c.if-touches.packets (seen_is h d n w c.shown.result c.touches.result _ c.shown.ensures.value c.touches.ensures b.if-touches.false) b.packets-is
    ] in
    record {
      end_is = c.loop-number.invariant.end_is;
      tested = each_more n (λ t. if is_seen h d w t then tested (packets_at bytes h t) else Ok tt) c.loop-number.invariant.tested own.done;
      read = subst (AreSeen bytes h d w (n + 1)) (sym c.in_ok-push.ensures.items) (seen_more bytes h d w n c.loop-number.all.items c.if-touches.packets c.loop-number.invariant.read own);
    }

pub returns-clause-exact : goal.returns-clause-exact
returns-clause-exact c =
    let h = c.source.inside.headers.now in
    let all : c.loop-number.number ≡ tile_count h.siz = omega (arith, c.loop-number-test.false, c.loop-number.auto.number-end, c.loop-number.invariant.end_is) in
    subst (λ (s : CodestreamSource). seen_packets_tested s.bytes s.headers c.args.reduce c.args.window.now (tile_count s.headers.siz) ≡ fine) c.source.view_is
    (ap (seen_packets_tested c.source.inside.bytes.now h c.args.reduce c.args.window.now) (sym all) ∙ c.loop-number.invariant.tested)

pub returns-clause-read : goal.returns-clause-read
returns-clause-read c =
    let h = c.source.inside.headers.now in
    let all : c.loop-number.number ≡ tile_count h.siz = omega (arith, c.loop-number-test.false, c.loop-number.auto.number-end, c.loop-number.invariant.end_is) in
    subst (λ (s : CodestreamSource). AreSeen s.bytes s.headers c.args.reduce c.args.window.now (tile_count s.headers.siz) c.loop-number.all.items) c.source.view_is
    (subst (λ n. AreSeen c.source.inside.bytes.now h c.args.reduce c.args.window.now n c.loop-number.all.items) all c.loop-number.invariant.read)
