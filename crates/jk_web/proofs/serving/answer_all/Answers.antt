use Rattle.std.proofs.Common.{[]}
use Rattle.std.proofs.lemmas.Bool.Decides.{when_true, when_false}
use Rattle.jk_web.specs.Serving.{nothing}
use Rattle.jk_math.proofs.Laws.{appends_none}
use Rattle.jk_web.proofs.ServingLaws.{takes_less, go_on, close_here, cut_here, bad_here, cut_bad, refuse_here, bad_rest}
use Rattle.jk_web.proofs.serving.answer_all.Goals as goal

pub requests-init : goal.requests-init
requests-init g c = (c.requires, ([], appends_none (g.O.Write.contents c.args.writer.now), nothing))

pub returns-then-not-write_out : goal.returns-then-not-write_out
returns-then-not-write_out g c =
    let made = rw c.in-Request.is at c.in_ok-next.ensures.request in
    cut_here g.S.Service.gives g.S.Service.refuses (g.O.Write.contents c.args.writer.now) (g.O.Write.contents c.requests.writer) (g.O.Write.contents c.write_out.new.writer) c.args.service.now c.requests.service c.answer.new.self c.args.session.now.rest c.requests.invariant.1.0
    c.as_slice.result.now c.requests.session c.next.new.self c.in-Request.request c.in-Ok.reply
    c.requests.invariant.1.1 (when_false _ _ c.if-not-write_out.true c.write_out.ensures) c.as_slice.ensures c.requests.invariant.1.2 made c.in-Ok.ensures.ok
    c.judge_left.ensures

pub returns-then-request : goal.returns-then-request
returns-then-request g c =
    let made = rw c.in-Request.is at c.in_ok-next.ensures.request in
    close_here g.S.Service.gives g.S.Service.refuses (g.O.Write.contents c.args.writer.now) (g.O.Write.contents c.requests.writer) (g.O.Write.contents c.write_out.new.writer) c.args.service.now c.requests.service c.answer.new.self c.args.session.now.rest c.requests.invariant.1.0
    c.as_slice.result.now c.requests.session c.next.new.self c.in-Request.request c.in-Ok.reply
    c.requests.invariant.1.1 (when_true _ _ c.if-not-write_out.false c.write_out.ensures) c.as_slice.ensures c.requests.invariant.1.2 made c.in-Ok.ensures.ok
    c.if-request.true

pub requests-smaller : goal.requests-smaller
requests-smaller g c =
    takes_less c.requests.session c.next.new.self c.in-Request.request (rw c.in-Request.is at c.in_ok-next.ensures.request)

pub requests-preserved : goal.requests-preserved
requests-preserved g c =
    let made = rw c.in-Request.is at c.in_ok-next.ensures.request in (
      made.keeps,
      go_on g.S.Service.gives g.S.Service.refuses (g.O.Write.contents c.args.writer.now) (g.O.Write.contents c.requests.writer) (g.O.Write.contents c.write_out.new.writer) c.args.service.now c.requests.service c.answer.new.self c.args.session.now.rest c.requests.invariant.1.0
          c.as_slice.result.now c.requests.session c.next.new.self c.in-Request.request c.in-Ok.reply
          c.requests.invariant.1.1 (when_true _ _ c.if-not-write_out.false c.write_out.ensures) c.as_slice.ensures c.requests.invariant.1.2 made c.in-Ok.ensures.ok
          c.if-request.false,
    )

pub returns-then-not-write_out-2 : goal.returns-then-not-write_out-2
returns-then-not-write_out-2 g c =
    let wrong = rw c.in-Bad.is at c.in_ok-next.ensures.bad in
    cut_bad g.S.Service.gives g.S.Service.refuses (g.O.Write.contents c.args.writer.now) (g.O.Write.contents c.requests.writer) (g.O.Write.contents c.write_out-in-Bad.new.writer) c.args.service.now c.requests.service c.args.session.now.rest c.requests.invariant.1.0
    c.as_slice-in-Bad.result.now c.requests.session.rest c.in-Bad.status c.in_ok-reply-in-Bad.reply
    c.requests.invariant.1.1 (when_false _ _ c.if-not-write_out-2.true c.write_out-in-Bad.ensures) c.as_slice-in-Bad.ensures c.requests.invariant.1.2
    (bad_rest c.requests.session c.in-Bad.status c.requests.invariant.0 wrong.1) c.in_ok-reply-in-Bad.ensures.exact

pub returns-in-Bad : goal.returns-in-Bad
returns-in-Bad g c =
    let wrong = rw c.in-Bad.is at c.in_ok-next.ensures.bad in
    bad_here g.S.Service.gives g.S.Service.refuses (g.O.Write.contents c.args.writer.now) (g.O.Write.contents c.requests.writer) (g.O.Write.contents c.write_out-in-Bad.new.writer) c.args.service.now c.requests.service c.args.session.now.rest c.requests.invariant.1.0
    c.as_slice-in-Bad.result.now c.requests.session.rest c.in-Bad.status c.in_ok-reply-in-Bad.reply
    c.requests.invariant.1.1 (when_true _ _ c.if-not-write_out-2.false c.write_out-in-Bad.ensures) c.as_slice-in-Bad.ensures c.requests.invariant.1.2
    (bad_rest c.requests.session c.in-Bad.status c.requests.invariant.0 wrong.1) c.in_ok-reply-in-Bad.ensures.exact

pub returns-in-Err : goal.returns-in-Err
returns-in-Err g c =
    let made = rw c.in-Request.is at c.in_ok-next.ensures.request in (
      c.requests.invariant.1.0,
      c.requests.invariant.1.1,
      refuse_here g.S.Service.gives g.S.Service.refuses c.args.service.now c.requests.service c.answer.new.self c.args.session.now.rest
          c.requests.invariant.1.0 c.requests.session c.next.new.self c.in-Request.request c.in-Err.fault c.requests.invariant.1.2 made c.in-Err.ensures.err,
    )
