use Rattle.std.proofs.Common.{refl, sym, arith, append-nil}
use Rattle.jk_marks.proofs.Appending.{front_same, front_then}
use Rattle.jk_stored.proofs.ContentLaws.{content_more, content_all}
use Rattle.jk_stored.proofs.content.put_content.Goals as goal

pub loop-i-init : goal.loop-i-init
loop-i-init g c = (λ code keeping held. held, λ code keeping held. sym (append-nil c.args.out.now.items), front_same c.args.out.now.items c.args.out.now.items refl)

pub loop-i-preserved : goal.loop-i-preserved
loop-i-preserved g c =
    let less = c.loop-i-test.true in
    let count = c.min-count.ensures in (
      λ code keeping held. c.in_ok-put_packet.ensures.held code keeping (c.loop-i.invariant.0 code keeping held),
      λ code keeping held.
          content_more code c.args.seen.now c.args.names.now c.args.entries.now c.loop-i.i _ _ c.args.out.now.items c.loop-i.out.items c.put_packet.new.out.items (omega (arith, less, count)) (omega (arith, less, count))
          (c.loop-i.invariant.1 code keeping held) (c.in_ok-put_packet.ensures.put code keeping (c.loop-i.invariant.0 code keeping held)),
      front_then c.loop-i.invariant.2 c.in_ok-put_packet.ensures.front,
    )

pub returns-clause-put : goal.returns-clause-put
returns-clause-put g c = λ code keeping held.
    let end = c.loop-i.auto.i-end in
    let over = c.loop-i-test.false in
    content_all code c.args.seen.now c.args.names.now c.args.entries.now c.loop-i.i c.args.out.now.items c.loop-i.out.items (omega (arith, end, over, c.min-count.ensures)) (c.loop-i.invariant.1 code keeping held)

pub returns-clause-held : goal.returns-clause-held
returns-clause-held g c = λ code keeping held. c.loop-i.invariant.0 code keeping held

pub returns-clause-front : goal.returns-clause-front
returns-clause-front g c = c.loop-i.invariant.2
