-- The streams of a tile make a walk, and all packets are left.
use Rattle.std.proofs.Common.{◌≡◌, ◌<◌, length, get_or, set, sym, ◌∙◌, ap, subst, below_more, arith, get_or-set_same, get_or-set_other, length-set}
use Rattle.jk_order.specs.declared.stream.Stream.{Stream}
use Rattle.jk_order.specs.declared.stream.PacketsFrame.{PacketsFrame}
use Rattle.jk_order.specs.PacketOrder.{order}
use Rattle.jk_order.specs.Streams.{IsStream, IsWalk, PacketsLeft, walk, stream_at, stream_of, frame_of, first_rank, no_stream}
use Rattle.jk_order.proofs.Counts.{count_fits}
use Rattle.jk_order.proofs.Beginnings.{stream_is}
use Rattle.jk_order.proofs.Starting.{start_walk, start_left}
use Rattle.jk_order.proofs.packets.Packets.new.Goals as goal

pub first_rank-requires-clause-stream : goal.first_rank-requires-clause-stream
first_rank-requires-clause-stream c =
    let few = count_fits c.args.shape.now c.packet_count.result c.packet_count.ensures c.if-packet_count.false in
    subst (λ (f : PacketsFrame). IsStream f c.stream_number-stream.result) (sym c.shared-frame.ensures) (subst (λ (x : Stream). IsStream (frame_of c.args.shape.now) x) (sym c.stream_number-stream.ensures.value) (stream_is c.args.shape.now c.loop-i.i c.requires few c.loop-i-test.true))

pub loop-i-preserved : goal.loop-i-preserved
loop-i-preserved c =
    let i = c.loop-i.i in
    let s = c.args.shape.now in
    let st = c.stream_number-stream.result in
    let head = c.first_rank.result in
    let ss = c.loop-i.streams in
    let hs = c.loop-i.heads in
    let low = c.loop-i-test.true in
    let long : i < length ss = (let e = c.loop-i.invariant.0 in omega arith) in
    let wide : i < length hs = (let e = c.loop-i.invariant.1 in omega arith) in (
      length-set ss i st ∙ c.loop-i.invariant.0,
      length-set hs i head ∙ c.loop-i.invariant.1,
      below_more (λ j. stream_at (set ss i st) j ≡ stream_of s j) i
          (λ j h. get_or-set_other ss i j st no_stream (omega arith) ∙ c.loop-i.invariant.2 j h)
          (get_or-set_same ss i st no_stream long ∙ c.stream_number-stream.ensures.value),
      below_more (λ j. get_or (set hs i head) j 0 ≡ first_rank (frame_of s) (stream_of s j)) i
          (λ j h. get_or-set_other hs i j head 0 (omega arith) ∙ c.loop-i.invariant.3 j h)
          (get_or-set_same hs i head 0 wide ∙ c.first_rank.ensures ∙ ap (λ (f : PacketsFrame). first_rank f st) c.shared-frame.ensures ∙ ap (λ (x : Stream). first_rank (frame_of s) x) c.stream_number-stream.ensures.value),
    )

pub invariant_of-result : goal.invariant_of-result
invariant_of-result c =
    let few = count_fits c.args.shape.now c.packet_count.result c.packet_count.ensures c.if-packet_count.false in
    let end = c.loop-i-test.false in (
      subst (λ (f : PacketsFrame). IsWalk (walk f c.loop-i.streams c.loop-i.heads)) (sym c.shared-frame.ensures)
          (start_walk c.args.shape.now c.loop-i.streams c.loop-i.heads c.requires few
          (λ j h. c.loop-i.invariant.2 j (omega arith)) (λ j h. c.loop-i.invariant.3 j (omega arith)) c.loop-i.invariant.0 c.loop-i.invariant.1),
      c.queue_of-queue.ensures.within,
      c.queue_of-queue.ensures.queue,
    )

pub returns-clause-starts : goal.returns-clause-starts
returns-clause-starts c =
    let few = count_fits c.args.shape.now c.packet_count.result c.packet_count.ensures c.if-packet_count.false in
    let end = c.loop-i-test.false in
    subst (λ (f : PacketsFrame). PacketsLeft (walk f c.loop-i.streams c.loop-i.heads) (order c.args.shape.now)) (sym c.shared-frame.ensures)
    (start_left c.args.shape.now c.loop-i.streams c.loop-i.heads c.requires few
    (λ j h. c.loop-i.invariant.2 j (omega arith)) (λ j h. c.loop-i.invariant.3 j (omega arith)))
