use Rattle.std.proofs.Common.{◌≡◌, ◌+◌, ◌-◌, ◌*◌, List, [], length, replicate, sym, ap, ◌∙◌, subst, arith}
use Rattle.jk_marks.specs.declared.coding.Coding.{Coding}
use Rattle.jk_order.specs.PacketOrder.{packet_count, order}
use Rattle.jk_walk.specs.WalkReading.{blank_states}
use Rattle.jk_walk.specs.Keeping.{most_resolutions, states_in}
use Rattle.jk_walk.proofs.Walking.{no_row, first_is, none_is}
use Rattle.jk_stored.proofs.StoredWalk.{GoesOn, starts, next_is, goes_by, none_left, goes_first, goes_more, goes_done, named_first, named_more, named_done}
use Rattle.jk_stored.proofs.entries.read_stored.Goals as goal
use Rattle.jk_stored.proofs.entries.read_stored.Goals.{else-loop-test, then-loop-test+in_default}

pub loop-init : goal.loop-init
loop-init g c =
    let s = c.args.shape.now in
    let sop = c.args.markers.sop in
    let eph = c.args.markers.eph in
    let blank : c.in_ok-precincts.precincts ≡ record { sop = sop; eph = eph; precincts = replicate (length s.codings * most_resolutions) no_row } =
    c.in_ok-precincts.ensures ∙ ap (λ (ks : List Coding). record { sop = sop; eph = eph; precincts = replicate (length ks * most_resolutions) no_row }) c.as_slice.ensures in
    let few = c.requires.few in
    let count : packet_count s ≡ c.packet_count-count.result - 0 = omega (arith, c.packet_count-count.ensures, few) in
    let w = starts s sop eph c.in_ok-packets.packets c.in_ok-precincts.precincts c.in_ok-packets.ensures.starts blank in (
      record { names = w.names; states = w.states; follow = w.follow; count = w.count ∙ count; turns = w.turns; shows = w.shows; same_sop = w.same_sop; same_eph = w.same_eph; rows = w.rows },
      c.requires.part,
      λ f keeping held. c.aim.ensures.held f held,
      λ f keeping long held. subst (GoesOn f s sop eph c.args.part c.args.part.0 (order s) (blank_states s sop eph)) (sym c.in_ok-all.ensures.items) (goes_first f s sop eph c.args.part),
      named_first s c.in_ok-names.names.items c.in_ok-names.ensures.items,
    )

pub read_entry-requires-clause-name : goal.read_entry-requires-clause-name
read_entry-requires-clause-name g c =
    let w = c.loop.invariant.0 in
    (next_is _ _ _ _ _ _ c.in-Some.name w (c.in-Some.ensures w.names w.follow).0).name

pub read_entry-requires-clause-kept : goal.read_entry-requires-clause-kept
read_entry-requires-clause-kept g c = c.loop.invariant.0.rows

pub read_entry-requires-clause-next : goal.read_entry-requires-clause-next
read_entry-requires-clause-next g c =
    let w = c.loop.invariant.0 in
    (next_is _ _ _ _ _ _ c.in-Some.name w (c.in-Some.ensures w.names w.follow).0).turn

pub loop-preserved : goal.loop-preserved
loop-preserved g c =
    let s = c.args.shape.now in
    let sop = c.args.markers.sop in
    let eph = c.args.markers.eph in
    let w = c.loop.invariant.0 in
    let n = c.in-Some.name in
    let first = c.in-Some.ensures w.names w.follow in
    let next = next_is s sop eph c.loop.packets c.loop.precincts (c.packet_count-count.result - c.loop.counter) n w first.0 in
    let read = c.in_ok-entry.ensures.read in
    let v = goes_by s sop eph c.loop.packets c.next.new.self c.loop.precincts c.read_entry.new.precincts (c.packet_count-count.result - c.loop.counter) n read.0 w first.0 first.1 read.1 in
    let more : c.packet_count-count.result - c.loop.counter - 1 ≡ c.packet_count-count.result - (c.loop.counter + 1) = omega arith in (
      record { names = v.names; states = v.states; follow = v.follow; count = v.count ∙ more; turns = v.turns; shows = v.shows; same_sop = v.same_sop; same_eph = v.same_eph; rows = v.rows },
      c.in_ok-entry.ensures.end,
      λ f keeping held. c.in_ok-entry.ensures.held f keeping (c.loop.invariant.2 f keeping held),
      λ f keeping long held.
          subst (GoesOn f s sop eph c.args.part c.in_ok-entry.entry.end v.names v.states) (sym c.in_ok-push-2.ensures.items)
          (goes_more f s sop eph c.args.part c.loop.at w.names w.states c.loop.all.items n (states_in s c.loop.precincts n.component n.resolution n.precinct) read.0 c.in_ok-entry.entry first.0 c.if-at-end.false next.own
          (read.2 f keeping long (c.loop.invariant.2 f keeping held)) (c.loop.invariant.3 f keeping long held)),
      named_more s c.loop.names.items w.names v.names c.push.new.self.items n (first_is w.names n first.0) next.name c.in_ok-push.ensures.items c.loop.invariant.4,
    )

pub returns-clause-order : goal.returns-clause-order
returns-clause-order g c =
    let w = c.loop.invariant.0 in
    let over : w.names ≡ [] = elim c.loop-test.branch [
      | else-loop-test v ↦ none_left _ _ _ _ _ _ w (omega (arith, v.loop-test.false))
      | then-loop-test+in_default v ↦ none_is w.names (v.in_default.ensures w.names w.follow).0
    ] in
    named_done c.args.shape.now c.loop.names.items w.names over c.loop.invariant.4

pub returns-clause-names : goal.returns-clause-names
returns-clause-names g c = c.loop.invariant.4.each

pub returns-clause-read : goal.returns-clause-read
returns-clause-read g c = λ f keeping long held.
    let w = c.loop.invariant.0 in
    let over : w.names ≡ [] = elim c.loop-test.branch [
      | else-loop-test v ↦ none_left _ _ _ _ _ _ w (omega (arith, v.loop-test.false))
      | then-loop-test+in_default v ↦ none_is w.names (v.in_default.ensures w.names w.follow).0
    ] in
    goes_done f c.args.shape.now c.args.markers.sop c.args.markers.eph c.args.part c.loop.at w.names w.states c.loop.all.items over (omega (arith, c.if-at-end-2.false)) (c.loop.invariant.3 f keeping long held)

pub returns-clause-held : goal.returns-clause-held
returns-clause-held g c = λ f keeping held. c.loop.invariant.2 f keeping held
