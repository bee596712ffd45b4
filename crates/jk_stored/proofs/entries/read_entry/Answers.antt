use Rattle.std.proofs.Common.{◌+◌, length, take, inl, inr, sym, ap, ◌∙◌, arith}
use Rattle.jk_packet.specs.Reading.{text_of, header_at}
use Rattle.jk_packet.proofs.Laws.{header_within, header_keeps}
use Rattle.jk_walk.specs.Sop.{counter_of}
use Rattle.jk_walk.specs.WalkReading.{bodies_length}
use Rattle.jk_walk.specs.Keeping.{states_in}
use Rattle.jk_walk.proofs.WalkSteps.{state_behind, state_same}
use Rattle.jk_stored.proofs.EntryReading.{IsEnough, entry_read}
use Rattle.jk_stored.proofs.entries.read_entry.Goals as goal

pub overflow_add-body : goal.overflow_add-body
overflow_add-body g c =
    let n = c.args.name in
    let x = states_in c.args.shape.now c.args.precincts.now n.component n.resolution n.precinct in
    let read = state_behind (header_at n.layer c.bytes-bytes.result.now x) (text_of c.in_ok-header.header) c.in_ok-header.ensures.exact in
    let inside = header_within n.layer c.bytes-bytes.result.now x (text_of c.in_ok-header.header, read.0) read.1 in
    let within = c.bytes-bytes.ensures.within in
    omega (arith, inside, within)

pub overflow_sub-end-2 : goal.overflow_sub-end-2
overflow_sub-end-2 g c =
    let n = c.args.name in
    let x = states_in c.args.shape.now c.args.precincts.now n.component n.resolution n.precinct in
    let read = state_behind (header_at n.layer c.bytes-bytes.result.now x) (text_of c.in_ok-header.header) c.in_ok-header.ensures.exact in
    let inside = header_within n.layer c.bytes-bytes.result.now x (text_of c.in_ok-header.header, read.0) read.1 in
    let within = c.bytes-bytes.ensures.within in
    omega (arith, inside, within)

pub overflow_add-result : goal.overflow_add-result
overflow_add-result g c =
    let n = c.args.name in
    let x = states_in c.args.shape.now c.args.precincts.now n.component n.resolution n.precinct in
    let read = state_behind (header_at n.layer c.bytes-bytes.result.now x) (text_of c.in_ok-header.header) c.in_ok-header.ensures.exact in
    let inside = header_within n.layer c.bytes-bytes.result.now x (text_of c.in_ok-header.header, read.0) read.1 in
    let within = c.bytes-bytes.ensures.within in
    omega (arith, inside, within, c.in_ok-size.ensures.1)

pub returns-clause-end : goal.returns-clause-end
returns-clause-end g c =
    let n = c.args.name in
    let x = states_in c.args.shape.now c.args.precincts.now n.component n.resolution n.precinct in
    let read = state_behind (header_at n.layer c.bytes-bytes.result.now x) (text_of c.in_ok-header.header) c.in_ok-header.ensures.exact in
    let inside = header_within n.layer c.bytes-bytes.result.now x (text_of c.in_ok-header.header, read.0) read.1 in
    let within = c.bytes-bytes.ensures.within in
    omega (arith, inside, within, c.in_ok-size.ensures.1)

pub returns-clause-read : goal.returns-clause-read
returns-clause-read g c =
    let n = c.args.name in
    let s = c.args.shape.now in
    let x = states_in s c.args.precincts.now n.component n.resolution n.precinct in
    let bytes = c.bytes-bytes.result.now in
    let h = text_of c.in_ok-header.header in
    let next = states_in s c.read_header.new.self n.component n.resolution n.precinct in
    let read = state_behind (header_at n.layer bytes x) h c.in_ok-header.ensures.exact in
    let keeps = header_keeps n.layer bytes x (h, read.0) read.1 in
    let inside = header_within n.layer bytes x (h, read.0) read.1 in
    let within = c.bytes-bytes.ensures.within in
    let sum = c.in_ok-size.ensures.0 ∙ ap bodies_length c.as_slice.ensures in
    let fits = c.in_ok-size.ensures.1 in
    let enough : IsEnough (length bytes) c.args.part = elim (c.are_enough-are_told.ensures c.if-not-are_told.false) [
      | inl six ↦ inl six
      | inr all ↦ inr (omega (arith, all))
    ] in (
      read.0,
      record {
        layers = keeps.layers ∙ ap (λ k. k + 1) (sym c.requires.next);
        early = λ early. state_same (header_at n.layer bytes x) h read.0 next read.1 (c.in_ok-header.ensures.early early);
        others = c.in_ok-header.ensures.others;
        same = c.in_ok-header.ensures.kept;
      },
      λ f keeping long held.
          entry_read f bytes c.args.sop c.args.part n x read.0 h c.in_ok-size.size c.counter.result (c.bytes-bytes.ensures.held f (c.in_ok-reach.ensures.held f keeping held)) within enough read.1 sum (omega (arith, inside, within, fits))
          (c.counter.ensures ∙ ap (λ k. counter_of c.args.sop (take k bytes)) c.min-front.ensures),
    )
