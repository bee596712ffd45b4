use Rattle.std.proofs.Common.{ℕ, List, [], ◌++◌, inl, inr, sym, ap, ◌∙◌}
use Rattle.std.specs.List.{flat_map}
use Rattle.std.proofs.lemmas.List.{append-nil}
use Rattle.std.proofs.lemmas.Result.{err_from_is_err_and}
use Rattle.jk_packet.specs.Written.{Table, part_in}
use Rattle.jk_tile.specs.encoding.TileWriters.{writer_in}
use Rattle.jk_tile.proofs.encoding.Passing.{front_none, front_more, head_is, packet_is, both_passed}
use Rattle.jk_tile.proofs.encoding.packets.pass_packet.Goals as goal

pub returns-in_err-writer-clause-text : goal.returns-in_err-writer-clause-text
returns-in_err-writer-clause-text g c =
    let same = err_from_is_err_and c.from_residual.result c.from_residual.ensures.1 in
    rw (same.1, same.2) ([], g.met.S.TextSink.none c.args.sink.now, (inl c.in_err-writer.ensures.value, front_none _))

pub returns-in_err-write_head-clause-text : goal.returns-in_err-write_head-clause-text
returns-in_err-write_head-clause-text g c =
    let same = err_from_is_err_and c.from_residual-in_err-write_head.result c.from_residual-in_err-write_head.ensures.1 in
    rw (same.1, same.2) ([], g.met.S.TextSink.none c.args.sink.now, (inl c.in_err-write_head.ensures.err.0, front_none _))

pub returns-in_err-take-clause-text : goal.returns-in_err-take-clause-text
returns-in_err-take-clause-text g c =
    let frame = c.args.frame.now in
    let name = c.args.packet.name in
    let own = writer_in frame.shape.now frame.coding.now frame.markers.sop frame.markers.eph c.args.tables.now c.args.slots.now.items c.args.packet.place name in
    let flat = flat_map (λ (t : Table). (part_in t name.layer).1) c.args.tables.now in
    let lent = c.deref.result.now in
    let head = head_is own c.deref_mut.result.now c.args.packet.number c.clear.new.self.items c.write_head.new.out.items lent (c.deref_mut.ensures.value ∙ c.in_ok-writer.ensures.value) c.clear.ensures.items c.in_ok-write_head.ensures.ok c.deref.ensures.value in
    let is = packet_is own c.args.packet.number name.layer lent flat c.requires.next head c.requires.bodies in
    let same = err_from_is_err_and c.from_residual-in_err-take.result c.from_residual-in_err-take.ensures.1 in
    let passed = c.in_err-take.ensures in
    rw (same.1, same.2) (passed.0, passed.1, (inr passed.2.0, front_more [] passed.0 lent flat _ passed.2.1 is))

pub returns-in_err-pass_bodies-clause-text : goal.returns-in_err-pass_bodies-clause-text
returns-in_err-pass_bodies-clause-text g c =
    let frame = c.args.frame.now in
    let name = c.args.packet.name in
    let own = writer_in frame.shape.now frame.coding.now frame.markers.sop frame.markers.eph c.args.tables.now c.args.slots.now.items c.args.packet.place name in
    let flat = flat_map (λ (t : Table). (part_in t name.layer).1) c.args.tables.now in
    let lent = c.deref.result.now in
    let head = head_is own c.deref_mut.result.now c.args.packet.number c.clear.new.self.items c.write_head.new.out.items lent (c.deref_mut.ensures.value ∙ c.in_ok-writer.ensures.value) c.clear.ensures.items c.in_ok-write_head.ensures.ok c.deref.ensures.value in
    let is = packet_is own c.args.packet.number name.layer lent flat c.requires.next head c.requires.bodies in
    let same = err_from_is_err_and c.from_residual-in_err-pass_bodies.result c.from_residual-in_err-pass_bodies.ensures.1 in
    let first = c.in_ok-take.ensures in
    let passed = c.in_err-pass_bodies.ensures in
    rw (same.1, same.2) (
      first.0 ++ passed.0,
      g.met.S.TextSink.joined c.args.sink.now c.take-2.new.self c.pass_bodies.new.sink first.0 passed.0 first.1 passed.1,
      (inr passed.2.0, front_more first.0 passed.0 flat [] _ passed.2.1 (is ∙ ap (λ (l : List ℕ). l ++ flat) (sym first.2) ∙ ap (λ (l : List ℕ). first.0 ++ l) (sym (append-nil flat)))),
    )

pub returns-then-packet-frame-clause-text : goal.returns-then-packet-frame-clause-text
returns-then-packet-frame-clause-text g c =
    let frame = c.args.frame.now in
    let name = c.args.packet.name in
    let own = writer_in frame.shape.now frame.coding.now frame.markers.sop frame.markers.eph c.args.tables.now c.args.slots.now.items c.args.packet.place name in
    let flat = flat_map (λ (t : Table). (part_in t name.layer).1) c.args.tables.now in
    let lent = c.deref.result.now in
    let head = head_is own c.deref_mut.result.now c.args.packet.number c.clear.new.self.items c.write_head.new.out.items lent (c.deref_mut.ensures.value ∙ c.in_ok-writer.ensures.value) c.clear.ensures.items c.in_ok-write_head.ensures.ok c.deref.ensures.value in
    let is = packet_is own c.args.packet.number name.layer lent flat c.requires.next head c.requires.bodies in
    let first = c.in_ok-take.ensures in
    let passed = c.in_ok-pass_bodies.ensures in
    both_passed g.S.TextSink.took g.met.S.TextSink.joined c.args.sink.now c.take-2.new.self c.pass_bodies.new.sink first.0 passed.0 lent flat _ first.1 passed.1 first.2 passed.2 is

pub returns-else-packet-frame-clause-text : goal.returns-else-packet-frame-clause-text
returns-else-packet-frame-clause-text g c =
    let frame = c.args.frame.now in
    let name = c.args.packet.name in
    let own = writer_in frame.shape.now frame.coding.now frame.markers.sop frame.markers.eph c.args.tables.now c.args.slots.now.items c.args.packet.place name in
    let flat = flat_map (λ (t : Table). (part_in t name.layer).1) c.args.tables.now in
    let lent = c.deref.result.now in
    let head = head_is own c.deref_mut.result.now c.args.packet.number c.clear.new.self.items c.write_head.new.out.items lent (c.deref_mut.ensures.value ∙ c.in_ok-writer.ensures.value) c.clear.ensures.items c.in_ok-write_head.ensures.ok c.deref.ensures.value in
    let is = packet_is own c.args.packet.number name.layer lent flat c.requires.next head c.requires.bodies in
    let first = c.in_ok-take.ensures in
    let passed = c.in_ok-pass_bodies.ensures in
    both_passed g.S.TextSink.took g.met.S.TextSink.joined c.args.sink.now c.take-2.new.self c.pass_bodies.new.sink first.0 passed.0 lent flat _ first.1 passed.1 first.2 passed.2 is
