use Rattle.std.proofs.Common.{◌≡◌, ℕ, ◌+◌, ◌-◌, ◌*◌, ◌≤◌, List, [], ◌++◌, length, Err, inl, refl, sym, ap, subst, ◌∙◌, arith}
use Rattle.std.proofs.lemmas.Result.{err_from_is_err_and}
use Rattle.std.specs.Global.{Vec}
use Rattle.std.proofs.Math.Nat.{mul-le-mul_right}
use Rattle.std.proofs.lemmas.List.{length-map}
use Rattle.jk_geom.specs.Counts.{precincts_below}
use Rattle.jk_order.specs.PacketOrder.{packet_count}
use Rattle.jk_packet.specs.Written.{Table}
use Rattle.jk_tile.specs.encoding.TileWriters.{list_of, index_of, writer_in, text_by, IsPrecinctList}
use Rattle.jk_math.specs.Lists.{lists_of}
use Rattle.jk_tile.proofs.encoding.Firsts.{place_at}
use Rattle.jk_tile.proofs.encoding.PacketsFew.{few_below}
use Rattle.jk_tile.proofs.encoding.TileLists.{own_list}
use Rattle.jk_tile.proofs.encoding.Passing.{front_none, front_more}
use Rattle.jk_tile.proofs.encoding.WritingTile.{IsWritingTile, next_bodies, writing_starts, writing_ahead, named_next, within_lists, next_is, next_more, next_layer, writing_more, writing_over, counted_over, given_over}
use Rattle.jk_tile.proofs.encoding.packets.pass_packets.Goals as goal
use Rattle.jk_tile.proofs.encoding.packets.pass_packets.Goals.{else-loop-number-test, then-loop-number-test+in_default}

pub firsts-firsts-requires-clause-few : goal.firsts-firsts-requires-clause-few
firsts-firsts-requires-clause-few g c = few_below c.args.frame.now.shape.now c.args.frame.now.coding.now c.requires.shape c.requires.alike c.requires.few

pub loop-number-init : goal.loop-number-init
loop-number-init g c =
    let s = c.args.frame.now.shape.now in
    let k = c.args.frame.now.coding.now in
    let sop = c.args.frame.now.markers.sop in
    let eph = c.args.frame.now.markers.eph in
    let lists = lists_of c.args.tables.now in
    let few = c.requires.few in
    let count : packet_count s ≡ c.packet_count-number-end.result - 0 = omega (arith, c.packet_count-number-end.ensures, few) in
    let long = sym (length-map c.args.tables.now (λ (v : Vec Table). v.items)) in (
      [],
      g.met.S.TextSink.none c.args.sink.now,
      subst (IsWritingTile s k sop eph lists c.in_ok-packets.packets c.in_ok-slots.slots.items [] 0) count
          (writing_starts s k sop eph lists (length c.args.tables.now) c.in_ok-packets.packets c.in_ok-slots.slots.items [] c.in_ok-packets.ensures.starts c.requires.lists.long long c.in_ok-slots.ensures refl),
    )

pub place_of-place-requires-clause-component : goal.place_of-place-requires-clause-component
place_of-place-requires-clause-component g c =
    let w = c.loop-number.invariant.2 in
    let named = named_next c.args.frame.now.shape.now c.args.frame.now.coding.now c.args.frame.now.markers.sop c.args.frame.now.markers.eph _ _ _ _ _ _ c.in-Some.name c.requires.alike w (c.in-Some.ensures w.names w.follow).0 in
    let lt = named.component in
    let few = c.requires.shape.codings.few in
    omega (arith, lt, few)

pub place_of-place-requires-clause-resolution : goal.place_of-place-requires-clause-resolution
place_of-place-requires-clause-resolution g c =
    let w = c.loop-number.invariant.2 in
    (named_next c.args.frame.now.shape.now c.args.frame.now.coding.now c.args.frame.now.markers.sop c.args.frame.now.markers.eph _ _ _ _ _ _ c.in-Some.name c.requires.alike w (c.in-Some.ensures w.names w.follow).0).resolution

pub bounds-tables-place : goal.bounds-tables-place
bounds-tables-place g c =
    let s = c.args.frame.now.shape.now in
    let k = c.args.frame.now.coding.now in
    let w = c.loop-number.invariant.2 in
    let n = c.in-Some.name in
    let named = named_next s k c.args.frame.now.markers.sop c.args.frame.now.markers.eph _ _ _ _ _ _ n c.requires.alike w (c.in-Some.ensures w.names w.follow).0 in
    let at = place_at s.rect k c.firsts-firsts.result n.component n.resolution n.precinct c.place_of-place.result named.resolution c.firsts-firsts.ensures c.place_of-place.ensures in
    let long = sym (length-map c.args.tables.now (λ (v : Vec Table). v.items)) ∙ c.requires.lists.long in
    within_lists s k n c.place_of-place.result (length c.args.tables.now) named at long

pub offset_bounds-tables-place : goal.offset_bounds-tables-place
offset_bounds-tables-place g c =
    let s = c.args.frame.now.shape.now in
    let k = c.args.frame.now.coding.now in
    let sop = c.args.frame.now.markers.sop in
    let eph = c.args.frame.now.markers.eph in
    let w = c.loop-number.invariant.2 in
    let n = c.in-Some.name in
    let first = (c.in-Some.ensures w.names w.follow).0 in
    let named = named_next s k sop eph _ _ _ _ _ _ n c.requires.alike w first in
    let at = place_at s.rect k c.firsts-firsts.result n.component n.resolution n.precinct c.place_of-place.result named.resolution c.firsts-firsts.ensures c.place_of-place.ensures in
    let p = precincts_below s.rect k (k.levels + 1) in
    let within = within_lists s k n c.place_of-place.result (length s.codings * p) named at refl in
    let few = few_below s k c.requires.shape c.requires.alike c.requires.few in
    let components = c.requires.shape.codings.few in
    let all : length s.codings * p ≤ 4 * p = mul-le-mul_right p components in
    omega (arith, within, few, all)

pub pass_packet-requires-clause-resolution : goal.pass_packet-requires-clause-resolution
pass_packet-requires-clause-resolution g c =
    let w = c.loop-number.invariant.2 in
    (named_next c.args.frame.now.shape.now c.args.frame.now.coding.now c.args.frame.now.markers.sop c.args.frame.now.markers.eph _ _ _ _ _ _ c.in-Some.name c.requires.alike w (c.in-Some.ensures w.names w.follow).0).resolution

pub pass_packet-requires-clause-precinct : goal.pass_packet-requires-clause-precinct
pass_packet-requires-clause-precinct g c =
    let w = c.loop-number.invariant.2 in
    (named_next c.args.frame.now.shape.now c.args.frame.now.coding.now c.args.frame.now.markers.sop c.args.frame.now.markers.eph _ _ _ _ _ _ c.in-Some.name c.requires.alike w (c.in-Some.ensures w.names w.follow).0).precinct

pub pass_packet-requires-clause-tables : goal.pass_packet-requires-clause-tables
pass_packet-requires-clause-tables g c =
    let s = c.args.frame.now.shape.now in
    let k = c.args.frame.now.coding.now in
    let sop = c.args.frame.now.markers.sop in
    let eph = c.args.frame.now.markers.eph in
    let w = c.loop-number.invariant.2 in
    let n = c.in-Some.name in
    let first = (c.in-Some.ensures w.names w.follow).0 in
    let named = named_next s k sop eph _ _ _ _ _ _ n c.requires.alike w first in
    let at = place_at s.rect k c.firsts-firsts.result n.component n.resolution n.precinct c.place_of-place.result named.resolution c.firsts-firsts.ensures c.place_of-place.ensures in
    let long = sym (length-map c.args.tables.now (λ (v : Vec Table). v.items)) ∙ c.requires.lists.long in
    let due : c.deref.result.now ≡ list_of s.rect k (lists_of c.args.tables.now) n.component n.resolution n.precinct =
    own_list c.args.tables.now c.index-tables-place.result c.deref.result.now c.place_of-place.result (index_of s.rect k n.component n.resolution n.precinct) c.index-tables-place.is c.deref.ensures.value at
    (within_lists s k n c.place_of-place.result (length c.args.tables.now) named at long) in
    subst (IsPrecinctList s.rect k s.layers n.resolution n.precinct) (sym due) (c.requires.lists.each n.component n.resolution n.precinct named.component named.resolution named.precinct)

pub pass_packet-requires-clause-place : goal.pass_packet-requires-clause-place
pass_packet-requires-clause-place g c =
    let s = c.args.frame.now.shape.now in
    let k = c.args.frame.now.coding.now in
    let sop = c.args.frame.now.markers.sop in
    let eph = c.args.frame.now.markers.eph in
    let w = c.loop-number.invariant.2 in
    let n = c.in-Some.name in
    let first = (c.in-Some.ensures w.names w.follow).0 in
    let named = named_next s k sop eph _ _ _ _ _ _ n c.requires.alike w first in
    let at = place_at s.rect k c.firsts-firsts.result n.component n.resolution n.precinct c.place_of-place.result named.resolution c.firsts-firsts.ensures c.place_of-place.ensures in
    let long = sym (length-map c.args.tables.now (λ (v : Vec Table). v.items)) ∙ c.requires.lists.long in
    let due : c.deref.result.now ≡ list_of s.rect k (lists_of c.args.tables.now) n.component n.resolution n.precinct =
    own_list c.args.tables.now c.index-tables-place.result c.deref.result.now c.place_of-place.result (index_of s.rect k n.component n.resolution n.precinct) c.index-tables-place.is c.deref.ensures.value at
    (within_lists s k n c.place_of-place.result (length c.args.tables.now) named at long) in
    (next_is s k sop eph _ _ _ _ _ _ n c.deref.result.now c.place_of-place.result c.requires.alike w first at due).within

pub pass_packet-requires-clause-layer : goal.pass_packet-requires-clause-layer
pass_packet-requires-clause-layer g c =
    let s = c.args.frame.now.shape.now in
    let k = c.args.frame.now.coding.now in
    let sop = c.args.frame.now.markers.sop in
    let eph = c.args.frame.now.markers.eph in
    let w = c.loop-number.invariant.2 in
    let n = c.in-Some.name in
    let first = (c.in-Some.ensures w.names w.follow).0 in
    let named = named_next s k sop eph _ _ _ _ _ _ n c.requires.alike w first in
    let at = place_at s.rect k c.firsts-firsts.result n.component n.resolution n.precinct c.place_of-place.result named.resolution c.firsts-firsts.ensures c.place_of-place.ensures in
    let long = sym (length-map c.args.tables.now (λ (v : Vec Table). v.items)) ∙ c.requires.lists.long in
    let due : c.deref.result.now ≡ list_of s.rect k (lists_of c.args.tables.now) n.component n.resolution n.precinct =
    own_list c.args.tables.now c.index-tables-place.result c.deref.result.now c.place_of-place.result (index_of s.rect k n.component n.resolution n.precinct) c.index-tables-place.is c.deref.ensures.value at
    (within_lists s k n c.place_of-place.result (length c.args.tables.now) named at long) in
    (next_is s k sop eph _ _ _ _ _ _ n c.deref.result.now c.place_of-place.result c.requires.alike w first at due).name.layer

pub pass_packet-requires-clause-next : goal.pass_packet-requires-clause-next
pass_packet-requires-clause-next g c =
    let s = c.args.frame.now.shape.now in
    let k = c.args.frame.now.coding.now in
    let sop = c.args.frame.now.markers.sop in
    let eph = c.args.frame.now.markers.eph in
    let w = c.loop-number.invariant.2 in
    let n = c.in-Some.name in
    let first = (c.in-Some.ensures w.names w.follow).0 in
    let named = named_next s k sop eph _ _ _ _ _ _ n c.requires.alike w first in
    let at = place_at s.rect k c.firsts-firsts.result n.component n.resolution n.precinct c.place_of-place.result named.resolution c.firsts-firsts.ensures c.place_of-place.ensures in
    let long = sym (length-map c.args.tables.now (λ (v : Vec Table). v.items)) ∙ c.requires.lists.long in
    let due : c.deref.result.now ≡ list_of s.rect k (lists_of c.args.tables.now) n.component n.resolution n.precinct =
    own_list c.args.tables.now c.index-tables-place.result c.deref.result.now c.place_of-place.result (index_of s.rect k n.component n.resolution n.precinct) c.index-tables-place.is c.deref.ensures.value at
    (within_lists s k n c.place_of-place.result (length c.args.tables.now) named at long) in
    next_layer s k sop eph _ _ _ n c.deref.result.now c.place_of-place.result (next_is s k sop eph _ _ _ _ _ _ n c.deref.result.now c.place_of-place.result c.requires.alike w first at due)

pub pass_packet-requires-clause-more : goal.pass_packet-requires-clause-more
pass_packet-requires-clause-more g c =
    let s = c.args.frame.now.shape.now in
    let k = c.args.frame.now.coding.now in
    let sop = c.args.frame.now.markers.sop in
    let eph = c.args.frame.now.markers.eph in
    let w = c.loop-number.invariant.2 in
    let n = c.in-Some.name in
    let first = (c.in-Some.ensures w.names w.follow).0 in
    let named = named_next s k sop eph _ _ _ _ _ _ n c.requires.alike w first in
    let at = place_at s.rect k c.firsts-firsts.result n.component n.resolution n.precinct c.place_of-place.result named.resolution c.firsts-firsts.ensures c.place_of-place.ensures in
    let long = sym (length-map c.args.tables.now (λ (v : Vec Table). v.items)) ∙ c.requires.lists.long in
    let due : c.deref.result.now ≡ list_of s.rect k (lists_of c.args.tables.now) n.component n.resolution n.precinct =
    own_list c.args.tables.now c.index-tables-place.result c.deref.result.now c.place_of-place.result (index_of s.rect k n.component n.resolution n.precinct) c.index-tables-place.is c.deref.ensures.value at
    (within_lists s k n c.place_of-place.result (length c.args.tables.now) named at long) in
    next_more s k sop eph _ _ _ n c.deref.result.now c.place_of-place.result (next_is s k sop eph _ _ _ _ _ _ n c.deref.result.now c.place_of-place.result c.requires.alike w first at due)

pub pass_packet-requires-clause-bodies : goal.pass_packet-requires-clause-bodies
pass_packet-requires-clause-bodies g c =
    let s = c.args.frame.now.shape.now in
    let k = c.args.frame.now.coding.now in
    let sop = c.args.frame.now.markers.sop in
    let eph = c.args.frame.now.markers.eph in
    let held = c.loop-number.invariant in
    let w = held.2 in
    let n = c.in-Some.name in
    let first = (c.in-Some.ensures w.names w.follow).0 in
    let named = named_next s k sop eph _ _ _ _ _ _ n c.requires.alike w first in
    let at = place_at s.rect k c.firsts-firsts.result n.component n.resolution n.precinct c.place_of-place.result named.resolution c.firsts-firsts.ensures c.place_of-place.ensures in
    let long = sym (length-map c.args.tables.now (λ (v : Vec Table). v.items)) ∙ c.requires.lists.long in
    let due : c.deref.result.now ≡ list_of s.rect k (lists_of c.args.tables.now) n.component n.resolution n.precinct =
    own_list c.args.tables.now c.index-tables-place.result c.deref.result.now c.place_of-place.result (index_of s.rect k n.component n.resolution n.precinct) c.index-tables-place.is c.deref.ensures.value at
    (within_lists s k n c.place_of-place.result (length c.args.tables.now) named at long) in
    next_bodies s k sop eph _ _ _ n c.deref.result.now c.place_of-place.result (next_is s k sop eph _ _ _ _ _ _ n c.deref.result.now c.place_of-place.result c.requires.alike w first at due) due
    (subst (IsPrecinctList s.rect k s.layers n.resolution n.precinct) (sym due) (c.requires.lists.each n.component n.resolution n.precinct named.component named.resolution named.precinct))

pub loop-number-preserved : goal.loop-number-preserved
loop-number-preserved g c =
    let s = c.args.frame.now.shape.now in
    let k = c.args.frame.now.coding.now in
    let sop = c.args.frame.now.markers.sop in
    let eph = c.args.frame.now.markers.eph in
    let held = c.loop-number.invariant in
    let w = held.2 in
    let n = c.in-Some.name in
    let first = (c.in-Some.ensures w.names w.follow).0 in
    let named = named_next s k sop eph _ _ _ _ _ _ n c.requires.alike w first in
    let at = place_at s.rect k c.firsts-firsts.result n.component n.resolution n.precinct c.place_of-place.result named.resolution c.firsts-firsts.ensures c.place_of-place.ensures in
    let long = sym (length-map c.args.tables.now (λ (v : Vec Table). v.items)) ∙ c.requires.lists.long in
    let due : c.deref.result.now ≡ list_of s.rect k (lists_of c.args.tables.now) n.component n.resolution n.precinct =
    own_list c.args.tables.now c.index-tables-place.result c.deref.result.now c.place_of-place.result (index_of s.rect k n.component n.resolution n.precinct) c.index-tables-place.is c.deref.ensures.value at
    (within_lists s k n c.place_of-place.result (length c.args.tables.now) named at long) in
    let next = c.in-Some.ensures w.names w.follow in
    let lists = lists_of c.args.tables.now in
    let passed = c.in_ok-pass_packet.ensures.text in
    let text : List ℕ = held.0 ++ passed.0 in
    let count : c.packet_count-number-end.result - c.loop-number.number - 1 ≡ c.packet_count-number-end.result - (c.loop-number.number + 1) = omega arith in (
      text,
      g.met.S.TextSink.joined c.args.sink.now c.loop-number.sink c.pass_packet.new.sink held.0 passed.0 held.1 passed.1,
      subst (IsWritingTile s k sop eph lists c.next.new.self c.pass_packet.new.slots.items text (c.loop-number.number + 1)) count
          (writing_more s k sop eph lists _ c.next.new.self _ c.pass_packet.new.slots.items held.0 text c.loop-number.number _ n c.deref.result.now c.place_of-place.result c.requires.alike w next.0 next.1 at due
          c.in_ok-pass_packet.ensures.long c.in_ok-pass_packet.ensures.here c.in_ok-pass_packet.ensures.others (ap (λ (l : List ℕ). held.0 ++ l) passed.2)),
    )

pub returns-in_err-slots : goal.returns-in_err-slots
returns-in_err-slots g c =
    let same = err_from_is_err_and c.from_residual.result c.from_residual.ensures.1 in
    rw (same.1, same.2) ([], g.met.S.TextSink.none c.args.sink.now, (inl c.in_err-slots.ensures, front_none _))

pub returns-in_err-packets : goal.returns-in_err-packets
returns-in_err-packets g c =
    let few = c.requires.few in
    let over = c.in_err-packets.ensures.limit.0 (ap Err c.in_err-packets.ensures.only) in
    absurd (omega (arith, over, few))

pub returns-in_err-pass_packet : goal.returns-in_err-pass_packet
returns-in_err-pass_packet g c =
    let s = c.args.frame.now.shape.now in
    let k = c.args.frame.now.coding.now in
    let sop = c.args.frame.now.markers.sop in
    let eph = c.args.frame.now.markers.eph in
    let held = c.loop-number.invariant in
    let w = held.2 in
    let n = c.in-Some.name in
    let first = (c.in-Some.ensures w.names w.follow).0 in
    let named = named_next s k sop eph _ _ _ _ _ _ n c.requires.alike w first in
    let at = place_at s.rect k c.firsts-firsts.result n.component n.resolution n.precinct c.place_of-place.result named.resolution c.firsts-firsts.ensures c.place_of-place.ensures in
    let long = sym (length-map c.args.tables.now (λ (v : Vec Table). v.items)) ∙ c.requires.lists.long in
    let due : c.deref.result.now ≡ list_of s.rect k (lists_of c.args.tables.now) n.component n.resolution n.precinct =
    own_list c.args.tables.now c.index-tables-place.result c.deref.result.now c.place_of-place.result (index_of s.rect k n.component n.resolution n.precinct) c.index-tables-place.is c.deref.ensures.value at
    (within_lists s k n c.place_of-place.result (length c.args.tables.now) named at long) in
    let same = err_from_is_err_and c.from_residual-in_err-pass_packet.result c.from_residual-in_err-pass_packet.ensures.1 in
    let passed = c.in_err-pass_packet.ensures.text in
    let piece = text_by (writer_in s k sop eph c.deref.result.now c.loop-number.slots.items c.place_of-place.result n) c.loop-number.number in
    rw (same.1, same.2) (
      held.0 ++ passed.0,
      g.met.S.TextSink.joined c.args.sink.now c.loop-number.sink c.pass_packet.new.sink held.0 passed.0 held.1 passed.1,
      (passed.2.0, front_more held.0 passed.0 piece _ _ passed.2.1 (writing_ahead s k sop eph _ _ _ _ _ _ n c.deref.result.now c.place_of-place.result c.requires.alike w first at due)),
    )

pub returns : goal.returns
returns g c =
    let held = c.loop-number.invariant in
    let w = held.2 in
    let over : w.names ≡ [] = elim c.loop-number-test.branch [
      | else-loop-number-test v ↦ counted_over c.args.frame.now.shape.now c.args.frame.now.coding.now c.args.frame.now.markers.sop c.args.frame.now.markers.eph _ _ _ _ _ _ w (omega (arith, v.loop-number-test.false))
      | then-loop-number-test+in_default v ↦ given_over c.args.frame.now.shape.now c.args.frame.now.coding.now c.args.frame.now.markers.sop c.args.frame.now.markers.eph _ _ _ _ _ _ w (v.in_default.ensures w.names w.follow).0
    ] in
    (held.0, held.1, writing_over c.args.frame.now.shape.now c.args.frame.now.coding.now c.args.frame.now.markers.sop c.args.frame.now.markers.eph _ _ _ _ _ _ w over)
