use Rattle.std.proofs.Common.{◌≡◌, Ok, sym, ap, ◌∙◌, subst, arith}
use Rattle.std.specs.Global.{Vec}
use Rattle.jk_packet.specs.Reading.{PrecinctState, text_of, header_at}
use Rattle.jk_walk.specs.WalkReading.{blank_states}
use Rattle.jk_walk.specs.Keeping.{Slot, seen}
use Rattle.jk_stored.proofs.precincts.read_in.Goals as goal
use Rattle.jk_stored.proofs.precincts.read_in.Goals.{then-name-shape+in_ok-keep, else-name-shape}

pub read_header-requires-clause-next : goal.read_header-requires-clause-next
read_header-requires-clause-next c =
    let n = c.args.name in
    let blank = blank_states c.args.shape.now c.args.markers.sop c.args.markers.eph n.component n.resolution in
    let own : c.deref_mut.result.now ≡ seen blank c.args.slots.now.items n.precinct = c.deref_mut.ensures.value ∙ c.in_ok-precinct.ensures.value in
    c.requires.next ∙ ap (λ (x : PrecinctState). x.layers) (sym own)

pub returns-clause-early : goal.returns-clause-early
returns-clause-early c = λ early.
    let n = c.args.name in
    let blank = blank_states c.args.shape.now c.args.markers.sop c.args.markers.eph n.component n.resolution in
    let own : c.deref_mut.result.now ≡ seen blank c.args.slots.now.items n.precinct = c.deref_mut.ensures.value ∙ c.in_ok-precinct.ensures.value in
    let after : seen blank c.if-name-shape.slots.items n.precinct ≡ c.read_header.new.self = elim c.if-name-shape.branch [
      | then-name-shape+in_ok-keep w ↦ ap (λ (v : Vec Slot). seen blank v.items n.precinct) w.slots-is ∙ w.in_ok-keep.ensures.own blank
      | else-name-shape w ↦ absurd (omega (arith, early, w.if-name-shape.false))
    ] in
    subst (λ (x : PrecinctState). header_at n.layer c.args.bytes.now x ≡ Ok (text_of c.in_ok-header.header, seen blank c.if-name-shape.slots.items n.precinct)) own
    (c.in_ok-header.ensures.exact ∙ ap (λ (y : PrecinctState). Ok (text_of c.in_ok-header.header, y)) (sym after))

pub returns-clause-others : goal.returns-clause-others
returns-clause-others c = λ k other.
    let n = c.args.name in
    let blank = blank_states c.args.shape.now c.args.markers.sop c.args.markers.eph n.component n.resolution in
    elim c.if-name-shape.branch [
      | then-name-shape+in_ok-keep w ↦ ap (λ (v : Vec Slot). seen blank v.items k) w.slots-is ∙ w.in_ok-keep.ensures.others blank k other ∙ c.take.ensures.others blank k other
      | else-name-shape w ↦ ap (λ (v : Vec Slot). seen blank v.items k) w.slots-is ∙ c.take.ensures.others blank k other
    ]
