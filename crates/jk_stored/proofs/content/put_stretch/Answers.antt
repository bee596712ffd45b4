use Rattle.std.proofs.Common.{inl, inr, refl, arith}
use Rattle.jk_marks.proofs.Appending.{front_same, front_more, front_then}
use Rattle.jk_stored.proofs.StretchLaws.{stretch_none, stretch_more, stretch_done}
use Rattle.jk_stored.proofs.content.put_stretch.Goals as goal

pub loop-at-init : goal.loop-at-init
loop-at-init g c = (omega arith, inr refl, λ code keeping held. held, λ code keeping held. stretch_none code c.args.out.now.items c.args.start, front_same c.args.out.now.items c.args.out.now.items refl)

pub loop-at-preserved : goal.loop-at-preserved
loop-at-preserved g c =
    let inv = c.loop-at.invariant in
    let begun = inv.0 in
    let within = c.bytes-bytes.ensures.within in (
      omega (arith, begun),
      inl within,
      λ code keeping held. c.in_ok-reach.ensures.held code keeping (inv.2 code keeping held),
      λ code keeping held.
          stretch_more code c.args.out.now.items c.loop-at.out.items c.extend_from_slice.new.self.items c.bytes-bytes.result.now c.args.start c.loop-at.at begun (inv.3 code keeping held)
          (c.bytes-bytes.ensures.held code (c.in_ok-reach.ensures.held code keeping (inv.2 code keeping held))) c.in_ok-extend_from_slice.ensures.items,
      front_then inv.4 (front_more c.loop-at.out.items c.bytes-bytes.result.now c.extend_from_slice.new.self.items c.in_ok-extend_from_slice.ensures.items),
    )

pub returns-clause-put : goal.returns-clause-put
returns-clause-put g c = λ code keeping held.
    let inv = c.loop-at.invariant in
    stretch_done code c.args.out.now.items c.loop-at.out.items c.args.start c.loop-at.at c.args.end (omega (arith, c.loop-at-test.false)) inv.1 (inv.3 code keeping held)

pub returns-clause-held : goal.returns-clause-held
returns-clause-held g c = λ code keeping held. c.loop-at.invariant.2 code keeping held

pub returns-clause-front : goal.returns-clause-front
returns-clause-front g c = c.loop-at.invariant.4
