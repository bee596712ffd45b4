use Rattle.std.proofs.Common.{refl}
use Rattle.jk_window.proofs.PartLaws.{cutting_starts, cutting_more, cutting_over}
use Rattle.jk_window.proofs.parts.ends_of.Goals as goal

pub loop-place-init : goal.loop-place-init
loop-place-init c = cutting_starts c.args.entries.now c.args.places.now c.in_ok-ends.ends.items c.in_ok-ends.ensures.items

pub end_of_run-next-requires : goal.end_of_run-next-requires
end_of_run-next-requires c = c.loop-place.invariant.within

pub loop-place-preserved : goal.loop-place-preserved
loop-place-preserved c =
    cutting_more c.args.entries.now c.args.places.now c.loop-place.ends.items c.push.new.self.items c.loop-place.place-index c.loop-place.next c.end_of_run-next.result _ _
    c.loop-place.invariant c.loop-place-test.true refl c.end_of_run-next.ensures.run c.end_of_run-next.ensures.order c.end_of_run-next.ensures.within c.in_ok-push.ensures.items

pub returns-clause-ends : goal.returns-clause-ends
returns-clause-ends c = cutting_over c.args.entries.now c.args.places.now c.loop-place.ends.items c.loop-place.place-index c.loop-place.next c.loop-place.invariant c.loop-place-test.false
