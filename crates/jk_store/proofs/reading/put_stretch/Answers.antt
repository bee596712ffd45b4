use Rattle.std.proofs.Common.{◌+◌, ◌*◌, ◌/◌, ◌<◌, ◌≤◌, refl, arith}
use Rattle.jk_store.specs.Parts.{part_size, part_count}
use Rattle.jk_store.specs.PartsGiven.{size_of, PartsRefused}
use Rattle.jk_store.proofs.OpenLaws.{fault_is}
use Rattle.jk_store.proofs.GivenLaws.{refused_after}
use Rattle.jk_store.proofs.ReadingLaws.{part_there, nothing_read, more_read}
use Rattle.jk_store.proofs.reading.put_stretch.Goals as goal

pub loop-at-init : goal.loop-at-init
loop-at-init g c = record {
  begun = omega arith;
  order = c.requires.order;
  reading = c.requires.reading;
  read = nothing_read g.S.Shelf.keeps g.S.Shelf.gave_at g.S.Shelf.failed c.args.entry.now c.args.shelf.now c.args.reading.now c.args.out.now.items c.args.start;
}

pub returns-in_err-hold-clause-refused : goal.returns-in_err-hold-clause-refused
returns-in_err-hold-clause-refused g c =
    let so_far = c.loop-at.invariant.read in
    fault_is c.from_residual.result c.in_err-hold.field-0.0 c.from_residual.ensures.1
    (λ x. PartsRefused g.S.Shelf.keeps g.S.Shelf.gave_at g.S.Shelf.failed c.args.entry.now c.args.shelf.now x c.hold.new.shelf)
    (refused_after g.S.Shelf.keeps g.S.Shelf.gave_at g.S.Shelf.failed c.args.entry.now so_far.given c.args.shelf.now c.loop-at.shelf c.hold.new.shelf c.in_err-hold.field-0.0
    so_far.read c.in_err-hold.ensures.refused)

pub loop-at-preserved : goal.loop-at-preserved
loop-at-preserved g c =
    let so_far = c.loop-at.invariant in
    let e = c.args.entry.now in
    let at = c.loop-at.at in
    let n = at / 16384 in
    let first = n * 16384 in
    let stop = first + c.min.result in
    let inside : at < size_of e = omega arith in
    let there : n < part_count (size_of e) = part_there (size_of e) at n inside refl in
    let begun : c.args.start ≤ at = so_far.begun in
    let after : first ≤ at = omega arith in
    let order : at ≤ stop = omega arith in
    let to : stop ≤ first + part_size = omega arith in
    record {
      begun = omega arith;
      order = omega arith;
      reading = c.in_ok-hold.ensures.reading;
      read = more_read g.S.Shelf.keeps g.S.Shelf.gave_at g.S.Shelf.failed e c.args.shelf.now c.loop-at.shelf c.hold.new.shelf c.args.reading.now c.loop-at.reading c.hold.new.reading
          c.args.out.now.items c.loop-at.out.items c.extend_from_slice.new.self.items c.args.start at stop first n so_far.read c.in_ok-hold.ensures.read there
          c.in_ok-hold.ensures.number c.in_ok-hold.ensures.whole refl begun after order to (rw c.deref.ensures.value at c.in_ok-extend_from_slice.ensures.items);
    }
