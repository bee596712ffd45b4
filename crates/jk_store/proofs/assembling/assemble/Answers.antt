use Rattle.std.proofs.Common.{ℕ, ◌+◌, ◌<◌, ◌≤◌, List, drop, length, get_or, sym, ap, arith}
use Rattle.std.proofs.Math.ListN.{drop_of_length-le}
use Rattle.std.proofs.lemmas.List.{drop-drop}
use Rattle.std.specs.List.{sum_by}
use Rattle.jk_store.specs.PartsGiven.{size_of, PartsRefused}
use Rattle.jk_window.specs.declared.steps.CutStep.{CutStep}
use Rattle.jk_store.proofs.OpenLaws.{fault_is}
use Rattle.jk_store.proofs.GivenLaws.{refused_after, refused_join, memory_is}
use Rattle.jk_store.proofs.ReadingLaws.{nothing_made, step_made, all_made, step_split, steps_within, within_next, written_next, written_added}
use Rattle.jk_store.proofs.assembling.assemble.Goals as goal

pub loop-step-init : goal.loop-step-init
loop-step-init g c =
    let plan = c.args.plan.now in
    let e = c.args.entry.now in
    let sound = c.steps-steps.ensures.sound in
    record {
      reading = c.in_ok-reading.ensures.ok;
      within = steps_within plan c.steps-steps.result.now (size_of e) sound c.steps-steps.ensures.value c.requires;
      left = omega (arith, ap (sum_by (λ (s : CutStep). s.written)) c.steps-steps.ensures.value, sound.written, ap (λ (l : List ℕ). length l) c.written-written.ensures);
      made = nothing_made g.S.Shelf.keeps g.S.Shelf.gave_at g.S.Shelf.failed e c.args.shelf.now c.in_ok-reading.reading plan c.steps-steps.result.now c.written-written.result.now c.in_ok-out.out.items
          c.steps-steps.ensures.value c.written-written.ensures c.in_ok-out.ensures.items c.in_ok-reading.ensures.empty;
    }

pub returns-in_err-put_stretch-clause-refused : goal.returns-in_err-put_stretch-clause-refused
returns-in_err-put_stretch-clause-refused g c =
    let so_far = c.loop-step.invariant.made in
    fault_is c.from_residual-in_err-put_stretch.result c.in_err-put_stretch.field-0.0 c.from_residual-in_err-put_stretch.ensures.1
    (λ x. PartsRefused g.S.Shelf.keeps g.S.Shelf.gave_at g.S.Shelf.failed c.args.entry.now c.args.shelf.now x c.put_stretch.new.shelf)
    (refused_after g.S.Shelf.keeps g.S.Shelf.gave_at g.S.Shelf.failed c.args.entry.now so_far.given c.args.shelf.now c.loop-step.shelf c.put_stretch.new.shelf c.in_err-put_stretch.field-0.0
    so_far.read c.in_err-put_stretch.ensures.refused)

pub returns-in_err-extend_from_slice-clause-refused : goal.returns-in_err-extend_from_slice-clause-refused
returns-in_err-extend_from_slice-clause-refused g c =
    let so_far = c.loop-step.invariant.made in
    let one = c.in_ok-put_stretch.ensures.read in
    memory_is c.from_residual-in_err-extend_from_slice.result c.from_residual-in_err-extend_from_slice.ensures.1
    (λ x. PartsRefused g.S.Shelf.keeps g.S.Shelf.gave_at g.S.Shelf.failed c.args.entry.now c.args.shelf.now x c.put_stretch.new.shelf)
    (refused_join g.S.Shelf.keeps g.S.Shelf.gave_at g.S.Shelf.failed c.args.entry.now so_far.given one.0 c.args.shelf.now c.loop-step.shelf c.put_stretch.new.shelf so_far.read one.1)

pub loop-step-preserved : goal.loop-step-preserved
loop-step-preserved g c =
    let so_far = c.loop-step.invariant in
    let e = c.args.entry.now in
    let plan = c.args.plan.now in
    let steps = c.steps-steps.result.now in
    let written = c.written-written.result.now in
    let i = c.loop-step.step-index in
    let put = c.loop-step.put in
    let s : CutStep = get_or steps i (record { start = 0; end = 0; written = 0 }) in
    let below : i < length steps = omega arith in
    let split = step_split steps i (record { start = 0; end = 0; written = 0 }) below in
    let added = written_added c.extend_from_slice.new.self.items c.put_stretch.new.out.items written put s.written c.in_ok-extend_from_slice.ensures.items in
    record {
      reading = c.in_ok-put_stretch.ensures.reading;
      within = within_next (size_of e) s (drop (i + 1) steps) (drop i steps) split so_far.within;
      left = written_next put (length written) s (drop (i + 1) steps) (drop i steps) split so_far.left;
      made = step_made g.S.Shelf.keeps g.S.Shelf.gave_at g.S.Shelf.failed e c.args.shelf.now c.loop-step.shelf c.put_stretch.new.shelf c.loop-step.reading c.put_stretch.new.reading plan s
          (drop (i + 1) steps) (drop i steps) (drop put written) (drop (put + s.written) written) c.loop-step.out.items c.put_stretch.new.out.items c.extend_from_slice.new.self.items
          split so_far.made c.in_ok-put_stretch.ensures.read added (sym (drop-drop s.written put written));
    }

pub returns-clause-read : goal.returns-clause-read
returns-clause-read g c =
    let steps = c.steps-steps.result.now in
    let i = c.loop-step.step-index in
    let ended : length steps ≤ i = c.loop-step-test.false in
    all_made g.S.Shelf.keeps g.S.Shelf.gave_at g.S.Shelf.failed c.args.entry.now c.args.shelf.now c.loop-step.shelf c.loop-step.reading c.args.plan.now (drop i steps)
    (drop c.loop-step.put c.written-written.result.now) c.loop-step.out.items c.loop-step.invariant.made (drop_of_length-le steps ended)
