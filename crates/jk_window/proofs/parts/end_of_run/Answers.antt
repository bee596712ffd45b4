use Rattle.std.proofs.Common.{◌+◌, drop, sym, subst, arith}
use Rattle.std.specs.List.{zip}
use Rattle.jk_walk.specs.declared.entries.PacketEntry.{PacketEntry}
use Rattle.std.proofs.lemmas.Slice.Zip.{length-zip}
use Rattle.jk_window.proofs.Runs.{run_ended, run_over}
use Rattle.jk_window.proofs.PartLaws.{IsEnding, ending_starts, ending_more, ending_over}
use Rattle.jk_window.proofs.parts.end_of_run.Goals as goal

pub loop-at-init : goal.loop-at-init
loop-at-init c = ending_starts c.args.entries.now c.args.next c.args.part.0 c.args.part.1 c.requires

pub loop-at-preserved : goal.loop-at-preserved
loop-at-preserved c =
    let entries = c.args.entries.now in
    let e = c.get-entry.result in
    subst (λ (x : PacketEntry). IsEnding entries c.args.next c.args.part.0 c.args.part.1 (c.loop-at.i + 1) x.end) (sym (c.get-entry.ensures e))
    (ending_more entries c.args.next c.args.part.0 c.args.part.1 c.loop-at.i c.loop-at.at e c.loop-at.invariant (omega (arith, c.if-i-len.true, c.len.ensures)) c.loop-at-test.true)

pub returns-after-loop-at-clause-run : goal.returns-after-loop-at-clause-run
returns-after-loop-at-clause-run c =
    let entries = c.args.entries.now in
    ending_over entries c.args.next c.args.part.0 c.args.part.1 c.loop-at.i c.loop-at.at c.loop-at.invariant
    (λ names long. run_ended (drop c.loop-at.i (zip names entries)) c.loop-at.at c.args.part.1 c.loop-at-test.false)

pub returns-else-i-len-clause-run : goal.returns-else-i-len-clause-run
returns-else-i-len-clause-run c =
    let entries = c.args.entries.now in
    ending_over entries c.args.next c.args.part.0 c.args.part.1 c.loop-at.i c.loop-at.at c.loop-at.invariant
    (λ names long. (
    let both = length-zip names entries in
    run_over (zip names entries) c.loop-at.i c.loop-at.at c.args.part.1 (omega (arith, c.if-i-len.false, c.len.ensures, both, long))))
