use Rattle.std.proofs.Common.{◌≡◌, ◌+◌, ◌-◌, ◌<◌, ◌≤◌, [], length, drop, get_or, refl, sym, subst, arith}
use Rattle.std.proofs.lemmas.Slice.Zip.{length-zip}
use Rattle.jk_walk.specs.declared.entries.PacketEntry.{PacketEntry}
use Rattle.jk_window.specs.Cutting.{run_at}
use Rattle.jk_window.specs.Planning.{IsBehind, tile_packet, tile_packet_size}
use Rattle.jk_window.proofs.EntryFacts.{entry_within}
use Rattle.jk_window.proofs.NumberedPlans.{no_name}
use Rattle.jk_window.proofs.Runs.{run_ended, run_over}
use Rattle.jk_window.proofs.RunPlans.{IsRunning, entered_by, running_starts, running_more, running_over}
use Rattle.jk_window.proofs.contents.plan_run.Goals as goal
use Rattle.jk_window.proofs.contents.plan_run.Goals.{then-loop-at-test+else-i-names, else-loop-at-test}

pub loop-at-init : goal.loop-at-init
loop-at-init c = (running_starts c.args.size c.args.tile.now c.args.names.now c.args.next c.args.part.0 c.args.part.1 c.new-plan.result c.new-plan.ensures, tt)

pub loop-at-preserved : goal.loop-at-preserved
loop-at-preserved c = (
  (
      let tile = c.args.tile.now in
      let e = c.get-entry.result in
      let n = get_or c.args.names.now c.loop-at.i no_name in
      let is = c.get-entry.ensures e in
      subst (λ (x : PacketEntry). IsRunning c.args.size tile c.args.names.now c.args.next c.args.part.0 c.args.part.1 c.plan_packet.new.plan (c.loop-at.i + 1) x.end) (sym is)
      (running_more c.args.size tile c.args.names.now tile.entries.now c.args.next c.args.part.0 c.args.part.1 c.loop-at.plan c.plan_packet.new.plan c.loop-at.i c.loop-at.at no_name e
      c.loop-at.invariant.0 refl c.requires.all c.if-i-names.true c.loop-at-test.true
      (subst (λ (x : PacketEntry). IsBehind c.loop-at.plan c.plan_packet.new.plan (λ file. tile_packet tile file (n, x)) (tile_packet_size tile (n, x))) is c.in_ok-plan_packet.ensures.ok))
      ),
  c.in_ok-plan_packet.ensures.last,
)

pub plan_packet-requires-clause-entry : goal.plan_packet-requires-clause-entry
plan_packet-requires-clause-entry c =
    let e = c.get-entry.result in
    let cut = c.requires.cut in
    let within = cut.within in
    let size = c.loop-at.invariant.0.size in
    let lt : c.loop-at.i < length c.args.tile.now.entries.now = omega (arith, c.if-i-names.true, c.requires.all) in
    let le : cut.size ≤ c.loop-at.plan.size - c.args.tile.now.start = omega (arith, within, size) in
    entry_within cut.size (c.loop-at.plan.size - c.args.tile.now.start) c.args.tile.now.entries.now c.loop-at.i e cut.entries.each lt (c.get-entry.ensures e) le

pub returns-clause-plan : goal.returns-clause-plan
returns-clause-plan c =
    let packets = entered_by c.args.tile.now c.args.names.now in
    let long = length-zip c.args.names.now c.args.tile.now.entries.now in
    let none : run_at (drop c.loop-at.i packets) c.loop-at.at c.args.part.1 ≡ [] = elim c.loop-at-test.branch [
      | then-loop-at-test+else-i-names w ↦ run_over packets c.loop-at.i c.loop-at.at c.args.part.1 (omega (arith, w.if-i-names.false, long))
      | else-loop-at-test w ↦ run_ended (drop c.loop-at.i packets) c.loop-at.at c.args.part.1 w.loop-at-test.false
    ] in
    (running_over c.args.size c.args.tile.now c.args.names.now c.args.next c.args.part.0 c.args.part.1 c.loop-at.plan c.loop-at.i c.loop-at.at c.loop-at.invariant.0 none).0

pub returns-clause-next : goal.returns-clause-next
returns-clause-next c =
    let packets = entered_by c.args.tile.now c.args.names.now in
    let long = length-zip c.args.names.now c.args.tile.now.entries.now in
    let none : run_at (drop c.loop-at.i packets) c.loop-at.at c.args.part.1 ≡ [] = elim c.loop-at-test.branch [
      | then-loop-at-test+else-i-names w ↦ run_over packets c.loop-at.i c.loop-at.at c.args.part.1 (omega (arith, w.if-i-names.false, long))
      | else-loop-at-test w ↦ run_ended (drop c.loop-at.i packets) c.loop-at.at c.args.part.1 w.loop-at-test.false
    ] in
    (running_over c.args.size c.args.tile.now c.args.names.now c.args.next c.args.part.0 c.args.part.1 c.loop-at.plan c.loop-at.i c.loop-at.at c.loop-at.invariant.0 none).1
