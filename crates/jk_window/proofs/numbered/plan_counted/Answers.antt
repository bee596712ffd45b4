use Rattle.std.proofs.Common.{◌+◌, ◌∷◌, ◌++◌, length, refl, subst, arith}
use Rattle.jk_walk.specs.declared.entries.PacketEntry.{PacketEntry}
use Rattle.jk_walk.specs.Sop.{sop_written}
use Rattle.jk_packet.specs.PacketText.{eph_text}
use Rattle.jk_window.specs.Planning.{IsBehind, tile_packet, tile_packet_size}
use Rattle.jk_window.specs.Numbered.{packets_in}
use Rattle.jk_window.proofs.NumberedPlans.{step_none, gap_more}
use Rattle.jk_window.proofs.numbered.plan_counted.Goals as goal

pub loop-i-init : goal.loop-i-init
loop-i-init c = step_none c.args.plan.now (λ file v. tile_packet c.args.tile.now file v) (tile_packet_size c.args.tile.now) (packets_in c.args.tile.now) c.args.first c.args.first (omega arith)

pub loop-i-preserved : goal.loop-i-preserved
loop-i-preserved c =
    let t = c.args.tile.now in
    let e = c.get-entry.result in
    let is = c.get-entry.ensures e in
    let one = subst (λ (x : PacketEntry). IsBehind c.loop-i.plan c.put_emptied.new.plan (λ _. sop_written x.counter ++ (0 ∷ eph_text t.eph)) (length (sop_written x.counter) + length (0 ∷ eph_text t.eph))) is c.in_ok-put_emptied.ensures.ok in
    gap_more t c.args.plan.now c.loop-i.plan c.put_emptied.new.plan c.args.first c.args.behind c.loop-i.i t.entries.now e
    refl c.requires.cut.entries.count c.requires.none c.loop-i.auto.i c.loop-i-test.true c.requires.within c.loop-i.invariant one
