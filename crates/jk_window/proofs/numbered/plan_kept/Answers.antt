use Rattle.std.proofs.Common.{◌+◌, ◌-◌, ◌<◌, length, refl, subst, arith}
use Rattle.jk_walk.specs.declared.entries.PacketEntry.{PacketEntry}
use Rattle.jk_walk.specs.Entries.{IsEntry}
use Rattle.jk_walk.specs.TilePackets.{slice_of}
use Rattle.jk_window.specs.Planning.{IsBehind, tile_packet, tile_packet_size}
use Rattle.jk_window.specs.Numbered.{packets_in}
use Rattle.jk_window.proofs.EntryFacts.{entry_there}
use Rattle.jk_window.proofs.NumberedPlans.{step_none, kept_more}
use Rattle.jk_window.proofs.numbered.plan_kept.Goals as goal

pub loop-i-init : goal.loop-i-init
loop-i-init c = step_none c.args.plan.now (λ file v. tile_packet c.args.tile.now file v) (tile_packet_size c.args.tile.now) (packets_in c.args.tile.now) c.args.first c.args.first (omega arith)

pub loop-i-preserved : goal.loop-i-preserved
loop-i-preserved c =
    let t = c.args.tile.now in
    let e = c.get-entry.result in
    let is = c.get-entry.ensures e in
    let one = subst (λ (x : PacketEntry). IsBehind c.loop-i.plan c.copy.new.self (λ file. slice_of file (t.start + x.start, t.start + x.end)) (t.start + x.end - (t.start + x.start))) is c.in_ok-copy.ensures.ok in
    kept_more t c.args.plan.now c.loop-i.plan c.copy.new.self c.args.first c.args.behind c.loop-i.i t.entries.now e
    refl c.requires.cut.entries.count c.requires.all c.loop-i.auto.i c.loop-i-test.true c.requires.within c.loop-i.invariant one

pub overflow_add-tile : goal.overflow_add-tile
overflow_add-tile c =
    let i = c.loop-i.i in
    let e = c.get-entry.result in
    let lt : i < length c.args.tile.now.entries.now = omega (arith, c.loop-i-test.true, c.requires.within) in
    let own = entry_there (IsEntry c.requires.cut.size) c.args.tile.now.entries.now i e c.requires.cut.entries.each lt (c.get-entry.ensures e) in
    let header = own.header in
    let body = own.body in
    let end = own.within in
    let within = c.requires.cut.within in
    omega (arith, c.requires.cut.narrow, within, header, body, end)

pub overflow_add-tile-in-loop-i : goal.overflow_add-tile-in-loop-i
overflow_add-tile-in-loop-i c =
    let i = c.loop-i.i in
    let e = c.get-entry.result in
    let lt : i < length c.args.tile.now.entries.now = omega (arith, c.loop-i-test.true, c.requires.within) in
    let own = entry_there (IsEntry c.requires.cut.size) c.args.tile.now.entries.now i e c.requires.cut.entries.each lt (c.get-entry.ensures e) in
    let header = own.header in
    let body = own.body in
    let end = own.within in
    let within = c.requires.cut.within in
    omega (arith, c.requires.cut.narrow, within, end)

pub copy-requires-clause-order : goal.copy-requires-clause-order
copy-requires-clause-order c =
    let i = c.loop-i.i in
    let e = c.get-entry.result in
    let lt : i < length c.args.tile.now.entries.now = omega (arith, c.loop-i-test.true, c.requires.within) in
    let own = entry_there (IsEntry c.requires.cut.size) c.args.tile.now.entries.now i e c.requires.cut.entries.each lt (c.get-entry.ensures e) in
    let header = own.header in
    let body = own.body in
    let end = own.within in
    let within = c.requires.cut.within in
    omega (arith, header, body)

pub copy-requires-clause-within : goal.copy-requires-clause-within
copy-requires-clause-within c =
    let i = c.loop-i.i in
    let e = c.get-entry.result in
    let lt : i < length c.args.tile.now.entries.now = omega (arith, c.loop-i-test.true, c.requires.within) in
    let own = entry_there (IsEntry c.requires.cut.size) c.args.tile.now.entries.now i e c.requires.cut.entries.each lt (c.get-entry.ensures e) in
    let header = own.header in
    let body = own.body in
    let end = own.within in
    let within = c.requires.cut.within in
    omega (arith, within, end, c.loop-i.invariant.size)
