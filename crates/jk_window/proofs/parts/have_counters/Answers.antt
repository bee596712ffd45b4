use Rattle.std.proofs.Common.{◌≡◌, None, rules, arith}
use Rattle.jk_walk.specs.declared.entries.PacketEntry.{PacketEntry}
use Rattle.jk_window.proofs.EntryFacts.{taken_more}
use Rattle.jk_window.proofs.parts.have_counters.Goals as goal

pub loop-i-preserved : goal.loop-i-preserved
loop-i-preserved c =
    let none : c.get-entry.result.counter ≡ None = search rules in
    taken_more (λ (e : PacketEntry). e.counter ≡ None) c.args.entries.now c.loop-i.i c.get-entry.result (omega (arith, c.loop-i-test.true, c.len-i-end.ensures)) (c.get-entry.ensures c.get-entry.result) c.loop-i.invariant none
