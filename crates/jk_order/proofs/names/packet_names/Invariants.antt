use Rattle.std.proofs.Common.{◌-◌}
use Rattle.jk_order.proofs.Naming.{IsNaming}
use Rattle.jk_order.proofs.names.packet_names.Given as goal

abbrev pub invariant-loop : goal.invariant-loop
invariant-loop l = IsNaming l.shape l.packets l.names.items (l.end - l.counter)
