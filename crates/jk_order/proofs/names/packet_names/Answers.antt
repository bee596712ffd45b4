use Rattle.std.proofs.Common.{◌≡◌, ◌-◌, [], subst, sym, arith}
use Rattle.std.specs.List.{AllByRecursion}
use Rattle.jk_order.specs.PacketOrder.{IsName, packet_count}
use Rattle.jk_order.proofs.Naming.{IsNaming, naming_starts, naming_over, none_is, counted_over, order_names}
use Rattle.jk_order.proofs.names.packet_names.Goals as goal
use Rattle.jk_order.proofs.names.packet_names.Goals.{else-loop-test, then-loop-test+in_default}

pub loop-init : goal.loop-init
loop-init c =
    let s = c.args.shape.now in
    let few = c.requires.few in
    let count : packet_count s ≡ c.packet_count-end.result - 0 = omega (arith, c.packet_count-end.ensures, few) in
    subst (IsNaming s c.in_ok-packets.packets c.in_ok-names.names.items) count
    (naming_starts s c.in_ok-packets.packets c.in_ok-names.names.items c.in_ok-packets.ensures.starts c.in_ok-names.ensures.items)

pub returns-clause-value : goal.returns-clause-value
returns-clause-value c =
    let w = c.loop.invariant in
    let none : w.left ≡ [] = elim c.loop-test.branch [
      | else-loop-test v ↦ counted_over w.left (let count = w.count in omega (arith, count, v.loop-test.false))
      | then-loop-test+in_default v ↦ none_is w.left (v.in_default.ensures w.left w.follow).0
    ] in
    naming_over c.args.shape.now _ _ _ w none

pub returns-clause-names : goal.returns-clause-names
returns-clause-names c = subst (AllByRecursion (IsName c.args.shape.now)) (sym (returns-clause-value c)) (order_names c.args.shape.now)
