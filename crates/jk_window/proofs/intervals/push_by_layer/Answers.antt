use Rattle.std.proofs.Common.{◌+◌, ◌-◌, ◌≤◌, List, ℕ, subst, sym, arith}
use Rattle.jk_geom.specs.declared.shape.PacketName.{PacketName}
use Rattle.jk_order.specs.PacketOrder.{IsName}
use Rattle.jk_window.specs.Numbered.{Adds, IsOf}
use Rattle.jk_window.proofs.NumberedNames.{number_least, precincts_few}
use Rattle.jk_window.proofs.Adding.{adds_none, adds_push, adds_more, adds_same, precincts_with, name_in, PrecinctsStand, precincts_of_one, of_next_layer, of_all_layers}
use Rattle.jk_window.proofs.intervals.push_by_layer.Goals as goal

pub loop-layer-init : goal.loop-layer-init
loop-layer-init c =
    let p = c.args.precincts in
    adds_none c.args.numbers.now c.args.intervals.now.items (IsOf (precincts_with p p.numbers 0))
    (λ n is o. (let at = o.layer in omega (arith, at)))

pub number_of-start-requires : goal.number_of-start-requires
number_of-start-requires c =
    let are = c.requires.precincts in
    let within = are.within in
    let layers = are.layers in
    let lt = c.loop-layer-test.true in
    let some = c.requires.some in
    record { layer = omega (arith, lt, layers); component = are.component; resolution = are.resolution; precinct = omega (arith, within, some) }

pub overflow_add-end : goal.overflow_add-end
overflow_add-end c =
    let least = number_least c.args.numbers.now c.number_of-start.result _ c.number_of-start.ensures in
    let few = c.requires.few in
    let within = c.requires.precincts.within in
    let number = precincts_few c.args.numbers.now c.args.precincts.component c.args.precincts.resolution c.requires.shape c.requires.precincts.component c.requires.precincts.resolution in
    record { fits = omega (arith, least, few, within, number) }

pub loop-layer-preserved : goal.loop-layer-preserved
loop-layer-preserved c =
    let s = c.args.numbers.now in
    let p = c.args.precincts in
    let l = c.loop-layer.layer in
    let a = c.number_of-start.result in
    let cur = c.loop-layer.intervals.items in
    let Q = λ (n : PacketName). IsOf (precincts_with p p.numbers (l + 1)) n × (l ≤ n.layer) in
    let stand : PrecinctsStand s = λ n i m is less at. c.precincts_stand_together.ensures s n i m c.requires.shape c.requires.few c.requires.outside is less at in
    let are = c.requires.precincts in
    let within = are.within in
    let layers = are.layers in
    let lt = c.loop-layer-test.true in
    let some = c.requires.some in
    let is : IsName s (name_in p l p.numbers.0) = record { layer = omega (arith, lt, layers); component = are.component; resolution = are.resolution; precinct = omega (arith, within, some) } in
    let law = precincts_of_one s p l a stand are is c.number_of-start.ensures in
    let one = adds_push s cur (a, a + (p.numbers.1 - p.numbers.0)) Q law in
    adds_more s c.args.intervals.now.items cur c.push.new.self.items
    (IsOf (precincts_with p p.numbers l)) Q (IsOf (precincts_with p p.numbers (l + 1)))
    c.loop-layer.invariant (subst (λ (xs : List (ℕ × ℕ)). Adds s cur xs Q) (sym c.in_ok-push.ensures.items) one)
    (λ n is. of_next_layer p l n)

pub returns-clause-adds : goal.returns-clause-adds
returns-clause-adds c =
    let s = c.args.numbers.now in
    let p = c.args.precincts in
    let l = c.loop-layer.layer in
    let most = c.loop-layer.auto.layer-end in
    adds_same s c.args.intervals.now.items c.loop-layer.intervals.items (IsOf (precincts_with p p.numbers l)) (IsOf p) c.loop-layer.invariant
    (λ n is. of_all_layers p l (omega (arith, most, c.loop-layer-test.false)) n)
