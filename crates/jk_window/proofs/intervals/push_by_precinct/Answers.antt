use Rattle.std.proofs.Common.{◌+◌, List, ℕ, subst, sym, arith}
use Rattle.jk_order.specs.PacketOrder.{IsName}
use Rattle.jk_window.specs.Numbered.{Adds, IsOf}
use Rattle.jk_window.proofs.NumberedNames.{number_least}
use Rattle.jk_window.proofs.Adding.{adds_none, adds_push, adds_more, adds_same, precincts_with, name_in, LayersStand, layers_of_one, of_next_precinct, of_all_precincts}
use Rattle.jk_window.proofs.intervals.push_by_precinct.Goals as goal

pub loop-precinct-init : goal.loop-precinct-init
loop-precinct-init c =
    let p = c.args.precincts in
    adds_none c.args.numbers.now c.args.intervals.now.items (IsOf (precincts_with p (p.numbers.0, p.numbers.0) p.layers))
    (λ n is o. (let at = o.precinct in omega (arith, at)))

pub number_of-start-requires : goal.number_of-start-requires
number_of-start-requires c =
    let are = c.requires.precincts in
    let within = are.within in
    let lt = c.loop-precinct-test.true in
    let some = c.requires.shape.some_layers in
    record { layer = omega (arith, some); component = are.component; resolution = are.resolution; precinct = omega (arith, within, lt) }

pub overflow_add-end : goal.overflow_add-end
overflow_add-end c =
    let least = number_least c.args.numbers.now c.number_of-start.result _ c.number_of-start.ensures in
    let few = c.requires.few in
    let layers = c.requires.precincts.layers in
    let most = c.requires.shape.few_layers in
    record { fits = omega (arith, least, few, layers, most) }

pub loop-precinct-preserved : goal.loop-precinct-preserved
loop-precinct-preserved c =
    let s = c.args.numbers.now in
    let p = c.args.precincts in
    let k = c.loop-precinct.precinct in
    let a = c.number_of-start.result in
    let cur = c.loop-precinct.intervals.items in
    let stand : LayersStand s = λ n i m is less at. c.layers_stand_together.ensures s n i m c.requires.shape c.requires.few c.requires.inside is less at in
    let are = c.requires.precincts in
    let within = are.within in
    let lt = c.loop-precinct-test.true in
    let some = c.requires.shape.some_layers in
    let is : IsName s (name_in p 0 k) = record { layer = omega (arith, some); component = are.component; resolution = are.resolution; precinct = omega (arith, within, lt) } in
    let law = layers_of_one s p k a stand are is c.number_of-start.ensures in
    let one = adds_push s cur (a, a + p.layers) (IsOf (precincts_with p (k, k + 1) p.layers)) law in
    adds_more s c.args.intervals.now.items cur c.push.new.self.items
    (IsOf (precincts_with p (p.numbers.0, k) p.layers)) (IsOf (precincts_with p (k, k + 1) p.layers)) (IsOf (precincts_with p (p.numbers.0, k + 1) p.layers))
    c.loop-precinct.invariant (subst (λ (xs : List (ℕ × ℕ)). Adds s cur xs (IsOf (precincts_with p (k, k + 1) p.layers))) (sym c.in_ok-push.ensures.items) one)
    (λ n is. of_next_precinct p p.numbers.0 k c.loop-precinct.auto.precinct n)

pub returns-clause-adds : goal.returns-clause-adds
returns-clause-adds c =
    let s = c.args.numbers.now in
    let p = c.args.precincts in
    let k = c.loop-precinct.precinct in
    let some = c.requires.some in
    let most = c.loop-precinct.auto.precinct-end (omega (arith, some)) in
    adds_same s c.args.intervals.now.items c.loop-precinct.intervals.items (IsOf (precincts_with p (p.numbers.0, k) p.layers)) (IsOf p) c.loop-precinct.invariant
    (λ n is. of_all_precincts p k (omega (arith, most, c.loop-precinct-test.false)) n)
