use Rattle.std.proofs.Common.{◌+◌, List, length, ap, arith}
use Rattle.jk_marks.specs.declared.coding.Coding.{Coding}
use Rattle.jk_window.specs.Numbered.{IsNeededIn, IsNeeded}
use Rattle.jk_window.proofs.Adding.{adds_none, adds_more, adds_same, IsInComponents, components_none, components_more, components_all}
use Rattle.jk_window.proofs.intervals.push_components.Goals as goal

pub loop-component-init : goal.loop-component-init
loop-component-init c =
    adds_none c.args.tile.now.shape.now c.args.intervals.now.items (IsInComponents c.args.tile.now c.args.layers 0)
    (components_none c.args.tile.now c.args.layers)

pub loop-component-preserved : goal.loop-component-preserved
loop-component-preserved c =
    let t = c.args.tile.now in
    let k = c.loop-component.component in
    adds_more t.shape.now c.args.intervals.now.items c.loop-component.intervals.items c.push_component.new.intervals.items
    (IsInComponents t c.args.layers k) (IsNeededIn t c.args.layers k) (IsInComponents t c.args.layers (k + 1))
    c.loop-component.invariant c.in_ok-push_component.ensures.adds (components_more t c.args.layers k)

pub returns-clause-adds : goal.returns-clause-adds
returns-clause-adds c =
    let t = c.args.tile.now in
    let long = ap (λ (ks : List Coding). length ks) c.as_slice-codings.ensures in
    adds_same t.shape.now c.args.intervals.now.items c.loop-component.intervals.items
    (IsInComponents t c.args.layers c.loop-component.component) (IsNeeded t c.args.layers)
    c.loop-component.invariant (components_all t c.args.layers c.loop-component.component (omega (arith, c.loop-component-test.false, long)))
