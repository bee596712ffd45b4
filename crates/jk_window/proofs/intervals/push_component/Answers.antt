use Rattle.std.proofs.Common.{◌+◌, ap, arith}
use Rattle.jk_marks.specs.declared.coding.Coding.{Coding}
use Rattle.jk_window.specs.Numbered.{IsNeededOf, IsNeededIn}
use Rattle.jk_window.proofs.Adding.{coding_read, adds_none, adds_more, adds_same, IsInResolutions, resolutions_none, resolutions_more, resolutions_all}
use Rattle.jk_window.proofs.intervals.push_component.Goals as goal

pub loop-resolution-init : goal.loop-resolution-init
loop-resolution-init c =
    adds_none c.args.tile.now.shape.now c.args.intervals.now.items (IsInResolutions c.args.tile.now c.args.layers c.args.component 0)
    (resolutions_none c.args.tile.now c.args.layers c.args.component)

pub loop-resolution-preserved : goal.loop-resolution-preserved
loop-resolution-preserved c =
    let t = c.args.tile.now in
    let r = c.loop-resolution.resolution in
    adds_more t.shape.now c.args.intervals.now.items c.loop-resolution.intervals.items c.push_resolution.new.intervals.items
    (IsInResolutions t c.args.layers c.args.component r) (IsNeededOf t c.args.layers c.args.component r) (IsInResolutions t c.args.layers c.args.component (r + 1))
    c.loop-resolution.invariant c.in_ok-push_resolution.ensures.adds (resolutions_more t c.args.layers c.args.component r)

pub push_resolution-requires-clause-resolution : goal.push_resolution-requires-clause-resolution
push_resolution-requires-clause-resolution c =
    let t = c.args.tile.now in
    let own = coding_read t.shape.now.codings c.as_slice-codings.result.now c.args.component c.index-codings-component.result c.as_slice-codings.ensures c.requires.component c.index-codings-component.is in
    let levels = ap (λ (k : Coding). k.levels) own in
    omega (arith, c.loop-resolution-test.true, levels)

pub returns-clause-adds : goal.returns-clause-adds
returns-clause-adds c =
    let t = c.args.tile.now in
    let own = coding_read t.shape.now.codings c.as_slice-codings.result.now c.args.component c.index-codings-component.result c.as_slice-codings.ensures c.requires.component c.index-codings-component.is in
    let levels = ap (λ (k : Coding). k.levels) own in
    adds_same t.shape.now c.args.intervals.now.items c.loop-resolution.intervals.items
    (IsInResolutions t c.args.layers c.args.component c.loop-resolution.resolution) (IsNeededIn t c.args.layers c.args.component)
    c.loop-resolution.invariant (resolutions_all t c.args.layers c.args.component c.loop-resolution.resolution (omega (arith, c.loop-resolution-test.false, levels)))
