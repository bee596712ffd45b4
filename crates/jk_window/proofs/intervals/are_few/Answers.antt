use Rattle.std.proofs.Common.{◌<◌, List, length, ap, sym, subst, arith}
use Rattle.jk_marks.specs.declared.coding.Coding.{Coding}
use Rattle.jk_marks.specs.Coding.{IsCoding}
use Rattle.jk_window.proofs.Adding.{coding_read}
use Rattle.jk_window.proofs.intervals.are_few.Goals as goal

pub most_of_component-requires-clause-coding : goal.most_of_component-requires-clause-coding
most_of_component-requires-clause-coding c =
    let codings = c.args.tile.now.shape.now.codings in
    let long = ap (λ (ks : List Coding). length ks) c.as_slice-codings.ensures in
    let lt : c.loop-component.component < length codings = omega (arith, c.loop-component-test.true, long) in
    let own = coding_read codings c.as_slice-codings.result.now c.loop-component.component c.index-codings-component.result c.as_slice-codings.ensures lt c.index-codings-component.is in
    subst IsCoding (sym own) (c.requires.cut.1.shape.codings.each c.loop-component.component lt)
