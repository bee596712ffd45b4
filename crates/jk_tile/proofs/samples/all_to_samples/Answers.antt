use Rattle.std.proofs.Common.{◌<◌, length, ◌∙◌, ap, arith}
use Rattle.std.specs.Vec.{with_items}
use Rattle.std.proofs.lemmas.List.{length-map}
use Rattle.jk_tile.specs.Samples.{sample_of}
use Rattle.jk_tile.proofs.Showing.{with_same}
use Rattle.jk_tile.proofs.Sampling.{lists_more, lists_all}
use Rattle.jk_tile.proofs.samples.all_to_samples.Goals as goal

pub loop-c-preserved : goal.loop-c-preserved
loop-c-preserved c =
    let f = sample_of c.args.siz.now in
    let same = c.args.values.now.ok in
    let lt : c.loop-c.c < length c.args.values.now.items = omega (arith, c.loop-c-test.true, c.len-c-end.ensures, same) in
    let long = ap (λ xs. length xs) c.to_samples.ensures ∙ length-map c.deref_mut.result.now f ∙ ap (λ xs. length xs) c.deref_mut.ensures.value in
    lists_more f c.loop-c.c c.args.values.now.items c.loop-c.values.items c.index_mut.result.now (with_items c.index_mut.result.now c.to_samples.new.values) c.deref_mut.result.now c.to_samples.new.values
    c.loop-c.invariant lt c.index_mut.ensures.value c.deref_mut.ensures.value c.to_samples.ensures (with_same c.index_mut.result.now c.to_samples.new.values long)

pub returns : goal.returns
returns c =
    let same = c.args.values.now.ok in
    lists_all (sample_of c.args.siz.now) c.loop-c.c c.args.values.now.items c.loop-c.values.items c.loop-c.invariant (omega (arith, c.loop-c-test.false, c.len-c-end.ensures, same))
