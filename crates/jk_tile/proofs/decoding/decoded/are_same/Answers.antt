use Rattle.std.proofs.Common.{refl, sym, ◌∙◌, arith}
use Rattle.std.proofs.lemmas.List.{take_all, take_more_same}
use Rattle.jk_tile.proofs.decoding.decoded.are_same.Goals as goal

pub loop-index-preserved : goal.loop-index-preserved
loop-index-preserved c =
    let inv = c.loop-index.invariant in
    let lt = c.loop-index-test.true in
    record { same = take_more_same c.args.one.now c.args.other.now c.loop-index.index _ lt (omega (arith, lt, inv.long)) inv.same (c.if-not-is_same.ensures refl); long = inv.long }

pub returns : goal.returns
returns c =
    let inv = c.loop-index.invariant in
    λ _. sym (take_all c.loop-index.index c.args.one.now c.loop-index-test.false) ∙ inv.same ∙ take_all c.loop-index.index c.args.other.now (omega (arith, c.loop-index-test.false, inv.long))
