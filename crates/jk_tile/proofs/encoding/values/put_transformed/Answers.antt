use Rattle.std.proofs.Common.{◌-ℤ◌, ap, ◌∙◌, rules, w32, arith}
use Rattle.std.proofs.lemmas.Int.{to_z-of_z}
use mir.Val.{SFits}
use Rattle.jk_math.specs.Signed.{signed_at}
use Rattle.jk_tile.specs.Samples.{shift}
use Rattle.jk_tile.proofs.encoding.WrittenRows.{written_more, small_read, passed_small, of_each}
use Rattle.jk_tile.proofs.encoding.values.put_transformed.Goals as goal

pub loop-k-preserved : goal.loop-k-preserved
loop-k-preserved g c =
    let k = c.loop-k.k in
    let s = shift c.args.depth c.args.signed in
    let t = g.T.Transformed.formula in
    let first = passed_small c.lowered.result c.lowered.ensures.small ∙ c.lowered.ensures.value ∙ ap (λ z. z -ℤ s) (small_read c.args.first.now k (omega arith) c.requires.first_small) in
    let second = passed_small c.lowered-in-loop-k.result c.lowered-in-loop-k.ensures.small ∙ c.lowered-in-loop-k.ensures.value ∙ ap (λ z. z -ℤ s) (small_read c.args.second.now k (omega arith) c.requires.second_small) in
    let third = passed_small c.lowered-in-loop-k-2.result c.lowered-in-loop-k-2.ensures.small ∙ c.lowered-in-loop-k-2.ensures.value ∙ ap (λ z. z -ℤ s) (small_read c.args.third.now k (omega arith) c.requires.third_small) in
    let fits : SFits w32 c.of.result = search rules in
    written_more (λ j. t (signed_at c.args.first.now j -ℤ s) (signed_at c.args.second.now j -ℤ s) (signed_at c.args.third.now j -ℤ s)) k c.loop-k.row _ c.loop-k.invariant (omega arith)
    (to_z-of_z w32 c.of.result fits ∙ c.of.ensures
    ∙ of_each t _ _ _ (signed_at c.args.first.now k -ℤ s) (signed_at c.args.second.now k -ℤ s) (signed_at c.args.third.now k -ℤ s) first second third)
