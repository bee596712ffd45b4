use Rattle.std.proofs.Common.{◌≡◌, ◌^◌, ◌<◌, ap, ◌∙◌, pos, unsigned_abs, get_or, ℤ, arith}
use Rattle.std.specs.Int.{w32}
use Rattle.std.proofs.lemmas.Int.{to_z-of_z, fits_signed_from_abs}
use Rattle.std.proofs.lemmas.List.{take_all}
use Rattle.jk_math.specs.BitLength.{bit_length}
use Rattle.jk_math.proofs.Laws.{bit_length_zeros, bit_length_few}
use Rattle.jk_block.specs.BlockWritten.{greatest}
use Rattle.jk_block.proofs.Sizing.{greatest_more}
use Rattle.jk_block.proofs.encoding.top_bits.Goals as goal
use Rattle.jk_block.proofs.encoding.top_bits.Goals.{then-magnitude-most, else-magnitude-most}

pub loop-value-preserved : goal.loop-value-preserved
loop-value-preserved c =
    let at : ℤ = get_or c.args.values.now c.loop-value.value-index (pos 0) in
    let e = greatest_more c.args.values.now c.loop-value.value-index (pos 0) c.loop-value-test.true in
    let h : unsigned_abs at < 2 ^ 23 = c.requires c.loop-value.value-index (pos 0) c.loop-value-test.true in
    let i = c.loop-value.invariant in
    let v : c.unsigned_abs-magnitude.result ≡ unsigned_abs at = c.unsigned_abs-magnitude.ensures.value ∙ ap unsigned_abs (to_z-of_z w32 at (fits_signed_from_abs w32 at (omega (arith, h)))) in
    elim c.if-magnitude-most.branch [
      | then-magnitude-most w ↦ (let m = w.most-is in let g = w.if-magnitude-most.true in (omega (arith, e, h, v, m, g, i.0), omega (arith, h, v, m)))
      | else-magnitude-most w ↦ (let m = w.most-is in let g = w.if-magnitude-most.false in (omega (arith, e, h, v, m, g, i.0), omega (arith, i.1, m)))
    ]

pub returns-clause-planes : goal.returns-clause-planes
returns-clause-planes c =
    let i = c.loop-value.invariant in
    bit_length_zeros c.loop-value.most (omega (arith, i.1)) ∙ ap bit_length (i.0 ∙ ap greatest (take_all c.loop-value.value-index c.args.values.now (omega arith)))

pub returns-clause-few : goal.returns-clause-few
returns-clause-few c =
    let i = c.loop-value.invariant in
    let e = bit_length_zeros c.loop-value.most (omega (arith, i.1)) in
    let s = bit_length_few c.loop-value.most 23 i.1 in
    omega (arith, e, s)
