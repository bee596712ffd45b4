use Rattle.std.proofs.Common.{ℕ, ◌*◌, ◌++◌, ℤ, List, map, min, ap, ◌∙◌, append_assoc, arith}
use Rattle.std.specs.List.{range_with_len}
use Rattle.jk_block.specs.Meaning.{with_sign}
use Rattle.jk_block.specs.decoding.BlockStates.{draft_of}
use Rattle.jk_block.specs.decoding.Eights.{value_of}
use Rattle.jk_block.proofs.decoding.Eights.{row_more, value_in_row}
use Rattle.jk_block.proofs.decoding.coefficients.append_row.Goals as goal

pub loop-word-preserved : goal.loop-word-preserved
loop-word-preserved c =
    let k = c.args.block_state.now in
    let y = c.args.y in
    let f : ℕ → ℤ = λ x. with_sign ((draft_of k).negative x y) ((draft_of k).magnitude x y) in
    let n = c.loop-word.word in
    let a = min (8 * n) k.shape.width in
    let i = c.loop-word.invariant in
    let g = value_of c.eight_at-eight.result in (
      c.append_eight.ensures.items ∙ ap (λ (vs : List ℤ). vs ++ map g (range_with_len 0 c.min.result)) i.0 ∙ append_assoc c.args.values.now.items (map f (range_with_len 0 a)) (map g (range_with_len 0 c.min.result))
          ∙ ap (λ (vs : List ℤ). c.args.values.now.items ++ vs) (row_more f g a c.min.result (λ m l. value_in_row k n y c.eight_at-eight.result m a c.eight_at-eight.ensures (omega arith) (let e = c.min.ensures in omega (arith, e, l)) c.requires.row (let e = c.min.ensures in omega (arith, e, l)))
          ∙ ap (λ m. map f (range_with_len 0 m)) (omega arith)),
      (let b = c.append_eight.ensures.len in let d = i.1 in omega (arith, b, d)),
      c.append_eight.ensures.capacity ∙ i.2,
    )
