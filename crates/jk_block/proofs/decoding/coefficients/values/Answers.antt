use Rattle.std.proofs.Common.{◌≡◌, ◌++◌, ℤ, List, sym, ap, ◌∙◌, arith}
use Rattle.jk_scan.specs.Neighbours.{Field}
use Rattle.jk_block.specs.Meaning.{with_sign}
use Rattle.jk_block.specs.decoding.BlockStates.{draft_of}
use Rattle.jk_block.proofs.decoding.Listing.{rows_of, row_of, rows_more, rows_all}
use Rattle.jk_block.proofs.decoding.coefficients.values.Goals as goal

pub loop-y-preserved : goal.loop-y-preserved
loop-y-preserved c =
    let k = c.args.block_state.now in
    let q : Field ℤ = λ x y. with_sign ((draft_of k).negative x y) ((draft_of k).magnitude x y) in
    let i = c.loop-y.invariant in (
      c.append_row.ensures.items ∙ ap (λ (vs : List ℤ). vs ++ row_of q k.shape.width c.loop-y.y) i.0 ∙ sym (rows_more q k.shape.width c.loop-y.y),
      (let a = c.append_row.ensures.len in let b = i.1 in omega (arith, a, b)),
      (let a = c.append_row.ensures.capacity in let b = i.2 in omega (arith, a, b)),
    )

pub returns-clause-values : goal.returns-clause-values
returns-clause-values c = λ coder.
    let k = c.args.block_state.now in
    let q : Field ℤ = λ x y. with_sign ((draft_of k).negative x y) ((draft_of k).magnitude x y) in
    c.loop-y.invariant.0 ∙ ap (λ n. rows_of q k.shape.width n) (let e : c.loop-y.y ≡ k.shape.height = omega arith in e) ∙ rows_all k.shape q
