use Rattle.std.proofs.Common.{◌++◌, ◌∷◌, [], ℤ, List, map, sym, ap, ◌∙◌, append_assoc, arith}
use Rattle.std.specs.List.{range_with_len}
use Rattle.std.proofs.lemmas.List.FromFn.{map-range_with_len_more}
use Rattle.jk_block.specs.decoding.Eights.{value_of}
use Rattle.jk_block.proofs.decoding.Eights.{value_back}
use Rattle.jk_block.proofs.decoding.coefficients.append_by.Goals as goal

pub loop-c-preserved : goal.loop-c-preserved
loop-c-preserved c =
    let f = value_of c.args.eight in
    let n = c.loop-c.c in
    let i = c.loop-c.invariant in (
      c.push_reserved.ensures.items ∙ ap (λ (v : ℤ). c.loop-c.values.items ++ v ∷ []) (value_back c.args.eight n c.coefficient.result c.coefficient.ensures) ∙ ap (λ (vs : List ℤ). vs ++ f n ∷ []) i.0
          ∙ append_assoc c.args.values.now.items (map f (range_with_len 0 n)) (f n ∷ [])
          ∙ ap (λ (vs : List ℤ). c.args.values.now.items ++ vs) (sym (map-range_with_len_more f 0 n n (omega arith))),
      let a = c.push_reserved.ensures.len in let b = i.1 in omega (arith, a, b),
      c.push_reserved.ensures.capacity ∙ i.2,
    )
