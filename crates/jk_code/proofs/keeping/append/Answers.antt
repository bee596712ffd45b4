use Rattle.std.proofs.Common.{◌≡◌, ◌<◌, ℤ, List, [], ◌++◌, length, get_or, set, sym, ap, ◌∙◌, inl, inr, arith}
use Rattle.std.proofs.lemmas.Bool.{cases_eq}
use Rattle.std.proofs.lemmas.List.{length-set}
use Rattle.jk_tile.proofs.Laws.{put_here, put_there, vector_items}
use Rattle.jk_code.specs.Tiles.{plane_in}
use Rattle.jk_code.proofs.keeping.append.Goals as goal

pub loop-c-preserved : goal.loop-c-preserved
loop-c-preserved c =
    let inv = c.loop-c.invariant in
    let planes = c.loop-c.planes.items in
    let i = c.loop-c.c in
    let put = c.extend_from_slice.new.self in
    let stripe = c.args.stripe.now in
    let inside : i < length planes = omega (arith, c.loop-c-test.true, inv.end_is, inv.count) in
    let old : c.index_mut.result.now.items ≡ plane_in c.args.planes.now.items i = vector_items planes i c.index_mut.result.now inside c.index_mut.ensures.value ∙ inv.left i (omega arith) in
    let here : put.items ≡ plane_in c.args.planes.now.items i ++ get_or stripe i [] =
    c.in_ok-extend_from_slice.ensures.items ∙ ap (λ (xs : List ℤ). xs ++ c.plane.result.now) old ∙ ap (λ (xs : List ℤ). plane_in c.args.planes.now.items i ++ xs) c.plane.ensures in
    record {
      end_is = inv.end_is;
      count = length-set planes i put ∙ inv.count;
      done = λ k lt. elim (cases_eq k i) [
        | inl same ↦ ap (plane_in (set planes i put)) same ∙ put_here planes i put inside ∙ here ∙ ap (λ n. plane_in c.args.planes.now.items n ++ get_or stripe n []) (sym same)
        | inr other ↦ put_there planes i k put (λ is. other is) ∙ inv.done k (omega (arith, lt, other))
      ];
      left = λ k le. put_there planes i k put (λ is. omega (arith, le, is)) ∙ inv.left k (omega (arith, le));
    }
