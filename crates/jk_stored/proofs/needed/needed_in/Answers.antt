use Rattle.std.proofs.Common.{List, [], ◌∷◌, length, get_or, ap, sym, subst, arith}
use Rattle.std.proofs.lemmas.List.{length-append}
use Rattle.jk_stored.specs.declared.needed.NeededIn.{NeededIn}
use Rattle.jk_stored.specs.Contents.{IsNeededIn}
use Rattle.jk_stored.proofs.NeededLaws.{pushed}
use Rattle.jk_stored.proofs.needed.needed_in.Goals as goal

pub loop-number-preserved : goal.loop-number-preserved
loop-number-preserved c =
    let s = c.args.shape.now in
    let n = c.loop-number.number in
    let old = c.loop-number.all.items in
    let x = c.needed_at.result in
    let now = c.loop-number.invariant in
    let is = c.in_ok-push.ensures.items in
    let one = length-append old (x ∷ []) in
    let count = now.count in
    let more = ap (λ (l : List NeededIn). length l) is in
    record {
      count = omega (arith, one, count, more);
      each = λ i other lt. subst (λ (l : List NeededIn). IsNeededIn s c.args.top.now c.args.reduce i (get_or l i other)) (sym is)
          (pushed (λ k y. IsNeededIn s c.args.top.now c.args.reduce k y) old n x now.count now.each c.needed_at.ensures i other lt);
    }
