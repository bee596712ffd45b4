use Rattle.std.proofs.Common.{◌≡◌, ℕ, ◌<◌, List, ◌∷◌, drop, Option, Some, None, slice_get, OnSome, sym, ap, ◌∙◌, subst, arith}
use Rattle.jk_walk.specs.WalkReading.{begun}
use Rattle.jk_walk.proofs.Runs.{begun_here, part_next, part_last}
use Rattle.jk_walk.proofs.parts.PartsLeft.in_hand.Goals as goal
use Rattle.jk_walk.proofs.parts.PartsLeft.in_hand.Goals.{then-loop-self-test+else-self, else-loop-self-test, then-self-2, else-self-2}

pub loop-self-preserved : goal.loop-self-preserved
loop-self-preserved c =
    let p = c.loop-self.self-inside in
    c.loop-self.invariant ∙ part_next p.at p.end p.next p.parts.now (0, 0) c.loop-self-test.true c.if-self.true

-- what is left where a part is in hand
some_left : (old : List (ℕ × ℕ)) (at stop next : ℕ) (parts : List (ℕ × ℕ)) → begun old ≡ begun ((at, stop) ∷ drop next parts) → at < stop → begun old ≡ (at, stop) ∷ drop next parts
some_left old at stop next parts e less = e ∙ begun_here (at, stop) (drop next parts) less

pub returns-clause-part : goal.returns-clause-part
returns-clause-part c =
    let p = c.loop-self.self-inside in
    elim c.if-self-2.branch [
      | then-self-2 w ↦ w.result-is ∙ ap (λ (ps : List (ℕ × ℕ)). slice_get ps 0) (sym (some_left c.args.self.now p.at p.end p.next p.parts.now c.loop-self.invariant w.if-self-2.true))
      | else-self-2 w ↦ (elim c.loop-self-test.branch [
        | then-loop-self-test+else-self v ↦ w.result-is ∙ ap (λ (ps : List (ℕ × ℕ)). slice_get ps 0) (sym (c.loop-self.invariant ∙ part_last p.at p.end p.next p.parts.now v.loop-self-test.true v.if-self.false))
        | else-loop-self-test v ↦ absurd (omega (arith, w.if-self-2.false, v.loop-self-test.false))
      ])
    ]

on_some : (r : Option (ℕ × ℕ)) (P : Type 0) → P → OnSome r P
on_some (Some x) P h = h
on_some None P h = tt

pub returns-clause-left : goal.returns-clause-left
returns-clause-left c =
    let p = c.loop-self.self-inside in
    elim c.if-self-2.branch [
      | then-self-2 w ↦ on_some c.if-self-2.result _ (sym (some_left c.args.self.now p.at p.end p.next p.parts.now c.loop-self.invariant w.if-self-2.true))
      | else-self-2 w ↦ subst (λ (r : Option (ℕ × ℕ)). OnSome r ((p.at, p.end) ∷ drop p.next p.parts.now ≡ begun c.args.self.now)) (sym w.result-is) tt
    ]
