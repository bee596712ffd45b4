-- Parts of a block's passes, each from one moment to another: what is read there is what is spelled
-- there.
use Rattle.std.proofs.Common.{◌≡◌, ℕ, zero, suc, ◌*◌, ◌/◌, ◌%◌, ◌^◌, ◌<◌, true, false, cond, List, [], ◌++◌, Result, Ok, refl, sym, ap, ◌∙◌, subst, arith}
use Rattle.std.specs.Prelude.{◌&&◌, nat_lt}
use Rattle.jk_math.specs.declared.fault.Fault.{Fault}
use Rattle.jk_math.specs.Answer.{◌>>=◌}
use Rattle.jk_math.specs.Steps.{bind_then, ok_is}
use Rattle.jk_model.specs.Decisions.{State, state_after, SpellsFrom}
use Rattle.jk_scan.specs.declared.shape.BlockShape.{BlockShape}
use Rattle.jk_scan.specs.Neighbours.{Field, is_inside}
use Rattle.jk_scan.specs.Moments.{number, spread, is_coded, significant}
use Rattle.jk_scan.specs.Passes.{BlockAtPlane, Decided, joined}
use Rattle.jk_scan.proofs.Laws.{Agree}
use Rattle.jk_block.specs.Reading.{Progress, times}
use Rattle.jk_block.proofs.Spelling.{Told, told_none, told_join, spells_parts, state_join}

-- the magnitudes so far, at a bit-plane
abbrev pub mags : BlockShape → ℕ → Progress → Field ℕ
mags s b z x y = cond (is_inside s x y) (z.magnitude x y / 2 ^ b) 0

-- Nothing is held but what is coded before the moment t of plane b.
pub record Cut (s : BlockShape) (b t : ℕ) (z : Progress) : Type 0 where
  pub whole : (x y : ℕ) → is_inside s x y ≡ true → z.magnitude x y ≡ mags s b z x y * 2 ^ b
  pub even : (x y : ℕ) → is_inside s x y ≡ true → is_coded s (mags s b z) t x y ≡ false → mags s b z x y % 2 ≡ 0
  pub visited : (x y : ℕ) → is_inside s x y ≡ true → z.visited x y ≡ (spread s (mags s b z) x y && nat_lt (number s.width x y) t)

-- What is held is what is coded of a block at plane b before the moment t.
pub record Like (s : BlockShape) (b t : ℕ) (z : Progress) (p : BlockAtPlane) : Type 0 where
  pub agree : Agree s (mags s b z) p.magnitude t
  pub outside : (x y : ℕ) → is_inside s x y ≡ false → p.magnitude x y ≡ 0
  pub signs : (x y : ℕ) → significant s (mags s b z) t x y ≡ true → z.negative x y ≡ p.negative x y

-- a part of the passes reads on
pub record Goes (s : BlockShape) (b u : ℕ) (outcome : Result Progress Fault) (p : BlockAtPlane) (coder : State) : Type 0 where
  pub next : Progress
  pub is : outcome ≡ Ok next
  pub like : Like s b u next p
  pub coder_is : next.coder ≡ coder

-- A part from the moment t to u of plane b, and its decisions.
pub record Stage (bytes : List ℕ) (s : BlockShape) (b t u : ℕ) (part : Progress → Result Progress Fault) (decisions : BlockAtPlane → Decided) : Type 0 where
  pub onward : (z z' : Progress) → Cut s b t z → part z ≡ Ok z' → Cut s b u z'
  pub back : (z z' : Progress) → Cut s b t z → part z ≡ Ok z' → (p : BlockAtPlane) → Like s b u z' p → Like s b t z p × Told bytes z.coder (decisions p) z'.coder
  pub only : (z : Progress) (p : BlockAtPlane) → Cut s b t z → Like s b t z p → SpellsFrom bytes z.coder (decisions p) → Goes s b u (part z) p (state_after bytes z.coder (decisions p))

pub stage_none : (bytes : List ℕ) (s : BlockShape) (b t : ℕ) → Stage bytes s b t t (λ z. Ok z) (λ _. [])
stage_none bytes s b t = record {
  onward = λ z z' c e. subst (λ (z : Progress). Cut s b t z) (ok_is z z' e) c;
  back = λ z z' c e p l. let i = sym (ok_is z z' e) in (subst (λ (z : Progress). Like s b t z p) i l, subst (λ (w : Progress). Told bytes z.coder [] w.coder) (ok_is z z' e) (told_none bytes z.coder));
  only = λ z p c l h. record { next = z; is = refl; like = l; coder_is = refl };
}

pub stage_then : (bytes : List ℕ) (s : BlockShape) (b t u v : ℕ) (f g : Progress → Result Progress Fault) (d e : BlockAtPlane → Decided)
    → Stage bytes s b t u f d → Stage bytes s b u v g e → Stage bytes s b t v (λ z. f z >>= g) (λ p. d p ++ e p)
stage_then bytes s b t u v f g d e first second = record {
  onward = λ z z' c h. bind_then (f z) g z' h (λ m a r. second.onward m z' (first.onward z m c a) r);
  back = λ z z' c h p l. bind_then (f z) g z' h (λ m a r.
      let two = second.back m z' (first.onward z m c a) r p l in
      let one = first.back z m c a p two.0 in
      (one.0, told_join bytes z.coder m.coder z'.coder (d p) (e p) one.1 two.1));
  only = λ z p c l h.
      let parts = spells_parts bytes z.coder (d p) (e p) h in
      let one = first.only z p c l parts.0 in
      let two = second.only one.next p (first.onward z one.next c one.is) one.like (subst (λ (w : State). SpellsFrom bytes w (e p)) (sym one.coder_is) parts.1) in
      record {
        next = two.next;
        is = ap (λ (r : Result Progress Fault). r >>= g) one.is ∙ two.is;
        like = two.like;
        coder_is = two.coder_is ∙ ap (λ (w : State). state_after bytes w (e p)) one.coder_is ∙ sym (state_join bytes z.coder (d p) (e p));
      };
}

pub stage_times : (bytes : List ℕ) (s : BlockShape) (b : ℕ) (t : ℕ → ℕ) (f : ℕ → Progress → Result Progress Fault) (d : ℕ → BlockAtPlane → Decided) (n : ℕ)
    → ((k : ℕ) → k < n → Stage bytes s b (t k) (t (suc k)) (f k) (d k)) → Stage bytes s b (t 0) (t n) (times n f) (λ p. joined n (λ k. d k p))
unfolding times joined
stage_times bytes s b t f d zero steps = stage_none bytes s b (t 0)
stage_times bytes s b t f d (suc n) steps =
    stage_then bytes s b (t 0) (t n) (t (suc n)) (times n f) (f n) (λ p. joined n (λ k. d k p)) (d n)
    (stage_times bytes s b t f d n (λ k h. steps k (omega arith))) (steps n (omega arith))

-- the moments by other terms
pub stage_at : (bytes : List ℕ) (s : BlockShape) (b t u t' u' : ℕ) (f : Progress → Result Progress Fault) (d : BlockAtPlane → Decided) → t ≡ t' → u ≡ u' → Stage bytes s b t u f d → Stage bytes s b t' u' f d
stage_at bytes s b t u t' u' f d e g h = subst (λ (x : ℕ). Stage bytes s b t' x f d) g (subst (λ (x : ℕ). Stage bytes s b x u f d) e h)
