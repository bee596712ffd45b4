-- Where the first bytes that were placed end.
use Rattle.std.proofs.Common.{◌≡◌, ◌∙◌, ap, sym, subst, refl, ℕ, zero, suc, ◌+◌, ◌-◌, ◌*◌, ◌≤◌, inl, inr, List, [], ◌∷◌, length, drop, arith}
use Rattle.jk_model.specs.Decisions.{State}
use Rattle.jk_model.specs.Placed.{gap, end}
use Rattle.jk_mqenc.specs.Machine.{Machine, byte_out, HoldsInterval}
use Rattle.jk_mqenc.specs.Since.{EndsBytes}
use Rattle.jk_model.proofs.Laws.{after_ff, plain, follows}
use Rattle.jk_mqenc.proofs.ByteOut.{IsCarried, settled}

pub ends-last : (bs : List ℕ) → EndsBytes (length bs) (end bs) bs
ends-last bs = record {
  enough = omega arith;
  ends = let e : length bs - length bs ≡ 0 = omega arith in ap (λ i. end (drop i bs)) e;
}

ends-with_byte : (w e x : ℕ) (bs : List ℕ) → EndsBytes w e bs → EndsBytes w e (x ∷ bs)
ends-with_byte w e x bs h = record {
  enough = omega (arith, h.enough);
  ends = let s : length (x ∷ bs) - w ≡ suc (length bs - w) = omega (arith, h.enough) in ap (λ i. end (drop i (x ∷ bs))) s ∙ h.ends;
}

same-end : (b c : ℕ) (o : List ℕ) (i : ℕ) → end (drop i (b ∷ o)) ≡ end (drop i (c ∷ o))
same-end b c o zero = refl
same-end b c o (suc i) = refl

ends-carried : (w e : ℕ) (old new : List ℕ) → IsCarried old new → EndsBytes w e old → EndsBytes w e new
ends-carried w e old new h k =
    elim h [
      | inl s ↦ subst (λ (x : List ℕ). EndsBytes w e x) (sym s) k
      | inr p ↦
          let was = subst (λ (x : List ℕ). EndsBytes w e x) p.2 k in
          subst (λ (x : List ℕ). EndsBytes w e x) (sym p.3) (record {
            enough = was.enough;
            ends = same-end (suc p.0) p.0 p.1 (length (p.0 ∷ p.1) - w) ∙ was.ends;
          })
    ]

pub ends-byte_out : (w e : ℕ) (m : Machine) (s : State) → m.count ≡ 0 → HoldsInterval m s → EndsBytes w e m.placed → EndsBytes w e (byte_out m).placed
ends-byte_out w e m s z i h =
    let r = settled m s z i in
    subst (λ (n : Machine). EndsBytes w e n.placed) (sym r.is) (ends-with_byte w e _ r.bytes (ends-carried w e m.placed r.bytes r.from h))

long-gap : (bs : List ℕ) → 7 ≤ gap bs
long-gap bs = elim (follows bs) [ after_ff g t ↦ omega arith | plain g t ↦ omega arith ]

-- each further byte is seven places or more
end-drop : (bs : List ℕ) (i k : ℕ) → i + k ≤ length bs → end (drop (i + k) bs) + 7 * k ≤ end (drop i bs)
end-drop [] i k h = let e : k ≡ 0 = omega arith in let f : i + k ≡ i = omega arith in omega (arith, ap (λ j. end (drop j [])) f)
end-drop (x ∷ xs) zero zero h = omega arith
end-drop (x ∷ xs) zero (suc k) h =
    let e : 0 + suc k ≡ suc (0 + k) = omega arith in
    omega (arith, ap (λ j. end (drop j (x ∷ xs))) e, end-drop xs 0 k (omega arith), long-gap xs)
end-drop (x ∷ xs) (suc i) k h =
    let e : suc i + k ≡ suc (i + k) = omega arith in
    omega (arith, ap (λ j. end (drop j (x ∷ xs))) e, end-drop xs i k (omega arith))

-- z bytes, four more than w
pub end-of_more : (w e z : ℕ) (bs : List ℕ) → EndsBytes w e bs → w + 4 ≤ z → z ≤ length bs → e + 28 ≤ end (drop (length bs - z) bs)
end-of_more w e z bs h k l =
    let i = length bs - z in
    let s : i + (z - w) ≡ length bs - w = omega arith in
    omega (arith, end-drop bs i (z - w) (omega arith), ap (λ j. end (drop j bs)) s, h.ends)
