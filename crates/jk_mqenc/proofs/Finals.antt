-- Parts of the finished bytes, as long as contracts say.
use Rattle.std.proofs.Common.{◌≡◌, ◌∙◌, ap, sym, subst, refl, ℕ, zero, suc, ◌+◌, ◌-◌, ◌≤◌, inl, inr, Bool, true, false, cond, List, [], ◌∷◌, ◌++◌, length, take, drop, get_or, eqb, arith}
use Rattle.std.proofs.lemmas.Bool.{cases_lt}
use Rattle.std.proofs.lemmas.List.{take_all}
use Rattle.jk_model.specs.Decisions.{Decision, initial}
use Rattle.jk_model.specs.CodingPasses.{state_by_passes, SpellsPasses}
use Rattle.jk_model.proofs.Laws.{passes-split, passes-alike, alike-ff}
use Rattle.jk_mqenc.specs.Machine.{Machine}
use Rattle.jk_model.specs.Placed.{onto}
use Rattle.jk_mqenc.specs.Coding.{flushed}
use Rattle.jk_mqenc.specs.Deciding.{machine_by_passes}
use Rattle.jk_mqenc.specs.Encoded.{started, written_by, without_last_ff, finished}
use Rattle.jk_mqenc.proofs.Machine.{holds-started}
use Rattle.jk_mqenc.proofs.Prefix.{spelled-part, take-part, length-onto}
use Rattle.jk_mqenc.proofs.Encoding.{between-started, machine_by_passes-more, finished-is, written_by-is, finished-spells}

-- ---- a last FF that is left off

either-part : (b : ℕ) (o : List ℕ) (z : ℕ) (t : Bool) → z ≤ length (cond t o (b ∷ o)) → drop (length (cond t o (b ∷ o)) - z) (cond t o (b ∷ o)) ≡ drop (suc (length o) - z) (b ∷ o)
either-part b o z true h = let s : suc (length o) - z ≡ suc (length o - z) = omega arith in sym (ap (λ i. drop i (b ∷ o)) s)
either-part b o z false h = refl

same-part : (f : List ℕ) (z : ℕ) → z ≤ length (without_last_ff f) → drop (length (without_last_ff f) - z) (without_last_ff f) ≡ drop (length f - z) f
same-part [] z h = refl
same-part (b ∷ o) z h = either-part b o z (eqb b 255) h

either-length : (b : ℕ) (o : List ℕ) (t : Bool) → length (cond t o (b ∷ o)) ≤ suc (length o)
either-length b o true = omega arith
either-length b o false = omega arith

without-shorter : (f : List ℕ) → length (without_last_ff f) ≤ length f
without-shorter [] = omega arith
without-shorter (b ∷ o) = either-length b o (eqb b 255)

-- ---- parts

abbrev whole : Bool → (dss rest : List (List Decision)) → List ℕ
whole r dss rest = (flushed (machine_by_passes r (machine_by_passes r started initial dss) (state_by_passes r initial dss) rest)).placed

finished-whole : (r : Bool) (dss rest : List (List Decision)) → finished r (dss ++ rest) ≡ onto (without_last_ff (whole r dss rest)) []
finished-whole r dss rest =
    finished-is r (dss ++ rest) ∙ ap (λ (m : Machine). onto (without_last_ff (flushed m).placed) []) (machine_by_passes-more r started initial dss rest)

-- a part shorter than the whole
part-spells : (r : Bool) (dss rest : List (List Decision)) (z : ℕ) → written_by r dss + 4 ≤ z → z ≤ length (without_last_ff (whole r dss rest)) → SpellsPasses r (take z (onto (without_last_ff (whole r dss rest)) [])) dss
part-spells r dss rest z h k =
    let f = whole r dss rest in
    let part = take-part (without_last_ff f) z k ∙ ap (λ (x : List ℕ). onto x []) (same-part f z k) in
    subst (λ (b : List ℕ). SpellsPasses r b dss) (sym part) (spelled-part r started initial dss rest z (onto (drop (length f - z) f) []) holds-started between-started (omega (arith, h, written_by-is r dss)) (omega (arith, k, without-shorter f)) (λ i. refl))

-- What is four bytes longer than was written after some passes spells these, whatever was coded
-- after them.
pub finished-prefix : (r : Bool) (dss rest : List (List Decision)) (z : ℕ) → written_by r dss + 4 ≤ z → SpellsPasses r (take z (finished r (dss ++ rest))) dss
finished-prefix r dss rest z h =
    let g = without_last_ff (whole r dss rest) in
    let same = finished-whole r dss rest in
    subst (λ (b : List ℕ). SpellsPasses r (take z b) dss) (sym same) (elim (cases_lt z (length g)) [
      | inl l ↦ part-spells r dss rest z h (omega (arith, l))
      | inr l ↦
          let all = (passes-split r (onto g []) initial dss rest (subst (λ (b : List ℕ). SpellsPasses r b (dss ++ rest)) same (finished-spells r (dss ++ rest)))).0 in
          subst (λ (b : List ℕ). SpellsPasses r b dss) (sym (take_all z (onto g []) (omega (arith, l, length-onto g [])))) all
    ])

take-next : (v : List ℕ) (i : ℕ) → get_or v i 0 ≡ 255 → take (suc i) v ≡ take i v ++ 255 ∷ []
take-next [] i h = absurd (omega (arith, h))
take-next (x ∷ xs) zero h = ap (λ (y : ℕ). y ∷ []) h
take-next (x ∷ xs) (suc i) h = ap (λ (ys : List ℕ). x ∷ ys) (take-next xs i h)

-- A last FF of the part can be left off.
pub finished-shorter : (r : Bool) (dss rest : List (List Decision)) (z : ℕ) → written_by r dss + 4 ≤ z → get_or (finished r (dss ++ rest)) (z - 1) 0 ≡ 255 → SpellsPasses r (take (z - 1) (finished r (dss ++ rest))) dss
finished-shorter r dss rest z h k =
    let v = finished r (dss ++ rest) in
    let one : z ≡ suc (z - 1) = omega (arith, h) in
    let e = ap (λ i. take i v) one ∙ take-next v (z - 1) k in
    passes-alike r (take (z - 1) v ++ 255 ∷ []) (take (z - 1) v) (alike-ff (take (z - 1) v)) initial dss (subst (λ (b : List ℕ). SpellsPasses r b dss) e (finished-prefix r dss rest z h))
