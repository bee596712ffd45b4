-- The finished bytes have no marker in them, and further decisions place further bytes.
use Rattle.std.proofs.Common.{◌≡◌, ◌∙◌, ap, sym, subst, refl, ℕ, zero, suc, ◌+◌, ◌<◌, ◌≤◌, inl, inr, Bool, true, false, ◌||◌, cond, List, [], ◌∷◌, ◌++◌, length, eqb, ltb, arith}
use Rattle.std.proofs.lemmas.Bool.{cases_lt, cases_eq, eq-eqb, ne_eqb, and_left}
use Rattle.jk_model.specs.Code.{byte_at, is_last, is_past}
use Rattle.jk_model.specs.Decisions.{State, Decision, initial}
use Rattle.jk_model.specs.CodingPasses.{state_by_passes}
use Rattle.jk_model.proofs.Laws.{is_last-is, is_past-suc}
use Rattle.jk_mqenc.specs.Machine.{Machine, HoldsInterval}
use Rattle.jk_model.specs.Placed.{end, Clean, onto}
use Rattle.jk_mqenc.specs.Coding.{flushed}
use Rattle.jk_mqenc.specs.Deciding.{machine_by_passes, Between}
use Rattle.jk_mqenc.specs.Encoded.{started, written_by, without_last_ff, finished}
use Rattle.jk_mqenc.proofs.Machine.{holds-started}
use Rattle.jk_model.proofs.Laws.{top-ff}
use Rattle.jk_model.proofs.Laws.{byte-onto, at-placed}
use Rattle.jk_mqenc.proofs.Flush.{closes}
use Rattle.jk_mqenc.proofs.Spelled.{leads_by_passes}
use Rattle.jk_mqenc.proofs.Ending.{ends-last}
use Rattle.jk_mqenc.proofs.Prefix.{length-onto}
use Rattle.jk_mqenc.proofs.Encoding.{between-started, machine_by_passes-more, finished-is, written_by-is}

neither-left : (x y : Bool) → (x || y) ≡ false → x ≡ false
neither-left true y h = h
neither-left false y h = refl

neither-right : (x y : Bool) → (x || y) ≡ false → y ≡ false
neither-right true y h = absurd (cc)
neither-right false y h = h

-- where the data haven't ended before byte l, no byte before it ends them
last-before : (b : List ℕ) (l i : ℕ) → i < l → is_past b l ≡ false → is_last b i ≡ false
last-before b zero i h k = absurd (omega arith)
last-before b (suc l) i h k =
    let both = sym (is_past-suc b l) ∙ k in
    elim (cases_lt i l) [
      | inl m ↦ last-before b l i m (neither-left (is_past b l) (is_last b l) both)
      | inr m ↦ let e : i ≡ l = omega arith in ap (λ j. is_last b j) e ∙ neither-right (is_past b l) (is_last b l) both
    ]

-- the last byte isn't FF
last-other : (x : ℕ) (xs : List ℕ) → Clean (x ∷ xs) → (x ≡ 255 → ⊥) → (i : ℕ) → i < suc (length xs) → is_last (onto xs (x ∷ [])) i ≡ false
last-other x xs c n i h =
    let b = onto xs (x ∷ []) in
    let l = length xs in
    elim (cases_lt i l) [
      | inl m ↦ last-before b l i m (at-placed xs x [] c).before_end
      | inr m ↦
          let e : i ≡ l = omega arith in
          let here : byte_at b l ≡ x = byte-onto xs (x ∷ []) 0 l (omega arith) in
          ap (λ j. is_last b j) e ∙ is_last-is b l ∙ and_left (eqb (byte_at b l) 255) (ltb 143 (byte_at b (l + 1))) (ne_eqb (byte_at b l) 255 (λ f. n (sym here ∙ f)))
    ]

after-ff : (o : List ℕ) → Clean (255 ∷ o) → (i : ℕ) → i < length o → is_last (onto o []) i ≡ false
after-ff [] c i h = absurd (omega arith)
after-ff (y ∷ ys) c i h = last-other y ys c.1 (λ e. omega (arith, c.0, top-ff y ys e)) i h

either-unmarked : (b : ℕ) (o : List ℕ) → Clean (b ∷ o) → (i : ℕ) → i < length (without_last_ff (b ∷ o)) → is_last (onto (without_last_ff (b ∷ o)) []) i ≡ false
either-unmarked b o c i h =
    elim (cases_eq b 255) [
      | inl e ↦
          let t = ap (λ (t : Bool). cond t o (b ∷ o)) (eq-eqb b 255 e) in
          ap (λ (x : List ℕ). is_last (onto x []) i) t ∙ after-ff o (subst (λ x. Clean (x ∷ o)) e c) i (subst (λ (x : List ℕ). i < length x) t h)
      | inr n ↦
          let t = ap (λ (t : Bool). cond t o (b ∷ o)) (ne_eqb b 255 n) in
          ap (λ (x : List ℕ). is_last (onto x []) i) t ∙ last-other b o c n i (subst (λ (x : List ℕ). i < length x) t h)
    ]

without-unmarked : (f : List ℕ) → Clean f → (i : ℕ) → i < length (without_last_ff f) → is_last (onto (without_last_ff f) []) i ≡ false
without-unmarked [] c i h = absurd (omega arith)
without-unmarked (b ∷ o) c i h = either-unmarked b o c i h

-- No byte above 8F follows an FF, and the last byte isn't FF.
pub flushed-unmarked : (m : Machine) (s : State) → HoldsInterval m s → Between m s → (i : ℕ) → let b = onto (without_last_ff (flushed m).placed) [] in i < length b → is_last b i ≡ false
flushed-unmarked m s holds between i h =
    let f = (flushed m).placed in
    let c = closes m s between.count (omega (arith, between.wide, holds.width)) holds in
    let size : i < length (without_last_ff f) = omega (arith, h, length-onto (without_last_ff f) []) in
    without-unmarked f c.leads.holds.clean i size

pub finished-unmarked : (r : Bool) (dss : List (List Decision)) (i : ℕ) → i < length (finished r dss) → is_last (finished r dss) i ≡ false
finished-unmarked r dss i h =
    let by = leads_by_passes r started initial dss holds-started between-started in
    let m = machine_by_passes r started initial dss in
    ap (λ (x : List ℕ). is_last x i) (finished-is r dss)
    ∙ flushed-unmarked m (state_by_passes r initial dss) by.leads.holds by.between i (subst (λ (x : List ℕ). i < length x) (finished-is r dss) h)

-- What is placed stays placed.
pub written-grows : (r : Bool) (dss rest : List (List Decision)) → written_by r dss ≤ written_by r (dss ++ rest)
written-grows r dss rest =
    let first = leads_by_passes r started initial dss holds-started between-started in
    let m = machine_by_passes r started initial dss in
    let s = state_by_passes r initial dss in
    let second = leads_by_passes r m s rest first.leads.holds first.between in
    let more = second.leads.ends (length m.placed) (end m.placed) (ends-last m.placed) in
    omega (arith, written_by-is r dss, written_by-is r (dss ++ rest), ap (λ (n : Machine). length n.placed) (machine_by_passes-more r started initial dss rest), more.enough)
