-- The three cases of BYTEIN against the definition of the bytes that are fed.
use Rattle.std.proofs.Common.{◌≡◌, ◌∙◌, ap, sym, subst, ℕ, zero, suc, ◌+◌, ◌-◌, ◌*◌, ◌^◌, ◌%◌, ◌<◌, ◌≤◌, inl, inr, Bool, true, false, not, cond, ◌&&◌, ◌||◌, List, eqb, ltb, refl, arith}
use Rattle.std.proofs.lemmas.Bool.{cases_lt, and_parts, and_from, and_left, and_right, ne_eqb, eqb-true, ltb-true, lt-ltb, le-ltb, false≢true}
use Rattle.jk_model.specs.Code.{byte_at, is_last, is_past, fed, code_places}
use Rattle.jk_model.proofs.Laws.{is_past-suc, fed-is, places-is}
use Rattle.jk_mqdec.specs.declared.registers.Registers.{Registers}
use Rattle.jk_mqdec.specs.Registers.{IsAt, Feeds}

is_last-is : (b : List ℕ) (i : ℕ) → is_last b i ≡ (eqb (byte_at b i) 255 && ltb 143 (byte_at b (i + 1)))
unfolding is_last
is_last-is b i = refl

or_right : (x y : Bool) → y ≡ true → (x || y) ≡ true
or_right true y h = refl
or_right false y h = h

or_left : (x y : Bool) → x ≡ true → (x || y) ≡ true
or_left true y h = refl
or_left false y h = absurd (false≢true h)

or_neither : (x y : Bool) → x ≡ false → y ≡ false → (x || y) ≡ false
or_neither true y h k = h
or_neither false y h k = k

past-after : (b : List ℕ) (p l : ℕ) → is_last b p ≡ true → p < l → is_past b l ≡ true
past-after b p zero h k = absurd (omega arith)
past-after b p (suc l) h k =
    is_past-suc b l ∙ elim (cases_lt p l) [
      | inl m ↦ or_left (is_past b l) (is_last b l) (past-after b p l h m)
      | inr m ↦ let e : l ≡ p = omega arith in or_right (is_past b l) (is_last b l) (ap (λ i. is_last b i) e ∙ h)
    ]

-- what the byte after byte last is, how long byte last is, and where the next one is sought
record Next (b : List ℕ) (last byte count place : ℕ) : Type 0 where
  byte_is : fed b (suc last) ≡ byte
  count_is : code_places b last ≡ count
  place_is : IsAt b place (suc last)

-- the byte is read, where the data go on
read : (b : List ℕ) (p : ℕ) → is_past b p ≡ false → is_last b p ≡ false → (fed b (suc p) ≡ byte_at b (p + 1)) × IsAt b (p + 1) (suc p)
read b p h k =
    let one : suc p ≡ p + 1 = omega arith in
    let still : is_past b (suc p) ≡ false = is_past-suc b p ∙ or_neither (is_past b p) (is_last b p) h k in (
      fed-is b (suc p) ∙ ap (λ t. cond t 255 (byte_at b (suc p))) still ∙ ap (λ i. byte_at b i) one,
      record {
        before_end = subst (λ i. is_past b i ≡ false) one still;
        here = inl (sym one);
      },
    )

long : (b : List ℕ) (l : ℕ) (t : Bool) → (eqb (fed b l) 255 && not (is_past b (suc l))) ≡ t → code_places b l ≡ cond t 7 8
long b l t h = places-is b l ∙ ap (λ x. cond x 7 8) h

plain-here : (b : List ℕ) (p : ℕ) → is_past b p ≡ false → (byte_at b p ≡ 255 → ⊥) → Next b p (byte_at b (p + 1)) 8 (p + 1)
plain-here b p h k =
    let not_ff = ne_eqb (byte_at b p) 255 k in
    let unended = is_last-is b p ∙ and_left (eqb (byte_at b p) 255) (ltb 143 (byte_at b (p + 1))) not_ff in
    let r = read b p h unended in
    let here : fed b p ≡ byte_at b p = fed-is b p ∙ ap (λ t. cond t 255 (byte_at b p)) h in
    record {
      byte_is = r.0;
      count_is = long b p false (and_left (eqb (fed b p) 255) (not (is_past b (suc p))) (ap (λ x. eqb x 255) here ∙ not_ff));
      place_is = r.1;
    }

stuffed-here : (b : List ℕ) (p : ℕ) → is_past b p ≡ false → byte_at b p ≡ 255 → byte_at b (p + 1) ≤ 143 → Next b p (byte_at b (p + 1)) 7 (p + 1)
stuffed-here b p h k m =
    let unended = is_last-is b p ∙ and_right (eqb (byte_at b p) 255) (ltb 143 (byte_at b (p + 1))) (le-ltb 143 (byte_at b (p + 1)) m) in
    let r = read b p h unended in
    let here : fed b p ≡ 255 = fed-is b p ∙ ap (λ t. cond t 255 (byte_at b p)) h ∙ k in
    let still : is_past b (suc p) ≡ false = is_past-suc b p ∙ or_neither (is_past b p) (is_last b p) h unended in
    record {
      byte_is = r.0;
      count_is = long b p true (and_from (eqb (fed b p) 255) (not (is_past b (suc p))) (ap (λ x. eqb x 255) here) (ap not still));
      place_is = r.1;
    }

-- past the end ones are fed
ended : (b : List ℕ) (p l : ℕ) → is_past b p ≡ false → is_last b p ≡ true → p ≤ l → Next b l 255 8 p
ended b p l h k m =
    let past = past-after b p (suc l) k (omega arith) in
    record {
      byte_is = fed-is b (suc l) ∙ ap (λ t. cond t 255 (byte_at b (suc l))) past;
      count_is = long b l false (and_right (eqb (fed b l) 255) (not (is_past b (suc l))) (ap not past));
      place_is = record { before_end = h; here = inr (omega arith, k) };
    }

plain : (b : List ℕ) (p l : ℕ) → IsAt b p l → (byte_at b p ≡ 255 → ⊥) → Next b l (byte_at b (p + 1)) 8 (p + 1)
plain b p l at k =
    elim at.here [
      | inl e ↦ subst (λ i. Next b i (byte_at b (p + 1)) 8 (p + 1)) e (plain-here b p at.before_end k)
      | inr m ↦ absurd (k (eqb-true (byte_at b p) 255 (and_parts _ _ (sym (is_last-is b p) ∙ m.1)).0))
    ]

goes_on : (b : List ℕ) (p : ℕ) → byte_at b (p + 1) ≤ 143 → is_last b p ≡ true → ⊥
goes_on b p n h =
    let above = ltb-true 143 (byte_at b (p + 1)) (and_parts (eqb (byte_at b p) 255) (ltb 143 (byte_at b (p + 1))) (sym (is_last-is b p) ∙ h)).1 in
    omega arith

stuffed : (b : List ℕ) (p l : ℕ) → IsAt b p l → byte_at b p ≡ 255 → byte_at b (p + 1) ≤ 143 → Next b l (byte_at b (p + 1)) 7 (p + 1)
stuffed b p l at k n =
    elim at.here [
      | inl e ↦ subst (λ i. Next b i (byte_at b (p + 1)) 7 (p + 1)) e (stuffed-here b p at.before_end k n)
      | inr m ↦ absurd (goes_on b p n m.1)
    ]

at-end : (b : List ℕ) (p l : ℕ) → IsAt b p l → byte_at b p ≡ 255 → 143 < byte_at b (p + 1) → Next b l 255 8 p
at-end b p l at k n =
    let last = is_last-is b p ∙ and_from (eqb (byte_at b p) 255) (ltb 143 (byte_at b (p + 1))) (ap (λ x. eqb x 255) k) (lt-ltb 143 (byte_at b (p + 1)) n) in
    let m : p ≤ l = elim at.here [ inl e ↦ omega arith | inr h ↦ omega (arith, h.0) ] in
    ended b p l at.before_end last m

feeds : (b : List ℕ) (old new : Registers) (last byte count : ℕ) → Next b last byte count new.place → new.code ≡ old.code + byte * 2 ^ (16 - count) → new.width ≡ old.width → new.count ≡ count → Feeds b old new last
feeds b old new last byte count next code width count_is = record {
  code = code ∙ ap (λ x. old.code + x * 2 ^ (16 - count)) (sym next.byte_is) ∙ ap (λ x. old.code + fed b (suc last) * 2 ^ (16 - x)) (sym next.count_is);
  width = width;
  count = count_is ∙ sym next.count_is;
  place = next.place_is;
}

-- a byte that isn't FF
pub feeds-plain : (b : List ℕ) (old new : Registers) (byte next : ℕ) → byte ≡ byte_at b old.place → next ≡ byte_at b (old.place + 1) → next < 256 → (byte ≡ 255 → ⊥) → new.code ≡ old.code + next * 256 % 2 ^ 32 → new.width ≡ old.width → new.count ≡ 8 → new.place ≡ old.place + 1 → (last : ℕ) → IsAt b old.place last → Feeds b old new last
feeds-plain b old new byte next e n small h code width count place last at =
    let there = subst (λ p. Next b last (byte_at b (old.place + 1)) 8 p) (sym place) (plain b old.place last at (λ k. h (e ∙ k))) in
    feeds b old new last (byte_at b (old.place + 1)) 8 there (omega arith) width count

-- a byte up to 8F after FF
pub feeds-stuffed : (b : List ℕ) (old new : Registers) (byte next : ℕ) → byte ≡ byte_at b old.place → next ≡ byte_at b (old.place + 1) → byte ≡ 255 → next ≤ 143 → new.code ≡ old.code + next * 512 % 2 ^ 32 → new.width ≡ old.width → new.count ≡ 7 → new.place ≡ old.place + 1 → (last : ℕ) → IsAt b old.place last → Feeds b old new last
feeds-stuffed b old new byte next e n h small code width count place last at =
    let there = subst (λ p. Next b last (byte_at b (old.place + 1)) 7 p) (sym place) (stuffed b old.place last at (sym e ∙ h) (omega arith)) in
    feeds b old new last (byte_at b (old.place + 1)) 7 there (omega arith) width count

-- the end of the data
pub feeds-end : (b : List ℕ) (old new : Registers) (byte next : ℕ) → byte ≡ byte_at b old.place → next ≡ byte_at b (old.place + 1) → byte ≡ 255 → 143 < next → new.code ≡ old.code + 65280 → new.width ≡ old.width → new.count ≡ 8 → new.place ≡ old.place → (last : ℕ) → IsAt b old.place last → Feeds b old new last
feeds-end b old new byte next e n h above code width count place last at =
    let there = subst (λ p. Next b last 255 8 p) (sym place) (at-end b old.place last at (sym e ∙ h) (omega arith)) in
    feeds b old new last 255 8 there (omega arith) width count

-- the byte behind one that isn't FF
pub plain-next : (b : List ℕ) (p l : ℕ) → IsAt b p l → byte_at b p < 255 → (fed b (suc l) ≡ byte_at b (p + 1)) × (code_places b l ≡ 8) × IsAt b (p + 1) (suc l)
plain-next b p l at k = let n = plain b p l at (λ e. omega (arith, e, k)) in (n.byte_is, n.count_is, n.place_is)
