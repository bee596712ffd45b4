-- A doubling of the registers against a doubling of the interval, and many doublings at a time.
use Rattle.std.proofs.Common.{◌≡◌, ◌∙◌, ap, sym, subst, ℕ, zero, suc, ◌+◌, ◌-◌, ◌*◌, ◌^◌, ◌<◌, ◌≤◌, inl, inr, cond, List, ltb, refl, arith}
use Rattle.std.proofs.lemmas.Bool.{cases_eq, lt-ltb, le-ltb}
use Rattle.jk_model.specs.Code.{byte_at, is_past, fed, code_places}
use Rattle.jk_model.specs.Decisions.{State, initial, doubled, renormalised, doubled_by}
use Rattle.jk_model.proofs.Laws.{places-ge, places-le, wanted-next, wanted-suc, start-zero, code_value-double, code_value-feed, code_value-grows, code_value-start, fed-is, is_past-zero}
use Rattle.jk_mqdec.specs.declared.registers.Registers.{Registers}
use Rattle.jk_mqdec.specs.Registers.{IsAt, Feeds, HoldsInterval, Supplied, IsOutside, HasLeft}
use Rattle.jk_mqdec.proofs.Shifts.{shift_first, shift_grows}

-- ---- one doubling

-- no byte is due
pub supplied-already : (b : List ℕ) (r : Registers) (s : State) → 0 < r.count → HoldsInterval b r s → Supplied b r s
supplied-already b r s k h = record {
  code = omega (arith, code_value-double b s.doublings h.last h.fed_last (omega arith));
  width = h.width;
  last = h.last;
  fed_last = omega arith;
  due_next = h.due_next;
  place = h.place;
}

-- a byte of 7 or 8 places, in the register and in the code value
same_place : (f p : ℕ) → 7 ≤ p → p ≤ 8 → 2 * (f * 2 ^ (16 - p)) ≡ 2 ^ 9 * (f * 2 ^ (8 - p))
same_place f p h k =
    elim (cases_eq p 8) [
      | inl e ↦ subst (λ q. 2 * (f * 2 ^ (16 - q)) ≡ 2 ^ 9 * (f * 2 ^ (8 - q))) (sym e) (omega arith)
      | inr n ↦ let e : 7 ≡ p = omega arith in subst (λ q. 2 * (f * 2 ^ (16 - q)) ≡ 2 ^ 9 * (f * 2 ^ (8 - q))) e (omega arith)
    ]

-- a byte was due, and was fed
pub supplied-fed : (b : List ℕ) (old new : Registers) (s : State) → old.count ≡ 0 → ((last : ℕ) → IsAt b old.place last → Feeds b old new last) → HoldsInterval b old s → Supplied b new s
supplied-fed b old new s k feeds h =
    let f = feeds h.last h.place in
    let value = code_value-feed b s.doublings h.last h.fed_last (omega (arith, h.due_next)) in
    let byte = same_place (fed b (suc h.last)) (code_places b h.last) (places-ge b h.last) (places-le b h.last) in
    record {
      code = omega (arith, f.code, h.code, value, byte);
      width = f.width ∙ h.width;
      last = suc h.last;
      fed_last = omega (arith, h.due_next);
      due_next = omega (arith, wanted-next b h.last, h.due_next, f.count);
      place = f.place;
    }

pub outside-supplied : (b : List ℕ) (r : Registers) (s : State) → HasLeft r → Supplied b r s → IsOutside b (doubled s)
outside-supplied b r s k h = omega (arith, h.code, h.width)

pub holds-twice : (b : List ℕ) (old new : Registers) (s : State) → Supplied b old s → new.code ≡ 2 * old.code → new.width ≡ 2 * old.width → new.count + 1 ≡ old.count → new.place ≡ old.place → HoldsInterval b new (doubled s)
holds-twice b old new s h code width count place = record {
  code = omega (arith, h.code);
  width = omega (arith, h.width);
  last = h.last;
  fed_last = omega (arith, h.fed_last);
  due_next = omega (arith, h.due_next);
  place = subst (λ p. IsAt b p h.last) (sym place) h.place;
}

-- ---- a renormalisation

renormalised-suc : (k : ℕ) (s : State) → renormalised (suc k) s ≡ cond (ltb s.width (2 ^ 15)) (renormalised k (doubled s)) s
unfolding renormalised
renormalised-suc k s = refl

renormalised-narrow : (k : ℕ) (s : State) → s.width < 2 ^ 15 → renormalised (suc k) s ≡ renormalised k (doubled s)
renormalised-narrow k s h =
    renormalised-suc k s ∙ ap (λ t. cond t (renormalised k (doubled s)) s) (lt-ltb s.width (2 ^ 15) h)

pub renormalised-wide : (k : ℕ) (s : State) → 2 ^ 15 ≤ s.width → renormalised k s ≡ s
unfolding renormalised
renormalised-wide zero s h = refl
renormalised-wide (suc k) s h =
    renormalised-suc k s ∙ ap (λ t. cond t (renormalised k (doubled s)) s) (le-ltb s.width (2 ^ 15) h)

outside-doubled : (b : List ℕ) (s : State) → IsOutside b s → IsOutside b (doubled s)
outside-doubled b s h = omega (arith, code_value-grows b s.doublings)

-- ---- many doublings

outside-doubled_by : (b : List ℕ) (n : ℕ) (s : State) → IsOutside b s → IsOutside b (doubled_by n s)
outside-doubled_by b zero s h = h
outside-doubled_by b (suc n) s h = outside-doubled_by b n (doubled s) (outside-doubled b s h)

pub doubled_by-add : (m n : ℕ) (s : State) → doubled_by (m + n) s ≡ doubled_by n (doubled_by m s)
doubled_by-add zero n s = ap (λ k. doubled_by k s) (let e : 0 + n ≡ n = omega arith in e)
doubled_by-add (suc m) n s = ap (λ k. doubled_by k s) (let e : suc m + n ≡ suc (m + n) = omega arith in e) ∙ doubled_by-add m n (doubled s)

-- the doublings that bring the width to 2^15 or more
pub renormalised-times : (k n : ℕ) (s : State) → n ≤ k → 2 ^ 15 ≤ s.width * 2 ^ n → s.width * 2 ^ n < 2 ^ 16 → renormalised k s ≡ doubled_by n s
renormalised-times k zero s few least most = renormalised-wide k s (omega (arith, least))
renormalised-times zero (suc n) s few least most = absurd (omega (arith, few))
renormalised-times (suc k) (suc n) s few least most =
    let first = shift_first s.width n in
    let narrow : s.width < 2 ^ 15 = (let g = shift_grows s.width 1 (suc n) (omega arith) in omega (arith, g, most)) in
    renormalised-narrow k s narrow ∙ renormalised-times k n (doubled s) (omega (arith, few)) (omega (arith, first, least)) (omega (arith, first, most))

-- no byte is due between them
pub holds-shifted : (b : List ℕ) (n : ℕ) (old new : Registers) (s : State) → HoldsInterval b old s → n ≤ old.count → new.code ≡ old.code * 2 ^ n → new.width ≡ old.width * 2 ^ n → new.count + n ≡ old.count → new.place ≡ old.place → HoldsInterval b new (doubled_by n s)
holds-shifted b zero old new s h few code width count place = record {
  code = omega (arith, h.code, code);
  width = omega (arith, h.width, width);
  last = h.last;
  fed_last = h.fed_last;
  due_next = omega (arith, h.due_next, count);
  place = subst (λ p. IsAt b p h.last) (sym place) h.place;
}
holds-shifted b (suc n) old new s h few code width count place =
    let mid : Registers = record { code = 2 * old.code; width = 2 * old.width; count = old.count - 1; place = old.place } in
    let first : HoldsInterval b mid (doubled s) = holds-twice b old mid s (supplied-already b old s (omega (arith, few)) h) refl refl (omega (arith, few)) refl in
    holds-shifted b n mid new (doubled s) first (omega (arith, few)) (code ∙ shift_first old.code n) (width ∙ shift_first old.width n) (omega (arith, count, few)) place

-- the same behind a byte that was just fed
pub supplied-shifted : (b : List ℕ) (n : ℕ) (old new : Registers) (s : State) → Supplied b old s → 0 < n → n ≤ old.count → new.code ≡ old.code * 2 ^ n → new.width ≡ old.width * 2 ^ n → new.count + n ≡ old.count → new.place ≡ old.place → HoldsInterval b new (doubled_by n s)
supplied-shifted b zero old new s h some few code width count place = absurd (omega (arith, some))
supplied-shifted b (suc n) old new s h some few code width count place =
    let mid : Registers = record { code = 2 * old.code; width = 2 * old.width; count = old.count - 1; place = old.place } in
    let first : HoldsInterval b mid (doubled s) = holds-twice b old mid s h refl refl (omega (arith, few)) refl in
    holds-shifted b n mid new (doubled s) first (omega (arith, few)) (code ∙ shift_first old.code n) (width ∙ shift_first old.width n) (omega (arith, count, few)) place

-- Of so many doublings of s some are left, and the registers hold what the others made.
pub record Comes (b : List ℕ) (now : Registers) (left times : ℕ) (s : State) : Type 0 where
  pub at : State
  pub holds : HoldsInterval b now at
  pub same : doubled_by left at ≡ doubled_by times s

pub comes-first : (b : List ℕ) (old now : Registers) (left times : ℕ) (s : State) → old.count + left ≡ times → now.code ≡ old.code * 2 ^ old.count → now.width ≡ old.width * 2 ^ old.count → now.count + old.count ≡ old.count → now.place ≡ old.place → HoldsInterval b old s → Comes b now left times s
comes-first b old now left times s all code width count place h = record {
  at = doubled_by old.count s;
  holds = holds-shifted b old.count old now s h (omega arith) code width count place;
  same = sym (doubled_by-add old.count left s) ∙ ap (λ n. doubled_by n s) all;
}

pub comes-next : (b : List ℕ) (now ready new : Registers) (n left rest times : ℕ) (s : State) → n + rest ≡ left → 0 < n → n ≤ ready.count → new.code ≡ ready.code * 2 ^ n → new.width ≡ ready.width * 2 ^ n → new.count + n ≡ ready.count → new.place ≡ ready.place
    → ((t : State) → HoldsInterval b now t → Supplied b ready t) → Comes b now left times s → Comes b new rest times s
comes-next b now ready new n left rest times s all some few code width count place feeds c = record {
  at = doubled_by n c.at;
  holds = supplied-shifted b n ready new c.at (feeds c.at c.holds) some few code width count place;
  same = sym (doubled_by-add n rest c.at) ∙ ap (λ k. doubled_by k c.at) all ∙ c.same;
}

pub comes-last : (b : List ℕ) (now : Registers) (left times : ℕ) (s : State) → left ≡ 0 → Comes b now left times s → HoldsInterval b now (doubled_by times s)
comes-last b now left times s none c = subst (λ t. HoldsInterval b now t) (ap (λ k. doubled_by k c.at) (sym none) ∙ c.same) c.holds

pub comes-outside : (b : List ℕ) (now : Registers) (left times : ℕ) (s : State) → 0 < left → ((t : State) → HoldsInterval b now t → IsOutside b (doubled t)) → Comes b now left times s → IsOutside b (doubled_by times s)
comes-outside b now left times s some step c =
    let e : suc (left - 1) ≡ left = omega (arith, some) in
    subst (λ t. IsOutside b t) (ap (λ k. doubled_by k c.at) e ∙ c.same) (outside-doubled_by b (left - 1) (doubled c.at) (step c.at c.holds))

-- ---- the start

-- the first two bytes, in the register and in the code value
first_places : (f p : ℕ) → 7 ≤ p → p ≤ 8 → f * 2 ^ (16 - p) * 2 ^ 7 ≡ 2 ^ 9 * (f * 2 ^ (14 - p))
first_places f p h k =
    elim (cases_eq p 8) [
      | inl e ↦ subst (λ q. f * 2 ^ (16 - q) * 2 ^ 7 ≡ 2 ^ 9 * (f * 2 ^ (14 - q))) (sym e) (omega arith)
      | inr n ↦ let e : 7 ≡ p = omega arith in subst (λ q. f * 2 ^ (16 - q) * 2 ^ 7 ≡ 2 ^ 9 * (f * 2 ^ (14 - q))) e (omega arith)
    ]

pub holds-initial : (b : List ℕ) (first second r : Registers) → first.code ≡ byte_at b 0 * 2 ^ 16 → first.place ≡ 0 → ((last : ℕ) → IsAt b first.place last → Feeds b first second last) → r.code ≡ second.code * 2 ^ 7 → r.width ≡ 2 ^ 31 → r.count + 7 ≡ second.count → r.place ≡ second.place → HoldsInterval b r initial
holds-initial b first second r code place feeds shifted width count same =
    let f = feeds 0 (record { before_end = ap (λ p. is_past b p) place ∙ is_past-zero b; here = inl place }) in
    let byte : fed b 0 ≡ byte_at b 0 = fed-is b 0 ∙ ap (λ t. cond t 255 (byte_at b 0)) (is_past-zero b) in
    let later = first_places (fed b 1) (code_places b 0) (places-ge b 0) (places-le b 0) in
    record {
      code = omega (arith, code_value-start b, f.code, byte, later);
      width = omega (arith, width);
      last = 1;
      fed_last = omega (arith, wanted-suc b 0, start-zero b);
      due_next = omega (arith, wanted-next b 0, wanted-suc b 0, start-zero b, f.count);
      place = subst (λ p. IsAt b p 1) (sym same) f.place;
    }
