-- The wide registers: the subinterval that they tell, doublings, bytes fed ahead, and the way from
-- the narrow registers and back to them.
use Rattle.std.proofs.Common.{◌≡◌, ◌∙◌, ap, sym, subst, ℕ, zero, suc, ◌+◌, ◌-◌, ◌*◌, ◌/◌, ◌^◌, ◌<◌, ◌≤◌, inl, inr, List, arith}
use Rattle.std.proofs.Math.Nat.{mul-le-mul_right}
use Rattle.std.proofs.Math.Pow.{pow_mono}
use Rattle.std.proofs.lemmas.Nat.{pow-add}
use Rattle.std.proofs.lemmas.Bool.{cases_lt}
use Rattle.jk_model.specs.Code.{byte_at, fed, code_places, start, wanted, share, shares, code_value}
use Rattle.jk_model.specs.Decisions.{State, doubled, renormalised, doubled_by}
use Rattle.jk_model.proofs.Laws.{places-ge, wanted-next, wanted-suc, wanted-zero, start-suc, share-in, shares-zero, shares-suc, code_value-upto, code_value-double, code_value-feed, code_value-grows}
use Rattle.jk_mqdec.specs.declared.registers.Registers.{Registers}
use Rattle.jk_mqdec.specs.declared.wide.WideRegisters.{WideRegisters}
use Rattle.jk_mqdec.specs.Registers.{IsAt, HoldsInterval}
use Rattle.jk_mqdec.specs.Wide.{IsHeld, HoldsWide}
use Rattle.jk_mqdec.proofs.Shifts.{shift_first, shift_less, shift_twice}
use Rattle.jk_mqdec.proofs.Doubling.{renormalised-times}
use Rattle.jk_mqdec.proofs.Feeding.{plain-next}

-- ---- the code value over many doublings

-- while no byte is wanted it doubles
pub value-doubles : (b : List ℕ) (n i k : ℕ) → wanted b i ≤ n + 14 → n + k + 14 < wanted b (suc i) → code_value b (n + k) ≡ code_value b n * 2 ^ k
value-doubles b n i zero h w =
    let e = ap (λ m. code_value b m) (let e : n + 0 ≡ n = omega arith in e) in
    omega (arith, e)
value-doubles b n i (suc k) h w =
    let e = ap (λ m. code_value b m) (let e : n + suc k ≡ n + k + 1 = omega arith in e) in
    let before = value-doubles b n i k h (omega (arith, w)) in
    let one = code_value-double b (n + k) i (omega (arith, h)) (omega (arith, w)) in
    let first = shift_first (code_value b n) k in
    omega (arith, e, before, one, first)

-- it never loses
pub value-grows : (b : List ℕ) (n k : ℕ) → code_value b n * 2 ^ k ≤ code_value b (n + k)
value-grows b n zero =
    let e = ap (λ m. code_value b m) (let e : n + 0 ≡ n = omega arith in e) in
    omega (arith, e)
value-grows b n (suc k) =
    let e = ap (λ m. code_value b m) (let e : n + suc k ≡ n + k + 1 = omega arith in e) in
    let before = value-grows b n k in
    let one = code_value-grows b (n + k) in
    let first = shift_first (code_value b n) k in
    omega (arith, e, before, one, first)

-- ---- which subinterval

-- code below a number
pub held-below : (b : List ℕ) (code width count place q : ℕ) (s : State) → IsHeld b code width count place s → code < q * 2 ^ 48 → code_value b s.doublings < 128 * (s.low + q)
held-below b code width count place q s h k =
    let less = shift_less (code + 2 ^ 48 * s.low) (q * 2 ^ 48 + 2 ^ 48 * s.low) count (omega (arith, k)) in
    let scaled : (q * 2 ^ 48 + 2 ^ 48 * s.low) * 2 ^ count ≡ 2 ^ 41 * (128 * (s.low + q) * 2 ^ count) = grind arith in
    let grows = value-grows b s.doublings count in
    let is = h.code_is in
    elim (cases_lt (code_value b s.doublings) (128 * (s.low + q))) [
      | inl below ↦ below
      | inr above ↦ let more = mul-le-mul_right (2 ^ count) above in absurd (omega (arith, less, scaled, grows, is, more))
    ]

-- code at a number or above it
pub held-above : (b : List ℕ) (code width count place q : ℕ) (s : State) → IsHeld b code width count place s → q * 2 ^ 48 ≤ code → 128 * (s.low + q) ≤ code_value b s.doublings
held-above b code width count place q s h k =
    let more : (q * 2 ^ 48 + 2 ^ 48 * s.low) * 2 ^ count ≤ (code + 2 ^ 48 * s.low) * 2 ^ count = mul-le-mul_right (2 ^ count) (let e : q * 2 ^ 48 + 2 ^ 48 * s.low ≤ code + 2 ^ 48 * s.low = omega (arith, k) in e) in
    let scaled : (q * 2 ^ 48 + 2 ^ 48 * s.low) * 2 ^ count ≡ 2 ^ 41 * (128 * (s.low + q) * 2 ^ count) = grind arith in
    let is = h.code_is in
    let here = ap (λ m. code_value b m) (let e : s.doublings + 0 ≡ s.doublings = omega arith in e) in
    elim (cases_lt (code_value b s.doublings) (128 * (s.low + q))) [
      | inl below ↦
          let near = h.near 0 (s.low + q) (omega arith) (omega (arith, here, below)) in
          let all = ap (λ k. 128 * (s.low + q) * 2 ^ k) (let e : count - 0 ≡ count = omega arith in e) in
          absurd (omega (arith, more, scaled, is, near, all))
      | inr above ↦ above
    ]

-- ---- doublings

held-once : (b : List ℕ) (code width count place : ℕ) (s : State) → IsHeld b code width (suc count) place s → IsHeld b (2 * code) (2 * width) count place (doubled s)
held-once b code width count place s h =
    let e : s.doublings + suc count ≡ s.doublings + 1 + count = omega arith in
    let value = ap (λ m. code_value b m) e in
    let twice = shift_first (code + 2 ^ 48 * s.low) count in
    let scaled : (2 * code + 2 ^ 48 * (2 * s.low)) * 2 ^ count ≡ 2 * (code + 2 ^ 48 * s.low) * 2 ^ count = grind arith in
    let is = h.code_is in
    let width_is = h.width_is in
    let fed_last = h.fed_last in
    let due_next = h.due_next in
    record {
      code_is = omega (arith, value, twice, scaled, is);
      width_is = omega (arith, width_is);
      near = λ j x few less.
          let same : s.doublings + 1 + j ≡ s.doublings + suc j = omega arith in
          let rest : suc count - suc j ≡ count - j = omega arith in
          let near = h.near (suc j) x (omega (arith, few)) (subst (λ m. code_value b m < 128 * x) same less) in
          subst (λ k. code_value b (s.doublings + 1 + count) < 128 * x * 2 ^ k) rest (subst (λ m. code_value b m < 128 * x * 2 ^ (suc count - suc j)) e near);
      last = h.last;
      fed_last = omega (arith, fed_last);
      due_next = omega (arith, due_next);
      place_is = h.place_is;
    }

held-shifted : (b : List ℕ) (n code width count place : ℕ) (s : State) → IsHeld b code width (n + count) place s → IsHeld b (code * 2 ^ n) (width * 2 ^ n) count place (doubled_by n s)
held-shifted b zero code width count place s h =
    let c : code ≡ code * 2 ^ 0 = omega arith in
    let w : width ≡ width * 2 ^ 0 = omega arith in
    let k : 0 + count ≡ count = omega arith in
    subst (λ x. IsHeld b x (width * 2 ^ 0) count place s) c (subst (λ x. IsHeld b code x count place s) w (subst (λ x. IsHeld b code width x place s) k h))
held-shifted b (suc n) code width count place s h =
    let k : suc n + count ≡ suc (n + count) = omega arith in
    let first = held-once b code width (n + count) place s (subst (λ x. IsHeld b code width x place s) k h) in
    let all = held-shifted b n (2 * code) (2 * width) count place (doubled s) first in
    subst (λ x. IsHeld b x (width * 2 ^ suc n) count place (doubled_by n (doubled s))) (sym (shift_first code n))
    (subst (λ x. IsHeld b (2 * code * 2 ^ n) x count place (doubled_by n (doubled s))) (sym (shift_first width n)) all)

-- no byte is due between them
pub wide-shifted : (b : List ℕ) (n : ℕ) (old new : WideRegisters) (s : State) → HoldsWide b old s → n ≤ old.count → new.code ≡ old.code * 2 ^ n → new.width ≡ old.width * 2 ^ n → new.count + n ≡ old.count → new.place ≡ old.place → HoldsWide b new (doubled_by n s)
wide-shifted b n old new s h few code width count place =
    let k : old.count ≡ n + new.count = omega (arith, count) in
    let all = held-shifted b n old.code old.width new.count old.place s (subst (λ x. IsHeld b old.code old.width x old.place s) k h) in
    subst (λ x. IsHeld b x new.width new.count new.place (doubled_by n s)) (sym code)
    (subst (λ x. IsHeld b (old.code * 2 ^ n) x new.count new.place (doubled_by n s)) (sym width)
    (subst (λ x. IsHeld b (old.code * 2 ^ n) (old.width * 2 ^ n) new.count x (doubled_by n s)) (sym place) all))

-- the doublings that bring the width to the top
pub wide-renormalised : (b : List ℕ) (r : WideRegisters) (s : State) (n : ℕ) → HoldsWide b r s → n ≤ 15 → 2 ^ 63 ≤ r.width * 2 ^ n → r.width * 2 ^ n < 2 ^ 64 → renormalised 15 s ≡ doubled_by n s
wide-renormalised b r s n h few least most =
    let scaled : r.width * 2 ^ n ≡ 2 ^ 48 * (s.width * 2 ^ n) = ap (λ w. w * 2 ^ n) h.width_is ∙ (let e : s.width * 2 ^ 48 * 2 ^ n ≡ 2 ^ 48 * (s.width * 2 ^ n) = grind arith in e) in
    renormalised-times 15 n s few (omega (arith, scaled, least)) (omega (arith, scaled, most))

-- ---- to the narrow registers, and from them

narrow-of : (b : List ℕ) (code width place : ℕ) (r : Registers) (s : State) → IsHeld b code width 0 place s → r.code ≡ code / 2 ^ 32 → r.width ≡ width / 2 ^ 32 → r.count ≡ 0 → r.place ≡ place → HoldsInterval b r s
narrow-of b code width place r s h code_is width_is count place_is =
    let value = ap (λ m. code_value b m) (let e : s.doublings + 0 ≡ s.doublings = omega arith in e) in
    let is = h.code_is in
    let wide = h.width_is in
    let fed_last = h.fed_last in
    let due_next = h.due_next in
    record {
      code = omega (arith, value, is, code_is);
      width = omega (arith, wide, width_is);
      last = h.last;
      fed_last = omega (arith, fed_last);
      due_next = omega (arith, due_next, count);
      place = subst (λ p. IsAt b p h.last) (sym place_is) h.place_is;
    }

pub wide-emptied : (b : List ℕ) (old : WideRegisters) (new : Registers) (s : State) → new.code ≡ old.code * 2 ^ old.count / 2 ^ 32 → new.width ≡ old.width * 2 ^ old.count / 2 ^ 32 → new.count ≡ 0 → new.place ≡ old.place → HoldsWide b old s → HoldsInterval b new (doubled_by old.count s)
wide-emptied b old new s code width count place h =
    let k : old.count ≡ old.count + 0 = omega arith in
    let all = held-shifted b old.count old.code old.width 0 old.place s (subst (λ x. IsHeld b old.code old.width x old.place s) k h) in
    narrow-of b (old.code * 2 ^ old.count) (old.width * 2 ^ old.count) old.place new (doubled_by old.count s) all code width count place

held-widened : (b : List ℕ) (r : Registers) (s : State) → HoldsInterval b r s → IsHeld b (r.code * 2 ^ 32) (r.width * 2 ^ 32) r.count r.place s
held-widened b r s h =
    let n = s.doublings in
    let fed_last = h.fed_last in
    let due_next = h.due_next in
    let value = value-doubles b n h.last r.count fed_last (omega (arith, due_next)) in
    let scaled : (r.code * 2 ^ 32 + 2 ^ 48 * s.low) * 2 ^ r.count ≡ 2 ^ 32 * ((r.code + 2 ^ 16 * s.low) * 2 ^ r.count) = grind arith in
    let is = ap (λ x. x * 2 ^ r.count) h.code in
    let width_is = h.width in
    record {
      code_is = omega (arith, value, scaled, is);
      width_is = omega (arith, width_is);
      near = λ j x few less.
          let e : n + j + (r.count - j) ≡ n + r.count = omega (arith, few) in
          let later = value-doubles b (n + j) h.last (r.count - j) (omega (arith, fed_last)) (omega (arith, due_next, few)) in
          let there = shift_less (code_value b (n + j)) (128 * x) (r.count - j) less in
          let same = ap (λ m. code_value b m) e in
          omega (arith, later, there, same);
      last = h.last;
      fed_last = omega (arith, fed_last);
      due_next = omega (arith, due_next);
      place_is = h.place;
    }

pub wide-widened : (b : List ℕ) (old : Registers) (new : WideRegisters) (s : State) → new.code ≡ old.code * 2 ^ 32 → new.width ≡ old.width * 2 ^ 32 → new.count ≡ old.count → new.place ≡ old.place → HoldsInterval b old s → HoldsWide b new s
wide-widened b old new s code width count place h =
    subst (λ x. IsHeld b x new.width new.count new.place s) (sym code)
    (subst (λ x. IsHeld b (old.code * 2 ^ 32) x new.count new.place s) (sym width)
    (subst (λ x. IsHeld b (old.code * 2 ^ 32) (old.width * 2 ^ 32) x new.place s) (sym count)
    (subst (λ x. IsHeld b (old.code * 2 ^ 32) (old.width * 2 ^ 32) old.count x s) (sym place) (held-widened b old s h))))

-- ---- a byte fed ahead

start-grows : (b : List ℕ) (i j : ℕ) → start b i ≤ start b (i + j)
start-grows b i zero = let e = ap (λ k. start b k) (let e : i + 0 ≡ i = omega arith in e) in omega (arith, e)
start-grows b i (suc j) =
    let e = ap (λ k. start b k) (let e : i + suc j ≡ suc (i + j) = omega arith in e) in
    let before = start-grows b i j in
    let one = start-suc b (i + j) in
    omega (arith, e, before, one)

-- a byte is wanted no later than six places behind its start
wanted-soon : (b : List ℕ) (i m : ℕ) → start b i ≤ m + 7 → wanted b i ≤ m + 14
wanted-soon b zero m h = let w = wanted-zero b in omega (arith, w)
wanted-soon b (suc i) m h =
    let w = wanted-suc b i in
    let one = start-suc b i in
    let long = places-ge b i in
    omega (arith, w, one, long, h)

record IsWhole (value : ℕ) : Type 0 where
  subinterval : ℕ
  is : value ≡ 128 * subinterval

share-whole : (b : List ℕ) (m i : ℕ) → start b i ≤ m + 7 → IsWhole (share b m i)
share-whole b m i h =
    let is = share-in b m i (wanted-soon b i m h) in
    let e : m + 14 - start b i ≡ 7 + (m + 7 - start b i) = omega (arith, h) in
    let p = ap (λ k. 2 ^ k) e ∙ pow-add 2 7 (m + 7 - start b i) in
    let all = ap (λ x. fed b i * x) p in
    record { subinterval = fed b i * 2 ^ (m + 7 - start b i); is = omega (arith, is, all) }

shares-whole : (b : List ℕ) (m last k : ℕ) → start b last ≡ m + 7 → k ≤ suc last → IsWhole (shares b m k)
shares-whole b m last zero h few = let z = shares-zero b m in record { subinterval = 0; is = omega (arith, z) }
shares-whole b m last (suc k) h few =
    let before = shares-whole b m last k h (omega (arith, few)) in
    let e = ap (λ i. start b i) (let e : k + (last - k) ≡ last = omega (arith, few) in e) in
    let grows = start-grows b k (last - k) in
    let one = share-whole b m k (omega (arith, e, grows, h)) in
    let more = shares-suc b m k in
    let x = before.is in
    let y = one.is in
    record { subinterval = before.subinterval + one.subinterval; is = omega (arith, more, x, y) }

-- just before a byte is wanted
value-whole : (b : List ℕ) (m last : ℕ) → wanted b last ≤ m + 14 → wanted b (suc last) ≡ m + 15 → IsWhole (code_value b m)
value-whole b m last h k =
    let w = wanted-suc b last in
    let upto = code_value-upto b m last h (omega (arith, k)) in
    let all = shares-whole b m last (suc last) (omega (arith, w, k)) (omega arith) in
    let x = all.is in
    record { subinterval = all.subinterval; is = omega (arith, upto, x) }

-- what the code value is after eight doublings more, of which the first wants a byte of eight
-- places
value-ahead : (b : List ℕ) (m last byte : ℕ) → wanted b last ≤ m + 14 → wanted b (suc last) ≡ m + 15 → fed b (suc last) ≡ byte → code_places b last ≡ 8 → (i : ℕ) → i ≤ 7 → code_value b (m + 1 + i) ≡ (2 * code_value b m + byte) * 2 ^ i
value-ahead b m last byte h k is long i few =
    let next = wanted-next b last in
    let first = code_value-feed b m last h k in
    let added = ap (λ x. fed b (suc last) * 2 ^ (8 - x)) long in
    let all = value-doubles b (m + 1) (suc last) i (omega (arith, k)) (omega (arith, k, next, long, few)) in
    let one : code_value b (m + 1) ≡ 2 * code_value b m + byte = omega (arith, first, added, is) in
    all ∙ ap (λ x. x * 2 ^ i) one

near-before : (v g z f : ℕ) → v ≡ 128 * g → v < 128 * z → f < 256 → 256 * v + 128 * f < 128 * z * 2 ^ 8
near-before v g z f e k small = omega (arith, e, k, small)

held-ahead : (b : List ℕ) (code width count place byte : ℕ) (s : State) → byte ≡ byte_at b (place + 1) → byte < 256 → byte_at b place < 255 → count ≤ 40 → IsHeld b code width count place s → IsHeld b (code + byte * 2 ^ (40 - count)) width (count + 8) (place + 1) s
held-ahead b code width count place byte s is small not_ff few h =
    let n = s.doublings in
    let m = n + count in
    let fed_last = h.fed_last in
    let due_next = h.due_next in
    let next = plain-next b place h.last h.place_is not_ff in
    let fed_is : fed b (suc h.last) ≡ byte = next.0 ∙ sym is in
    let long = next.1 in
    let ahead = value-ahead b m h.last byte fed_last due_next fed_is long in
    let whole = value-whole b m h.last fed_last due_next in
    let whole_is = whole.is in
    let end = ap (λ k. code_value b k) (let e : n + (count + 8) ≡ m + 1 + 7 = omega arith in e) in
    let last = ahead 7 (omega arith) in
    let value : code_value b (n + (count + 8)) ≡ 256 * code_value b m + 128 * byte = omega (arith, end, last) in
    let eight = pow-add 2 count 8 in
    let all : 2 ^ (40 - count) * 2 ^ (count + 8) ≡ 2 ^ 48 = sym (pow-add 2 (40 - count) (count + 8)) ∙ ap (λ k. 2 ^ k) (let e : 40 - count + (count + 8) ≡ 48 = omega (arith, few) in e) in
    let split : (code + byte * 2 ^ (40 - count) + 2 ^ 48 * s.low) * 2 ^ (count + 8) ≡ (code + 2 ^ 48 * s.low) * 2 ^ (count + 8) + byte * (2 ^ (40 - count) * 2 ^ (count + 8)) = grind arith in
    let old = ap (λ x. (code + 2 ^ 48 * s.low) * x) eight in
    let new = ap (λ x. byte * x) all in
    let code_was = h.code_is in
    let after = wanted-next b h.last in
    record {
      code_is = omega (arith, split, old, new, code_was, value);
      width_is = h.width_is;
      near = λ j x within less. elim (cases_lt count j) [
        | inl later ↦
            let i = j - suc count in
            let few_more : i ≤ 7 = omega (arith, later, within) in
            let here = ap (λ k. code_value b k) (let e : n + j ≡ m + 1 + i = omega (arith, later) in e) in
            let at_j = ahead i few_more in
            let rest : count + 8 - j ≡ 7 - i = omega (arith, later, within) in
            let power = ap (λ k. 128 * x * 2 ^ k) rest in
            let seven = sym (pow-add 2 i (7 - i)) ∙ ap (λ k. 2 ^ k) (let e : i + (7 - i) ≡ 7 = omega (arith, few_more) in e) in
            let spread = ap (λ p. (2 * code_value b m + byte) * p) seven in
            let there = shift_less (code_value b (n + j)) (128 * x) (7 - i) less in
            let joined : (2 * code_value b m + byte) * 2 ^ i * 2 ^ (7 - i) ≡ (2 * code_value b m + byte) * (2 ^ i * 2 ^ (7 - i)) = grind arith in
            let moved = ap (λ v. v * 2 ^ (7 - i)) (here ∙ at_j) in
            omega (arith, end, last, there, moved, joined, spread, power)
        | inr before ↦
            let near = h.near j x (omega (arith, before)) less in
            let shape : 128 * x * 2 ^ (count - j) ≡ 128 * (x * 2 ^ (count - j)) = grind arith in
            let bound = near-before (code_value b m) whole.subinterval (x * 2 ^ (count - j)) byte whole_is (omega (arith, near, shape)) small in
            let power = ap (λ k. 2 ^ k) (let e : count + 8 - j ≡ count - j + 8 = omega (arith, before) in e) ∙ pow-add 2 (count - j) 8 in
            let goal = ap (λ p. 128 * x * p) power in
            omega (arith, value, bound, goal)
      ];
      last = suc h.last;
      fed_last = omega (arith, due_next);
      due_next = omega (arith, due_next, after, long);
      place_is = next.2;
    }

pub wide-ahead : (b : List ℕ) (old new : WideRegisters) (byte : ℕ) (s : State) → byte ≡ byte_at b (old.place + 1) → byte < 256 → byte_at b old.place < 255 → old.count ≤ 40 → new.code ≡ old.code + byte * 2 ^ (40 - old.count) → new.width ≡ old.width → new.count ≡ old.count + 8 → new.place ≡ old.place + 1 → HoldsWide b old s → HoldsWide b new s
wide-ahead b old new byte s is small not_ff few code width count place h =
    subst (λ x. IsHeld b x new.width new.count new.place s) (sym code)
    (subst (λ x. IsHeld b (old.code + byte * 2 ^ (40 - old.count)) x new.count new.place s) (sym width)
    (subst (λ x. IsHeld b (old.code + byte * 2 ^ (40 - old.count)) old.width x new.place s) (sym count)
    (subst (λ x. IsHeld b (old.code + byte * 2 ^ (40 - old.count)) old.width (old.count + 8) x s) (sym place) (held-ahead b old.code old.width old.count old.place byte s is small not_ff few h))))

-- ---- what is left of a width in the narrow registers

-- the code value stays below the width
pub stays-below : (b : List ℕ) (r : WideRegisters) (s : State) → HoldsWide b r s → r.code < r.width → r.code * 2 ^ r.count / 2 ^ 32 < r.width * 2 ^ r.count / 2 ^ 32
stays-below b r s h k =
    let less = shift_less r.code r.width r.count k in
    let scaled : r.width * 2 ^ r.count ≡ 2 ^ 48 * (s.width * 2 ^ r.count) = ap (λ w. w * 2 ^ r.count) h.width_is ∙ (let e : s.width * 2 ^ 48 * 2 ^ r.count ≡ 2 ^ 48 * (s.width * 2 ^ r.count) = grind arith in e) in
    omega (arith, less, scaled)

-- a width that so many doublings bring to the top
pub narrow-width : (w c t : ℕ) → c < t → t ≤ 15 → 2 ^ 63 ≤ w * 2 ^ t → w * 2 ^ t < 2 ^ 64 → (2 ^ 31 ≤ w * 2 ^ c / 2 ^ 32 * 2 ^ (t - c)) × (w * 2 ^ c / 2 ^ 32 * 2 ^ (t - c) < 2 ^ 32)
narrow-width w c t due few least most =
    let k = t - c in
    let v = w * 2 ^ c in
    let n = v / 2 ^ 32 in
    let all : v * 2 ^ k ≡ w * 2 ^ t = shift_twice w c k t (omega (arith, due)) in
    let under : n * 2 ^ 32 * 2 ^ k ≤ v * 2 ^ k = mul-le-mul_right (2 ^ k) (let e : n * 2 ^ 32 ≤ v = omega arith in e) in
    let turned : n * 2 ^ 32 * 2 ^ k ≡ 2 ^ 32 * (n * 2 ^ k) = grind arith in
    let top : 2 ^ (31 - k) * 2 ^ k ≡ 2 ^ 31 = sym (pow-add 2 (31 - k) k) ∙ ap (λ j. 2 ^ j) (let e : 31 - k + k ≡ 31 = omega (arith, few) in e) in
    let above : v * 2 ^ k < (n + 1) * 2 ^ 32 * 2 ^ k = shift_less v ((n + 1) * 2 ^ 32) k (let e : v < (n + 1) * 2 ^ 32 = omega arith in e) in
    let over : (n + 1) * 2 ^ 32 * 2 ^ k ≡ 2 ^ 32 * ((n + 1) * 2 ^ k) = grind arith in (
      elim (cases_lt n (2 ^ (31 - k))) [
        | inl less ↦
            let bound : (n + 1) * 2 ^ k ≤ 2 ^ (31 - k) * 2 ^ k = mul-le-mul_right (2 ^ k) (let e : n + 1 ≤ 2 ^ (31 - k) = omega (arith, less) in e) in
            absurd (omega (arith, all, above, over, bound, top, least))
        | inr more ↦ let bound : 2 ^ (31 - k) * 2 ^ k ≤ n * 2 ^ k = mul-le-mul_right (2 ^ k) more in omega (arith, bound, top)
      ],
      omega (arith, under, turned, all, most),
    )

-- a byte ahead takes less than one of the interval
pub ahead-small : (byte count : ℕ) → byte < 256 → byte * 2 ^ (40 - count) < 2 ^ 48
ahead-small byte count small =
    let p : 2 ^ (40 - count) ≤ 2 ^ 40 = pow_mono (let e : 40 - count ≤ 40 = omega arith in e) in
    let most = mul-le-mul_right (2 ^ (40 - count)) (let e : byte ≤ 255 = omega (arith, small) in e) in
    omega (arith, p, most)
