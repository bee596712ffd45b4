-- What the encoder remembers of an earlier interval, through the atomic steps.
use Rattle.std.proofs.Common.{◌≡◌, ◌∙◌, ap, sym, subst, ℕ, suc, ◌+◌, ◌-◌, ◌*◌, ◌/◌, ◌%◌, ◌^◌, ◌<◌, ◌≤◌, inl, inr, List, [], ◌∷◌, arith}
use Rattle.std.proofs.Math.Nat.{pow-succ'}
use Rattle.std.proofs.lemmas.Bool.{cases_lt}
use Rattle.std.proofs.lemmas.Nat.{pow-add, pow_pos, mul-le, mod_below}
use Rattle.jk_model.specs.Code.{code_value}
use Rattle.jk_model.specs.Decisions.{State, doubled}
use Rattle.jk_model.specs.Placed.{gap, placed_number, end, Clean, onto}
use Rattle.jk_mqenc.specs.Machine.{Machine, unit, with_byte, byte_out, HoldsInterval}
use Rattle.jk_mqenc.specs.Since.{Since}
use Rattle.jk_model.proofs.Laws.{after_ff, plain, follows}
use Rattle.jk_mqenc.proofs.Machine.{unit-is}
use Rattle.jk_mqenc.proofs.ByteOut.{IsCarried, Settled, settled, with_byte-holds}
use Rattle.jk_model.proofs.Laws.{value-decided, value-kept}

-- ---- S1, S2, S3

pub since-now : (m : Machine) (s : State) → HoldsInterval m s → Since s m s
since-now m s i = record {
  more = 0;
  clock = omega arith;
  low = omega arith;
  high = omega arith;
  kept = λ h. absurd (omega (arith, h, i.clock, i.count));
}

pub since-narrow : (t : State) (m : Machine) (s : State) (x a : ℕ) → x + a ≤ s.width → Since t m s → Since t (record m { code = m.code + x; width = a }) (record s { low = s.low + x; width = a })
since-narrow t m s x a h i = record {
  more = i.more;
  clock = i.clock;
  low = omega (arith, i.low);
  high = omega (arith, i.high);
  kept = i.kept;
}

times-twice : (a k : ℕ) → a * 2 ^ (k + 1) ≡ 2 * (a * 2 ^ k)
times-twice a k =
    let one : k + 1 ≡ suc k = omega arith in
    ap (λ j. a * 2 ^ j) one ∙ ap (λ x. a * x) (pow-succ' 2 k) ∙ grind arith

pub since-double : (t : State) (m : Machine) (s : State) (c : ℕ) → Since t m s → Since t (record m { code = 2 * m.code; width = 2 * m.width; count = c }) (doubled s)
since-double t m s c i = record {
  more = i.more + 1;
  clock = omega (arith, i.clock);
  low = omega (arith, i.low, times-twice t.low i.more);
  high = omega (arith, i.high, times-twice (t.low + t.width) i.more);
  kept = i.kept;
}

-- ---- S4: decided before

pub gap-le : (bs : List ℕ) → gap bs ≤ 8
gap-le bs = elim (follows bs) [ after_ff g t ↦ omega arith | plain g t ↦ omega arith ]

carried-end : (old new : List ℕ) → IsCarried old new → end new ≡ end old
carried-end old new h = elim h [ inl e ↦ ap (λ (x : List ℕ). end x) e | inr k ↦ ap (λ (x : List ℕ). end x) k.3 ∙ sym (ap (λ (x : List ℕ). end x) k.2) ]

-- a carry makes the code value no smaller
carry-grows : (b : ℕ) (o q : List ℕ) (n : ℕ) → Clean (b ∷ o) → Clean (suc b ∷ o) → n + 15 ≤ end (b ∷ o) → code_value (onto (b ∷ o) q) n ≤ code_value (onto (suc b ∷ o) q) n
carry-grows b o q n c d h =
    elim (cases_lt (n + 14) (end o)) [
      | inl m ↦ omega (arith, value-kept o (b ∷ q) (suc b ∷ q) n c.1 (omega arith))
      | inr m ↦
          let t = n + 22 - end (b ∷ o) in
          let e : t + end (b ∷ o) ≡ n + 22 = omega (arith, gap-le o) in
          let old = value-decided o b q n t c m e (omega arith) in
          let new = value-decided o (suc b) q n t d m e (omega arith) in
          omega (arith, old, new, mul-le (placed_number (b ∷ o)) (2 ^ t) (placed_number (suc b ∷ o)) (2 ^ t) (omega arith) (omega arith))
    ]

carried-grows : (old new : List ℕ) (n : ℕ) → IsCarried old new → Clean old → Clean new → n + 15 ≤ end old → code_value (onto old []) n ≤ code_value (onto new []) n
carried-grows old new n h c d k =
    elim h [
      | inl e ↦ omega (arith, ap (λ (x : List ℕ). code_value (onto x []) n) e)
      | inr p ↦
          let was = subst (λ (x : List ℕ). Clean x) p.2 c in
          let now = subst (λ (x : List ℕ). Clean x) p.3 d in
          let long = subst (λ (x : List ℕ). n + 15 ≤ end x) p.2 k in
          omega (arith, carry-grows p.0 p.1 [] n was now long, ap (λ (x : List ℕ). code_value (onto x []) n) p.2, ap (λ (x : List ℕ). code_value (onto x []) n) p.3)
    ]

-- ---- S5: decided now

pub floor : (l w p c : ℕ) → c < w → l * w ≤ p * w + c → l ≤ p
floor l w p c h k =
    elim (cases_lt p l) [
      | inl m ↦
          let more = mul-le (suc p) w l w (omega arith) (omega arith) in
          let step : suc p * w ≡ p * w + w = grind arith in
          absurd (omega arith)
      | inr m ↦ m
    ]

regroup : (l a b : ℕ) → l * (a * b) ≡ l * a * b
regroup l a b = grind arith

-- The last of the placed bytes decides the moment t.
decided-now : (t s : State) (xs : List ℕ) (x c g k : ℕ) → Clean (x ∷ xs) → end xs ≤ t.doublings + 14 → t.doublings + 15 ≤ end (x ∷ xs) → s.doublings ≡ t.doublings + k → t.low * 2 ^ k ≤ s.low → s.low ≡ c + placed_number (x ∷ xs) * unit g → c < unit g → g ≤ 8 → s.doublings + g ≡ 12 + end (x ∷ xs) → 128 * t.low ≤ code_value (onto (x ∷ xs) []) t.doublings
decided-now t s xs x c g k clean before now clock low is below small end_is =
    let p = placed_number (x ∷ xs) in
    let i = t.doublings + 22 - end (x ∷ xs) in
    let e : i + end (x ∷ xs) ≡ t.doublings + 22 = omega (arith, gap-le xs) in
    let j = 7 - i in
    let value = value-decided xs x [] t.doublings i clean before e (omega arith) in
    let ke : k ≡ j + (27 - g) = omega arith in
    let power : t.low * 2 ^ k ≡ t.low * 2 ^ j * unit g = ap (λ y. t.low * 2 ^ y) ke ∙ ap (λ y. t.low * y) (pow-add 2 j (27 - g)) ∙ regroup t.low (2 ^ j) (2 ^ (27 - g)) ∙ ap (λ y. t.low * 2 ^ j * y) (sym (unit-is g)) in
    let floored = floor (t.low * 2 ^ j) (unit g) p c below (omega arith) in
    let scaled = mul-le (t.low * 2 ^ j) (2 ^ i) p (2 ^ i) floored (omega arith) in
    let seven : j + i ≡ 7 = omega arith in
    let whole : t.low * 2 ^ j * 2 ^ i ≡ t.low * 128 = sym (regroup t.low (2 ^ j) (2 ^ i)) ∙ ap (λ y. t.low * y) (sym (pow-add 2 j i)) ∙ ap (λ y. t.low * 2 ^ y) seven in
    omega (arith, value, scaled, whole)

pub unit-positive : (g : ℕ) → 0 < unit g
unit-positive g = subst (λ x. 0 < x) (sym (unit-is g)) (pow_pos (27 - g))

-- ---- a byte is with_byte

with_byte-kept : (t s : State) (m : Machine) (z : m.count ≡ 0) (i : HoldsInterval m s) (r : Settled m s) → Since t m s → t.doublings + 15 ≤ end (with_byte r.bytes r.rest m.width).placed → 128 * t.low ≤ code_value (onto (with_byte r.bytes r.rest m.width).placed []) t.doublings
with_byte-kept t s m z i r since h =
    let next = with_byte-holds r.bytes r.rest m.width s r.due in
    let u = unit (gap r.bytes) in
    let x = r.rest / u in
    let same = carried-end m.placed r.bytes r.from in
    elim (cases_lt (t.doublings + 14) (end r.bytes)) [
      | inl l ↦
          let old = since.kept (omega arith) in
          let grown = carried-grows m.placed r.bytes t.doublings r.from i.clean r.due.clean (omega arith) in
          omega (arith, old, grown, value-kept r.bytes (x ∷ []) [] t.doublings r.due.clean (omega arith))
      | inr l ↦ decided-now t s r.bytes x (r.rest % u) (gap r.bytes) since.more next.clean l h since.clock since.low next.low (mod_below r.rest u (unit-positive (gap r.bytes))) (gap-le r.bytes) next.clock
    ]

pub since-byte_out : (t : State) (m : Machine) (s : State) → m.count ≡ 0 → HoldsInterval m s → Since t m s → Since t (byte_out m) s
since-byte_out t m s z i since =
    let r = settled m s z i in
    subst (λ (k : Machine). Since t k s) (sym r.is) (record {
      more = since.more;
      clock = since.clock;
      low = since.low;
      high = since.high;
      kept = with_byte-kept t s m z i r since;
    })
