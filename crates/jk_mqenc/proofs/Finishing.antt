-- FLUSH in the code.
use Rattle.std.proofs.Common.{◌≡◌, ◌∙◌, ap, sym, subst, ℕ, zero, suc, ◌+◌, ◌-◌, ◌*◌, ◌%◌, ◌^◌, ◌<◌, ◌≤◌, List, [], arith}
use Rattle.std.proofs.Math.Nat.{pow-succ'}
use Rattle.std.proofs.lemmas.Nat.{pow-add, mul-le}
use Rattle.jk_mqenc.specs.Machine.{Machine, unit, byte_out, HoldsInterval}
use Rattle.jk_model.specs.Decisions.{doubled_by}
use Rattle.jk_mqenc.specs.Coding.{shifted, shifted_by, set_bits, pushed_out}
use Rattle.jk_mqenc.proofs.Machine.{unit-is}
use Rattle.jk_mqenc.proofs.Holdings.{IsHeld, held-room, held-first}
use Rattle.jk_mqenc.proofs.AtomicSteps.{leads-narrow, leads-shifts, shifts-count}
use Rattle.jk_mqenc.proofs.ByteOut.{byte_out-holds}
use Rattle.jk_mqenc.proofs.Flush.{set_bits-set, pushed_out-is, power-small}

abbrev pub at_of : ℕ → ℕ → ℕ → List ℕ → Machine
at_of code width count bs = record { code = code; width = width; count = count; placed = bs }

twice-more : (a k : ℕ) → 2 * a * 2 ^ k ≡ a * 2 ^ suc k
twice-more a k = sym (ap (λ x. a * x) (pow-succ' 2 k) ∙ grind arith)

pub shifted_by-is : (k : ℕ) (m : Machine) → shifted_by k m ≡ at_of (m.code * 2 ^ k) (m.width * 2 ^ k) (m.count - k) m.placed
shifted_by-is zero m =
    let c : m.code ≡ m.code * 2 ^ 0 = omega arith in
    let w : m.width ≡ m.width * 2 ^ 0 = omega arith in
    let n : m.count ≡ m.count - 0 = omega arith in
    ap (λ x. at_of x m.width m.count m.placed) c ∙ ap (λ x. at_of (m.code * 2 ^ 0) x m.count m.placed) w ∙ ap (λ x. at_of (m.code * 2 ^ 0) (m.width * 2 ^ 0) x m.placed) n
shifted_by-is (suc k) m =
    let n : m.count - 1 - k ≡ m.count - suc k = omega arith in
    shifted_by-is k (shifted m) ∙ ap (λ x. at_of x (2 * m.width * 2 ^ k) (m.count - 1 - k) m.placed) (twice-more m.code k) ∙ ap (λ x. at_of (m.code * 2 ^ suc k) x (m.count - 1 - k) m.placed) (twice-more m.width k) ∙ ap (λ x. at_of (m.code * 2 ^ suc k) (m.width * 2 ^ suc k) x m.placed) n

pub held-set : (m : Machine) → 32768 ≤ m.width → IsHeld m → IsHeld (record m { code = set_bits m.code m.width; width = 1 })
held-set m w h =
    let c = set_bits m.code m.width in
    let set = set_bits-set m.code m.width w in
    let e : m.code + (c - m.code) ≡ c = omega (arith, set.least) in
    let i = (leads-narrow m h.0 (c - m.code) 1 (omega arith) (omega (arith, set.least, set.below)) h.1).holds in
    (record h.0 { low = h.0.low + (c - m.code); width = 1 }, subst (λ x. HoldsInterval (record m { code = x; width = 1 }) (record h.0 { low = h.0.low + (c - m.code); width = 1 })) e i)

pub held-least : (m : Machine) → IsHeld m → IsHeld (record m { width = 1 })
held-least m h =
    let e : m.code + 0 ≡ m.code = omega arith in
    let i = (leads-narrow m h.0 0 1 (omega arith) (omega (arith, h.1.positive)) h.1).holds in
    (record h.0 { low = h.0.low + 0; width = 1 }, subst (λ x. HoldsInterval (record m { code = x; width = 1 }) (record h.0 { low = h.0.low + 0; width = 1 })) e i)

held-shifts : (m : Machine) → m.width ≡ 1 → IsHeld m → IsHeld (shifted_by m.count m)
held-shifts m w h =
    let small : m.width * 2 ^ m.count < 65536 = subst (λ x. x * 2 ^ m.count < 65536) (sym w) (power-small m.count h.1.count) in
    (doubled_by m.count h.0, (leads-shifts m.count m h.0 (omega arith) small h.1).holds)

-- the registers after C <<= CT
pub record IsShifted (m n : Machine) : Type 0 where
  pub held : IsHeld n
  pub count : n.count ≡ 0
  pub is : byte_out n ≡ pushed_out m
  pub room : n.code < 150994944

shifted-zero : (m : Machine) → m.width ≡ 1 → IsHeld m → IsShifted m (shifted_by m.count m)
shifted-zero m w h =
    let n = shifted_by m.count m in
    let z : n.count ≡ 0 = omega (arith, shifts-count m.count m) in
    let held = held-shifts m w h in
    let e : m ≡ record m { width = 1 } = ap (λ x. record m { width = x }) w in
    record {
      held = held;
      count = z;
      is = ap (λ (x : Machine). byte_out (shifted_by m.count x)) e ∙ sym (pushed_out-is m);
      room = held-room n z held;
    }

pub code-small : (m : Machine) → IsHeld m → m.code * 2 ^ m.count < 4294967296
code-small m h =
    let i = h.1 in
    let e : m.count + (27 - m.count) ≡ 27 = omega (arith, i.count) in
    let p : 2 ^ m.count * unit m.count ≡ 134217728 = ap (λ x. 2 ^ m.count * x) (unit-is m.count) ∙ sym (pow-add 2 m.count (27 - m.count)) ∙ ap (λ x. 2 ^ x) e in
    let l : m.code ≤ 2 * unit m.count = omega (arith, i.room) in
    let k = mul-le m.code (2 ^ m.count) (2 * unit m.count) (2 ^ m.count) l (omega arith) in
    let s : 2 * unit m.count * 2 ^ m.count ≡ 2 * (2 ^ m.count * unit m.count) = grind arith in
    omega (arith, k, s, p)

wrapped : (a : ℕ) → a < 65536 → a % 4294967296 ≡ a
wrapped a h = omega arith

pub code-shifted : (m : Machine) → m.width ≡ 1 → IsHeld m → IsShifted m (at_of (m.code * 2 ^ m.count % 4294967296) (1 * 2 ^ m.count % 4294967296) 0 m.placed)
code-shifted m w h =
    let c : m.code * 2 ^ m.count % 4294967296 ≡ m.code * 2 ^ m.count = let s = code-small m h in omega (arith, s) in
    let a : 1 * 2 ^ m.count % 4294967296 ≡ m.width * 2 ^ m.count = ap (λ x. x % 4294967296) (ap (λ x. x * 2 ^ m.count) (sym w)) ∙ wrapped (m.width * 2 ^ m.count) (subst (λ x. x * 2 ^ m.count < 65536) (sym w) (power-small m.count h.1.count)) in
    let z : 0 ≡ m.count - m.count = omega arith in
    let e = ap (λ x. at_of x (1 * 2 ^ m.count % 4294967296) 0 m.placed) c ∙ ap (λ x. at_of (m.code * 2 ^ m.count) x 0 m.placed) a ∙ ap (λ x. at_of (m.code * 2 ^ m.count) (m.width * 2 ^ m.count) x m.placed) z ∙ sym (shifted_by-is m.count m) in
    subst (λ (n : Machine). IsShifted m n) (sym e) (shifted-zero m w h)

pub held-pushed : (m : Machine) → m.width ≡ 1 → IsHeld m → IsHeld (pushed_out m)
held-pushed m w h =
    let s = shifted-zero m w h in
    subst (λ (n : Machine). IsHeld n) s.is (s.held.0, byte_out-holds (shifted_by m.count m) s.held.0 s.count s.held.1)

pub code-shifted-view : (code width count : ℕ) (bs : List ℕ) (now : Machine) → at_of code width count bs ≡ now → now.width ≡ 1 → IsHeld now → IsShifted now (at_of (code * 2 ^ count % 4294967296) (1 * 2 ^ count % 4294967296) 0 bs)
code-shifted-view code width count bs now v w h =
    subst (λ (m : Machine). IsShifted now (at_of (m.code * 2 ^ m.count % 4294967296) (1 * 2 ^ m.count % 4294967296) 0 m.placed)) (sym v) (code-shifted now w h)

pub shifted-first : (m n : Machine) → IsShifted m n → n.placed ≡ [] → n.code < 134217728
shifted-first m n s e = held-first n s.count s.held e
