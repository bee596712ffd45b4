-- FLUSH as atomic steps.
use Rattle.std.proofs.Common.{◌≡◌, ◌∙◌, ap, sym, subst, refl, ℕ, ◌+◌, ◌-◌, ◌*◌, ◌/◌, ◌^◌, ◌<◌, ◌≤◌, inl, inr, Bool, cond, List, ◌∷◌, leb, arith}
use Rattle.std.proofs.lemmas.Bool.{cases_lt, le-leb, lt-leb}
use Rattle.std.proofs.lemmas.Nat.{pow-add, mod_below, pow_below}
use Rattle.jk_model.specs.Decisions.{State, doubled_by}
use Rattle.jk_model.specs.Placed.{gap, placed_number, end}
use Rattle.jk_mqenc.specs.Machine.{Machine, unit, byte_out, HoldsInterval}
use Rattle.jk_mqenc.specs.Leads.{Leads}
use Rattle.jk_mqenc.specs.Coding.{set_bits, shifted_by, pushed_out, flushed}
use Rattle.jk_model.proofs.Laws.{after_ff, plain, follows}
use Rattle.jk_mqenc.proofs.Machine.{unit-is}
use Rattle.jk_mqenc.proofs.ByteOut.{settled}
use Rattle.jk_mqenc.proofs.Since.{gap-le, unit-positive}
use Rattle.jk_mqenc.proofs.AtomicSteps.{leads-then, leads-narrow, leads-byte_out, leads-shifts, shifts-count, doubled_by-low, doubled_by-doublings}

-- ---- SETBITS

set_bits-is : (c w : ℕ) → set_bits c w ≡ cond (leb (c + w) (c / 65536 * 65536 + 65535)) (c / 65536 * 65536 + 65535 - 32768) (c / 65536 * 65536 + 65535)
unfolding set_bits
set_bits-is c w = refl

pub record IsSet (c w k : ℕ) : Type 0 where
  pub least : c ≤ k
  pub below : k < c + w
  pub times : ℕ
  pub ones : k + 1 ≡ times * 32768

pub set_bits-set : (c w : ℕ) → 32768 ≤ w → IsSet c w (set_bits c w)
set_bits-set c w h =
    let q = c / 65536 in
    let s = q * 65536 + 65535 in
    elim (cases_lt s (c + w)) [
      | inl l ↦
          let e : set_bits c w ≡ s = set_bits-is c w ∙ ap (λ (t : Bool). cond t (s - 32768) s) (lt-leb (c + w) s l) in
          subst (λ k. IsSet c w k) (sym e) (record { least = omega arith; below = l; times = 2 * q + 2; ones = omega arith })
      | inr l ↦
          let e : set_bits c w ≡ s - 32768 = set_bits-is c w ∙ ap (λ (t : Bool). cond t (s - 32768) s) (le-leb (c + w) s l) in
          subst (λ k. IsSet c w k) (sym e) (record { least = omega arith; below = omega arith; times = 2 * q + 1; ones = omega arith })
    ]

-- ---- C <<= CT, BYTEOUT

-- a byte was just placed
pub record Pushed (n : Machine) (u : State) : Type 0 where
  pub last : ℕ
  pub before : List ℕ
  pub placed : n.placed ≡ last ∷ before
  pub count : n.count ≡ gap before
  pub clock : u.doublings ≡ 12 + end before
  pub code : n.code < unit n.count

pushed-here : (m : Machine) (s : State) → m.count ≡ 0 → HoldsInterval m s → Pushed (byte_out m) s
pushed-here m s z i =
    let r = settled m s z i in
    subst (λ (n : Machine). Pushed n s) (sym r.is) (record {
      last = r.rest / unit (gap r.bytes);
      before = r.bytes;
      placed = refl;
      count = refl;
      clock = r.due.clock;
      code = mod_below r.rest (unit (gap r.bytes)) (unit-positive (gap r.bytes));
    })

-- the interval that a push leaves
abbrev pub narrowed : Machine → State → ℕ → State
narrowed m s c = record s { low = s.low + (c - m.code); width = 1 }

abbrev pub pushed_to : Machine → State → ℕ → State
pushed_to m s c = doubled_by m.count (narrowed m s c)

pub pushed_out-is : (m : Machine) → pushed_out m ≡ byte_out (shifted_by m.count (record m { width = 1 }))
unfolding pushed_out
pushed_out-is m = refl

pub record Pushes (m : Machine) (s : State) (n : Machine) (u : State) : Type 0 where
  pub leads : Leads m s n u
  pub pushed : Pushed n u

pub power-small : (k : ℕ) → k ≤ 12 → 1 * 2 ^ k < 65536
power-small k h = omega (arith, pow_below k 16 (omega arith))

pub pushes : (m : Machine) (s : State) (c : ℕ) → m.code ≤ c → c < m.code + m.width → HoldsInterval m s → Pushes m s (pushed_out (record m { code = c })) (pushed_to m s c)
pushes m s c h k i =
    let e : m.code + (c - m.code) ≡ c = omega arith in
    let small = record m { code = c; width = 1 } in
    let s1 = narrowed m s c in
    let first = subst (λ x. Leads m s (record m { code = x; width = 1 }) s1) e (leads-narrow m s (c - m.code) 1 (omega arith) (omega arith) i) in
    let shifts = leads-shifts m.count small s1 (omega arith) (power-small m.count i.count) first.holds in
    let shifted = shifted_by m.count small in
    let z : shifted.count ≡ 0 = omega (arith, shifts-count m.count small) in
    let u = pushed_to m s c in
    let out = leads-byte_out shifted u z shifts.holds in
    subst (λ (n : Machine). Pushes m s n u) (sym (pushed_out-is (record m { code = c }))) (record {
      leads = leads-then m small (byte_out shifted) s s1 u first (leads-then small shifted (byte_out shifted) s1 u u shifts out);
      pushed = pushed-here shifted u z shifts.holds;
    })

-- ---- the whole flush

pub record Closes (m : Machine) (s : State) (n : Machine) : Type 0 where
  pub u : State
  pub leads : Leads m s n u
  pub pushed : Pushed n u
  pub least : ℕ
  pub times : ℕ
  pub more : ℕ
  pub within : least + 1 ≤ s.low + s.width
  pub ones : least + 1 ≡ times * 32768
  pub more_least : 8 ≤ more
  pub more_most : more ≤ 20
  pub doublings : u.doublings ≡ s.doublings + more
  pub low : u.low ≡ least * 2 ^ more

pub flushed-is : (m : Machine) → flushed m ≡ pushed_out (pushed_out (record m { code = set_bits m.code m.width }))
unfolding flushed
flushed-is m = refl

unit-even : (c : ℕ) → c ≤ 12 → unit c ≡ 2 ^ (12 - c) * 32768
unit-even c h =
    let e : 27 - c ≡ 12 - c + 15 = omega arith in
    unit-is c ∙ ap (λ x. 2 ^ x) e ∙ pow-add 2 (12 - c) 15

joined : (l a b c d : ℕ) → a ≡ l * c → b ≡ a * d → b ≡ l * (c * d)
joined l a b c d h k = k ∙ ap (λ x. x * d) h ∙ grind arith

regrouped : (p q : ℕ) → p * (q * 32768) ≡ p * q * 32768
regrouped p q = grind arith

pub gap-ge : (bs : List ℕ) → 7 ≤ gap bs
gap-ge bs = elim (follows bs) [ after_ff g t ↦ omega arith | plain g t ↦ omega arith ]

together : (a p q r c n : ℕ) → c + 1 ≡ a * 32768 → n ≡ p * (q * 32768) → c + n + 1 ≡ (a + p * q) * 32768
together a p q r c n h k = omega (arith, h, k, regrouped p q)

pub closes : (m : Machine) (s : State) → 1 ≤ m.count → 32768 ≤ m.width → HoldsInterval m s → Closes m s (flushed m)
closes m s h w i =
    let c = set_bits m.code m.width in
    let set = set_bits-set m.code m.width w in
    let one = pushes m s c set.least set.below i in
    let m1 = pushed_out (record m { code = c }) in
    let s1 = pushed_to m s c in
    let two = pushes m1 s1 m1.code (omega arith) (omega (arith, one.leads.holds.positive)) one.leads.holds in
    let m2 = pushed_out m1 in
    let s2 = pushed_to m1 s1 m1.code in
    let low1 : s1.low ≡ (s.low + (c - m.code)) * 2 ^ m.count = doubled_by-low m.count (narrowed m s c) in
    let same : s1.low + (m1.code - m1.code) ≡ s1.low = omega arith in
    let low2 : s2.low ≡ s1.low * 2 ^ m1.count = doubled_by-low m1.count (narrowed m1 s1 m1.code) ∙ ap (λ x. x * 2 ^ m1.count) same in
    let d1 = doubled_by-doublings m.count (narrowed m s c) in
    let d2 = doubled_by-doublings m1.count (narrowed m1 s1 m1.code) in
    let count_ge = gap-ge one.pushed.before in
    let count_le = gap-le one.pushed.before in
    let even : placed_number m.placed * unit m.count ≡ placed_number m.placed * (2 ^ (12 - m.count) * 32768) = ap (λ x. placed_number m.placed * x) (unit-even m.count i.count) in
    subst (λ (n : Machine). Closes m s n) (sym (flushed-is m)) (record {
      u = s2;
      leads = leads-then m m1 m2 s s1 s2 one.leads two.leads;
      pushed = two.pushed;
      least = s.low + (c - m.code);
      times = set.times + placed_number m.placed * 2 ^ (12 - m.count);
      more = m.count + m1.count;
      within = omega (arith, set.least, set.below, i.width);
      ones = omega (arith, set.least, i.low, together set.times (placed_number m.placed) (2 ^ (12 - m.count)) 0 c (placed_number m.placed * unit m.count) set.ones even);
      more_least = omega (arith, count_ge, one.pushed.count);
      more_most = omega (arith, count_le, one.pushed.count, i.count);
      doublings = omega (arith, d1, d2);
      low = joined (s.low + (c - m.code)) s1.low s2.low (2 ^ m.count) (2 ^ m1.count) low1 low2 ∙ ap (λ x. (s.low + (c - m.code)) * x) (sym (pow-add 2 m.count m1.count));
    })
