-- Atomic steps one after another.
use Rattle.std.proofs.Common.{◌≡◌, ◌∙◌, ap, sym, subst, refl, ℕ, zero, suc, ◌+◌, ◌-◌, ◌*◌, ◌^◌, ◌<◌, ◌≤◌, inl, inr, Bool, cond, eqb, ltb, arith}
use Rattle.std.proofs.Math.Nat.{pow-succ'}
use Rattle.std.proofs.lemmas.Bool.{cases_eq, cases_lt, eq-eqb, ne_eqb, lt-ltb, le-ltb}
use Rattle.std.proofs.lemmas.Nat.{mul-le, pow_pos}
use Rattle.jk_model.specs.Decisions.{State, doubled, renormalised, doubled_by}
use Rattle.jk_mqenc.specs.Machine.{Machine, byte_out, HoldsInterval}
use Rattle.jk_mqenc.specs.Leads.{Leads}
use Rattle.jk_mqenc.specs.Coding.{shifted, twice, renorme, shifted_by}
use Rattle.jk_model.proofs.Laws.{after_ff, plain, follows}
use Rattle.jk_mqenc.proofs.Machine.{narrow, double}
use Rattle.jk_mqenc.proofs.ByteOut.{settled, byte_out-holds}
use Rattle.jk_mqenc.proofs.Ending.{ends-byte_out}
use Rattle.jk_mqenc.proofs.Since.{since-narrow, since-double, since-byte_out}

pub leads-self : (m : Machine) (s : State) → HoldsInterval m s → Leads m s m s
leads-self m s h = record { holds = h; since = λ t k. k; ends = λ w e k. k }

pub leads-then : (m n o : Machine) (s u v : State) → Leads m s n u → Leads n u o v → Leads m s o v
leads-then m n o s u v h k = record { holds = k.holds; since = λ t i. k.since t (h.since t i); ends = λ w e i. k.ends w e (h.ends w e i) }

pub leads-narrow : (m : Machine) (s : State) (x a : ℕ) → 1 ≤ a → x + a ≤ m.width → HoldsInterval m s → Leads m s (record m { code = m.code + x; width = a }) (record s { low = s.low + x; width = a })
leads-narrow m s x a h k i = record {
  holds = narrow m s x a h k i;
  since = λ t j. since-narrow t m s x a (omega (arith, i.width)) j;
  ends = λ w e j. j;
}

pub leads-shifted : (m : Machine) (s : State) → 1 ≤ m.count → m.width < 2 ^ 15 → HoldsInterval m s → Leads m s (shifted m) (doubled s)
leads-shifted m s h k i = record {
  holds = double m s (m.count - 1) (omega arith) k i;
  since = λ t j. since-double t m s (m.count - 1) j;
  ends = λ w e j. j;
}

pub leads-byte_out : (m : Machine) (s : State) → m.count ≡ 0 → HoldsInterval m s → Leads m s (byte_out m) s
leads-byte_out m s z i = record {
  holds = byte_out-holds m s z i;
  since = λ t j. since-byte_out t m s z i j;
  ends = λ w e j. ends-byte_out w e m s z i j;
}

pub byte_out-count : (m : Machine) (s : State) → m.count ≡ 0 → HoldsInterval m s → 7 ≤ (byte_out m).count
byte_out-count m s z i =
    let r = settled m s z i in
    subst (λ (k : Machine). 7 ≤ k.count) (sym r.is) (elim (follows r.bytes) [ after_ff g t ↦ omega arith | plain g t ↦ omega arith ])

pub twice-is : (m : Machine) → twice m ≡ cond (eqb m.count 1) (byte_out (shifted m)) (shifted m)
unfolding twice
twice-is m = refl

-- doublings that end with CT above 0
pub record Goes (m : Machine) (s : State) (n : Machine) (u : State) : Type 0 where
  pub leads : Leads m s n u
  pub count : 1 ≤ n.count

pub goes-twice : (m : Machine) (s : State) → 1 ≤ m.count → m.width < 2 ^ 15 → HoldsInterval m s → Goes m s (twice m) (doubled s)
goes-twice m s h k i =
    let first = leads-shifted m s h k i in
    elim (cases_eq m.count 1) [
      | inl e ↦
          let is : twice m ≡ byte_out (shifted m) = twice-is m ∙ ap (λ (t : Bool). cond t (byte_out (shifted m)) (shifted m)) (eq-eqb m.count 1 e) in
          let z : m.count - 1 ≡ 0 = omega arith in
          subst (λ (o : Machine). Goes m s o (doubled s)) (sym is) (record {
            leads = leads-then m (shifted m) (byte_out (shifted m)) s (doubled s) (doubled s) first (leads-byte_out (shifted m) (doubled s) z first.holds);
            count = omega (arith, byte_out-count (shifted m) (doubled s) z first.holds);
          })
      | inr n ↦
          let is : twice m ≡ shifted m = twice-is m ∙ ap (λ (t : Bool). cond t (byte_out (shifted m)) (shifted m)) (ne_eqb m.count 1 n) in
          subst (λ (o : Machine). Goes m s o (doubled s)) (sym is) (record { leads = first; count = omega arith })
    ]

-- ---- a renormalisation

pub renorme-suc : (k : ℕ) (m : Machine) → renorme (suc k) m ≡ cond (ltb m.width 32768) (renorme k (twice m)) m
unfolding renorme
renorme-suc k m = refl

pub renormalised-suc : (k : ℕ) (s : State) → renormalised (suc k) s ≡ cond (ltb s.width 32768) (renormalised k (doubled s)) s
unfolding renormalised
renormalised-suc k s = refl

pub renorme-zero : (m : Machine) → renorme 0 m ≡ m
unfolding renorme
renorme-zero m = refl

pub renormalised-zero : (s : State) → renormalised 0 s ≡ s
unfolding renormalised
renormalised-zero s = refl

pub goes-renorme : (k : ℕ) (m : Machine) (s : State) → 1 ≤ m.count → HoldsInterval m s → Goes m s (renorme k m) (renormalised k s)
goes-renorme zero m s h i =
    subst (λ (u : State). Goes m s (renorme 0 m) u) (sym (renormalised-zero s)) (subst (λ (o : Machine). Goes m s o s) (sym (renorme-zero m)) (record { leads = leads-self m s i; count = h }))
goes-renorme (suc k) m s h i =
    elim (cases_lt m.width 32768) [
      | inl l ↦
          let first = goes-twice m s h l i in
          let rest = goes-renorme k (twice m) (doubled s) first.count first.leads.holds in
          let here : renorme (suc k) m ≡ renorme k (twice m) = renorme-suc k m ∙ ap (λ (t : Bool). cond t (renorme k (twice m)) m) (lt-ltb m.width 32768 l) in
          let there : renormalised (suc k) s ≡ renormalised k (doubled s) = renormalised-suc k s ∙ ap (λ (t : Bool). cond t (renormalised k (doubled s)) s) (lt-ltb s.width 32768 (omega (arith, i.width))) in
          subst (λ (u : State). Goes m s (renorme (suc k) m) u) (sym there) (subst (λ (o : Machine). Goes m s o (renormalised k (doubled s))) (sym here) (record {
            leads = leads-then m (twice m) (renorme k (twice m)) s (doubled s) (renormalised k (doubled s)) first.leads rest.leads;
            count = rest.count;
          }))
      | inr l ↦
          let here : renorme (suc k) m ≡ m = renorme-suc k m ∙ ap (λ (t : Bool). cond t (renorme k (twice m)) m) (le-ltb m.width 32768 l) in
          let there : renormalised (suc k) s ≡ s = renormalised-suc k s ∙ ap (λ (t : Bool). cond t (renormalised k (doubled s)) s) (le-ltb s.width 32768 (omega (arith, i.width))) in
          subst (λ (u : State). Goes m s (renorme (suc k) m) u) (sym there) (subst (λ (o : Machine). Goes m s o s) (sym here) (record { leads = leads-self m s i; count = h }))
    ]

-- ---- several shifts

pub below-half : (a p : ℕ) → 0 < p → 2 * a * p < 65536 → a < 32768
below-half a p h l =
    let k = mul-le (2 * a) 1 (2 * a) p (omega arith) (omega arith) in
    omega (arith, k)

pub leads-shifts : (k : ℕ) (m : Machine) (s : State) → k ≤ m.count → m.width * 2 ^ k < 2 ^ 16 → HoldsInterval m s → Leads m s (shifted_by k m) (doubled_by k s)
leads-shifts zero m s h l i = leads-self m s i
leads-shifts (suc k) m s h l i =
    let p : m.width * 2 ^ suc k ≡ 2 * m.width * 2 ^ k = ap (λ x. m.width * x) (pow-succ' 2 k) ∙ grind arith in
    let small : m.width < 2 ^ 15 = below-half m.width (2 ^ k) (pow_pos k) (omega arith) in
    let first = leads-shifted m s (omega arith) small i in
    leads-then m (shifted m) (shifted_by k (shifted m)) s (doubled s) (doubled_by k (doubled s)) first (leads-shifts k (shifted m) (doubled s) (omega arith) (omega arith) first.holds)

pub shifts-count : (k : ℕ) (m : Machine) → (shifted_by k m).count ≡ m.count - k
shifts-count zero m = omega arith
shifts-count (suc k) m = omega (arith, shifts-count k (shifted m))

pub doubled_by-low : (k : ℕ) (s : State) → (doubled_by k s).low ≡ s.low * 2 ^ k
doubled_by-low zero s = omega arith
doubled_by-low (suc k) s = doubled_by-low k (doubled s) ∙ sym (ap (λ x. s.low * x) (pow-succ' 2 k) ∙ grind arith)

pub doubled_by-doublings : (k : ℕ) (s : State) → (doubled_by k s).doublings ≡ s.doublings + k
doubled_by-doublings zero s = omega arith
doubled_by-doublings (suc k) s = omega (arith, doubled_by-doublings k (doubled s))
