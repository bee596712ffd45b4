-- The finished bytes spell the decisions.
use Rattle.std.proofs.Common.{◌≡◌, ◌∙◌, ap, sym, subst, refl, ℕ, zero, suc, ◌+◌, ◌-◌, ◌*◌, ◌^◌, ◌<◌, ◌≤◌, inl, inr, Bool, true, false, not, cond, List, [], ◌∷◌, length, get_or, set, ltb, arith}
use Rattle.std.specs.Bool.{beq}
use Rattle.std.specs.List.{list_all}
use Rattle.std.proofs.Math.Nat.{pow-succ'}
use Rattle.std.proofs.lemmas.Bool.{cases_lt, cases_eq, lt-ltb, le-ltb, ltb-true, and_parts}
use Rattle.std.proofs.lemmas.List.{get_or-set_same, get_or-set_other, set_past}
use Rattle.jk_model.specs.Code.{code_value}
use Rattle.jk_model.specs.Contexts.{Context, begins, moved, row_of, first_contexts}
use Rattle.jk_model.specs.Decisions.{State, Decision, initial, context_at, qe_at, is_lower, doubled, renormalised, IsInInterval, SpellsFrom}
use Rattle.jk_model.specs.Deciding.{takes_lower, taken, contexts_taken, made, decided, state_by}
use Rattle.jk_model.specs.CodingPasses.{begun_by, state_by_passes, SpellsPassesFrom}
use Rattle.jk_model.proofs.Laws.{row-sound, bit-taken, after-decided, state_after-by}
use Rattle.jk_mqenc.specs.Machine.{Machine, HoldsInterval}
use Rattle.jk_mqenc.specs.Since.{Since}
use Rattle.jk_mqenc.specs.Leads.{Leads}
use Rattle.jk_mqenc.specs.Coding.{subinterval, renorme, flushed}
use Rattle.jk_mqenc.specs.Deciding.{machine_decided, machine_by, machine_by_passes, Closed, Between}
use Rattle.jk_mqenc.proofs.Since.{since-now}
use Rattle.jk_mqenc.proofs.AtomicSteps.{leads-self, leads-then, leads-narrow, goes-renorme, renormalised-suc, renormalised-zero}
use Rattle.jk_mqenc.proofs.Flush.{closes}
use Rattle.jk_mqenc.proofs.Closing.{bytes_of, closed-above, closed-below}

-- ---- one decision

pub holds-contexts : (m : Machine) (s : State) (c : List Context) → HoldsInterval m s → HoldsInterval m (record s { contexts = c })
holds-contexts m s c h = record {
  low = h.low;
  clock = h.clock;
  count = h.count;
  width = h.width;
  positive = h.positive;
  largest = h.largest;
  room = h.room;
  above = h.above;
  clean = h.clean;
}

since-contexts : (t : State) (m : Machine) (s : State) (c : List Context) → Since t m s → Since t m (record s { contexts = c })
since-contexts t m s c h = record { more = h.more; clock = h.clock; low = h.low; high = h.high; kept = h.kept }

leads-contexts : (m : Machine) (s : State) (n : Machine) (u : State) (c : List Context) → Leads m s n u → Leads m s n (record u { contexts = c })
leads-contexts m s n u c h = record {
  holds = holds-contexts n u c h.holds;
  since = λ t k. since-contexts t n u c (h.since t k);
  ends = λ w e k. h.ends w e k;
}

pub subinterval-lower : (m : Machine) (q : ℕ) → subinterval m q true ≡ record m { width = q }
unfolding subinterval
subinterval-lower m q = refl

pub subinterval-upper : (m : Machine) (q : ℕ) → subinterval m q false ≡ record m { code = m.code + q; width = m.width - q }
unfolding subinterval
subinterval-upper m q = refl

pub taken-lower : (s : State) (cx : ℕ) → taken s cx true ≡ record s { width = qe_at s cx }
unfolding taken
taken-lower s cx = refl

pub taken-upper : (s : State) (cx : ℕ) → taken s cx false ≡ record s { low = s.low + qe_at s cx; width = s.width - qe_at s cx }
unfolding taken
taken-upper s cx = refl

pub leads-lower : (m : Machine) (s : State) (q : ℕ) → 1 ≤ q → q ≤ m.width → HoldsInterval m s → Leads m s (record m { width = q }) (record s { width = q })
leads-lower m s q h k i =
    let e : m.code + 0 ≡ m.code = omega arith in
    let f : s.low + 0 ≡ s.low = omega arith in
    let l = leads-narrow m s 0 q h (omega arith) i in
    subst (λ x. Leads m s (record m { width = q }) (record s { low = x; width = q })) f (subst (λ x. Leads m s (record m { code = x; width = q }) (record s { low = s.low + 0; width = q })) e l)

pub leads-upper : (m : Machine) (s : State) (q : ℕ) → q < m.width → HoldsInterval m s → Leads m s (record m { code = m.code + q; width = m.width - q }) (record s { low = s.low + q; width = s.width - q })
leads-upper m s q h i =
    let e : m.width - q ≡ s.width - q = ap (λ x. x - q) i.width in
    subst (λ x. Leads m s (record m { code = m.code + q; width = m.width - q }) (record s { low = s.low + q; width = x })) e (leads-narrow m s q (m.width - q) (omega arith) (omega arith) i)

leads-subinterval : (m : Machine) (s : State) (cx : ℕ) (lower : Bool) → 1 ≤ qe_at s cx → qe_at s cx < m.width → HoldsInterval m s → Leads m s (subinterval m (qe_at s cx) lower) (taken s cx lower)
leads-subinterval m s cx true h k i =
    subst (λ (n : Machine). Leads m s n (taken s cx true)) (sym (subinterval-lower m (qe_at s cx))) (subst (λ (u : State). Leads m s (record m { width = qe_at s cx }) u) (sym (taken-lower s cx)) (leads-lower m s (qe_at s cx) h (omega arith) i))
leads-subinterval m s cx false h k i =
    subst (λ (n : Machine). Leads m s n (taken s cx false)) (sym (subinterval-upper m (qe_at s cx))) (subst (λ (u : State). Leads m s (record m { code = m.code + qe_at s cx; width = m.width - qe_at s cx }) u) (sym (taken-upper s cx)) (leads-upper m s (qe_at s cx) k i))

subinterval-count : (m : Machine) (q : ℕ) (lower : Bool) → (subinterval m q lower).count ≡ m.count
unfolding subinterval
subinterval-count m q true = refl
subinterval-count m q false = refl

contexts_taken-is : (s : State) (cx : ℕ) (lower bit : Bool) → contexts_taken s cx lower bit ≡ record (taken s cx lower) { contexts = cond (ltb (taken s cx lower).width 32768) (set s.contexts cx (moved (context_at s cx) bit)) s.contexts }
unfolding contexts_taken
contexts_taken-is s cx lower bit = refl

made-is : (s : State) (cx : ℕ) (lower bit : Bool) → made s cx lower bit ≡ renormalised 15 (contexts_taken s cx lower bit)
unfolding made
made-is s cx lower bit = refl

-- from before a decision to the subinterval, and from the subinterval on
record Steps (m : Machine) (s : State) (d : Decision) : Type 0 where
  divides : Leads m s (subinterval m (qe_at s d.0) (takes_lower s d.0 d.1)) (taken s d.0 (takes_lower s d.0 d.1))
  doubles : Leads (subinterval m (qe_at s d.0) (takes_lower s d.0 d.1)) (taken s d.0 (takes_lower s d.0 d.1)) (machine_decided m s d) (decided s d)
  between : Between (machine_decided m s d) (decided s d)

-- ---- the contexts

abbrev context : ℕ → Bool → Context
context state mps = record { state = state; mps = mps }

moved-either : (t : Bool) (a b : ℕ) (p q : Bool) → a < 47 → b < 47 → (cond t (context a p) (context b q)).state < 47
moved-either true a b p q h k = h
moved-either false a b p q h k = k

moved-state : (cx : Context) (bit : Bool) → cx.state < 47 → (moved cx bit).state < 47
unfolding moved
moved-state cx bit h =
    let r = row-sound cx.state h in
    moved-either (beq bit cx.mps) (row_of cx.state).next_mps (row_of cx.state).next_lps cx.mps (cond (row_of cx.state).switch (not cx.mps) cx.mps) r.after_mps r.after_lps

set-state : (xs : List Context) (i j : ℕ) (c : Context) → c.state < 47 → (get_or xs j (begins 0)).state < 47 → (get_or (set xs i c) j (begins 0)).state < 47
set-state xs i j c h k =
    elim (cases_eq j i) [
      | inl e ↦ elim (cases_lt i (length xs)) [
        | inl l ↦ subst (λ n. (get_or (set xs i c) n (begins 0)).state < 47) (sym e) (subst (λ (y : Context). y.state < 47) (sym (get_or-set_same xs i c (begins 0) l)) h)
        | inr l ↦ subst (λ (ys : List Context). (get_or ys j (begins 0)).state < 47) (sym (set_past xs i c l)) k
      ]
      | inr n ↦ subst (λ (y : Context). y.state < 47) (sym (get_or-set_other xs i j c (begins 0) n)) k
    ]

renormalised-contexts : (k : ℕ) (s : State) → (renormalised k s).contexts ≡ s.contexts
renormalised-contexts zero s = ap (λ (u : State). u.contexts) (renormalised-zero s)
renormalised-contexts (suc k) s =
    elim (cases_lt s.width 32768) [
      | inl l ↦ ap (λ (u : State). u.contexts) (renormalised-suc k s ∙ ap (λ (t : Bool). cond t (renormalised k (doubled s)) s) (lt-ltb s.width 32768 l)) ∙ renormalised-contexts k (doubled s)
      | inr l ↦ ap (λ (u : State). u.contexts) (renormalised-suc k s ∙ ap (λ (t : Bool). cond t (renormalised k (doubled s)) s) (le-ltb s.width 32768 l))
    ]

pub renormalised-wide : (k : ℕ) (s : State) → 32768 ≤ s.width * 2 ^ k → 32768 ≤ (renormalised k s).width
renormalised-wide zero s h = subst (λ (u : State). 32768 ≤ u.width) (sym (renormalised-zero s)) (omega arith)
renormalised-wide (suc k) s h =
    elim (cases_lt s.width 32768) [
      | inl l ↦
          let p : s.width * 2 ^ suc k ≡ 2 * s.width * 2 ^ k = ap (λ x. s.width * x) (pow-succ' 2 k) ∙ grind arith in
          subst (λ (u : State). 32768 ≤ u.width) (sym (renormalised-suc k s ∙ ap (λ (t : Bool). cond t (renormalised k (doubled s)) s) (lt-ltb s.width 32768 l))) (renormalised-wide k (doubled s) (omega arith))
      | inr l ↦ subst (λ (u : State). 32768 ≤ u.width) (sym (renormalised-suc k s ∙ ap (λ (t : Bool). cond t (renormalised k (doubled s)) s) (le-ltb s.width 32768 l))) l
    ]

either-state : (t : Bool) (xs ys : List Context) (j : ℕ) → (get_or xs j (begins 0)).state < 47 → (get_or ys j (begins 0)).state < 47 → (get_or (cond t xs ys) j (begins 0)).state < 47
either-state true xs ys j h k = h
either-state false xs ys j h k = k

pub made-contexts : (s : State) (cx : ℕ) (lower bit : Bool) → (made s cx lower bit).contexts ≡ cond (ltb (taken s cx lower).width 32768) (set s.contexts cx (moved (context_at s cx) bit)) s.contexts
made-contexts s cx lower bit =
    ap (λ (u : State). u.contexts) (made-is s cx lower bit) ∙ renormalised-contexts 15 (contexts_taken s cx lower bit) ∙ ap (λ (u : State). u.contexts) (contexts_taken-is s cx lower bit)

made-states : (s : State) (cx : ℕ) (lower bit : Bool) → ((i : ℕ) → (context_at s i).state < 47) → (i : ℕ) → (context_at (made s cx lower bit) i).state < 47
made-states s cx lower bit h i =
    subst (λ (xs : List Context). (get_or xs i (begins 0)).state < 47) (sym (made-contexts s cx lower bit)) (either-state (ltb (taken s cx lower).width 32768) (set s.contexts cx (moved (context_at s cx) bit)) s.contexts i (set-state s.contexts cx i (moved (context_at s cx) bit) (moved-state (context_at s cx) bit (h cx)) (h i)) (h i))

steps : (m : Machine) (s : State) (d : Decision) → HoldsInterval m s → Between m s → Steps m s d
steps m s d i b =
    let cx = d.0 in
    let lower = takes_lower s cx d.1 in
    let q = qe_at s cx in
    let row = row-sound (context_at s cx).state (b.states cx) in
    let n = subinterval m q lower in
    let t = taken s cx lower in
    let u = contexts_taken s cx lower d.1 in
    let first = leads-subinterval m s cx lower row.smallest (omega (arith, row.largest, b.wide, i.width)) i in
    let second : Leads n t n u = subst (λ (v : State). Leads n t n v) (sym (contexts_taken-is s cx lower d.1)) (leads-contexts n t n t (cond (ltb t.width 32768) (set s.contexts cx (moved (context_at s cx) d.1)) s.contexts) (leads-self n t first.holds)) in
    let third = goes-renorme 15 n u (omega (arith, b.count, subinterval-count m q lower)) second.holds in
    let positive : 1 ≤ u.width = omega (arith, second.holds.positive, second.holds.width) in
    let same = made-is s cx lower d.1 in
    record {
      divides = first;
      doubles = subst (λ (v : State). Leads n t (renorme 15 n) v) (sym same) (leads-then n n (renorme 15 n) t u (renormalised 15 u) second third.leads);
      between = record {
        count = third.count;
        wide = subst (λ (v : State). 32768 ≤ v.width) (sym same) (renormalised-wide 15 u (omega arith));
        states = made-states s cx lower d.1 b.states;
      };
    }

-- ---- all decisions

pub record LeadsBy (m : Machine) (s : State) (ds : List Decision) : Type 0 where
  pub leads : Leads m s (machine_by m s ds) (state_by s ds)
  pub between : Between (machine_by m s ds) (state_by s ds)

pub leads_by : (m : Machine) (s : State) (ds : List Decision) → HoldsInterval m s → Between m s → LeadsBy m s ds
leads_by m s [] i b = record { leads = leads-self m s i; between = b }
leads_by m s (d ∷ ds) i b =
    let first = steps m s d i b in
    let n = subinterval m (qe_at s d.0) (takes_lower s d.0 d.1) in
    let t = taken s d.0 (takes_lower s d.0 d.1) in
    let rest = leads_by (machine_decided m s d) (decided s d) ds first.doubles.holds first.between in
    record {
      leads = leads-then m (machine_decided m s d) (machine_by m s (d ∷ ds)) s (decided s d) (state_by s (d ∷ ds)) (leads-then m n (machine_decided m s d) s t (decided s d) first.divides first.doubles) rest.leads;
      between = rest.between;
    }

is_lower-is : (b : List ℕ) (s : State) (cx : ℕ) → is_lower b s cx ≡ ltb (code_value b s.doublings) (128 * (s.low + qe_at s cx))
unfolding is_lower
is_lower-is b s cx = refl

-- the code value lies in the subinterval that the bit took
side : (b : List ℕ) (s : State) (cx : ℕ) (lower : Bool) → Closed b (taken s cx lower) → is_lower b s cx ≡ lower
side b s cx true c =
    let k = subst (λ (u : State). Closed b u) (taken-lower s cx) c in
    is_lower-is b s cx ∙ lt-ltb (code_value b s.doublings) (128 * (s.low + qe_at s cx)) k.below
side b s cx false c =
    let k = subst (λ (u : State). Closed b u) (taken-upper s cx) c in
    is_lower-is b s cx ∙ le-ltb (code_value b s.doublings) (128 * (s.low + qe_at s cx)) k.least

-- Bytes that lie within each interval that the registers remember spell the decisions.
pub spelled : (b : List ℕ) (m : Machine) (s : State) (ds : List Decision) → HoldsInterval m s → Between m s → ((t : State) → Since t (machine_by m s ds) (state_by s ds) → Closed b t) → SpellsFrom b s ds
spelled b m s [] i w c = tt
spelled b m s (d ∷ ds) i w c =
    let first = steps m s d i w in
    let n = subinterval m (qe_at s d.0) (takes_lower s d.0 d.1) in
    let t = taken s d.0 (takes_lower s d.0 d.1) in
    let n2 = machine_decided m s d in
    let s2 = decided s d in
    let rest = leads_by n2 s2 ds first.doubles.holds first.between in
    let here = c s (rest.leads.since s (first.doubles.since s (first.divides.since s (since-now m s i)))) in
    let there = c t (rest.leads.since t (first.doubles.since t (since-now n t first.divides.holds))) in
    let next = c s2 (rest.leads.since s2 (since-now n2 s2 first.doubles.holds)) in
    let lower = side b s d.0 (takes_lower s d.0 d.1) there in
    let same = after-decided b s d.0 d.1 lower in (
      here.below,
      bit-taken b s d.0 d.1 lower,
      subst (λ (u : State). IsInInterval b u) (sym same) next.below,
      subst (λ (u : State). SpellsFrom b u ds) (sym same) (spelled b n2 s2 ds first.doubles.holds first.between c),
    )

-- the finished bytes
pub closed-flushed : (m : Machine) (s : State) → HoldsInterval m s → Between m s → (t : State) → Since t m s → Closed (bytes_of (flushed m)) t
closed-flushed m s i b t since =
    let c = closes m s b.count (omega (arith, b.wide, i.width)) i in
    record { least = closed-below t m s (flushed m) c since; below = closed-above t m s (flushed m) c since }

-- ---- pass by pass

-- a pass begins
pub record Begins (r : Bool) (m : Machine) (s : State) : Type 0 where
  pub leads : Leads m s m (begun_by r s)
  pub between : Between m (begun_by r s)

states-in : (xs : List Context) (i : ℕ) → list_all (λ c. ltb c.state 47) xs ≡ true → (get_or xs i (begins 0)).state < 47
states-in [] i h = omega arith
states-in (x ∷ xs) zero h = ltb-true x.state 47 (and_parts (ltb x.state 47) (list_all (λ c. ltb c.state 47) xs) h).0
states-in (x ∷ xs) (suc i) h = states-in xs i (and_parts (ltb x.state 47) (list_all (λ c. ltb c.state 47) xs) h).1

pub first-states : (i : ℕ) → (context_at initial i).state < 47
unfolding first_contexts
first-states i = states-in first_contexts i refl

pub begins-by : (r : Bool) (m : Machine) (s : State) → HoldsInterval m s → Between m s → Begins r m s
begins-by true m s i b = record {
  leads = leads-contexts m s m s first_contexts (leads-self m s i);
  between = record { count = b.count; wide = b.wide; states = first-states };
}
begins-by false m s i b = record { leads = leads-self m s i; between = b }

pub record LeadsByPasses (r : Bool) (m : Machine) (s : State) (dss : List (List Decision)) : Type 0 where
  pub leads : Leads m s (machine_by_passes r m s dss) (state_by_passes r s dss)
  pub between : Between (machine_by_passes r m s dss) (state_by_passes r s dss)

pub leads_by_passes : (r : Bool) (m : Machine) (s : State) (dss : List (List Decision)) → HoldsInterval m s → Between m s → LeadsByPasses r m s dss
leads_by_passes r m s [] i b = record { leads = leads-self m s i; between = b }
leads_by_passes r m s (ds ∷ dss) i b =
    let n = begun_by r s in
    let first = begins-by r m s i b in
    let pass = leads_by m n ds first.leads.holds first.between in
    let m1 = machine_by m n ds in
    let s1 = state_by n ds in
    let rest = leads_by_passes r m1 s1 dss pass.leads.holds pass.between in
    record {
      leads = leads-then m m1 (machine_by_passes r m1 s1 dss) s s1 (state_by_passes r s1 dss) (leads-then m m m1 s n s1 first.leads pass.leads) rest.leads;
      between = rest.between;
    }

-- Bytes that lie within each interval that the registers remember spell the passes.
pub spelled-passes : (r : Bool) (b : List ℕ) (m : Machine) (s : State) (dss : List (List Decision)) → HoldsInterval m s → Between m s
    → ((t : State) → Since t (machine_by_passes r m s dss) (state_by_passes r s dss) → Closed b t) → SpellsPassesFrom r b s dss
spelled-passes r b m s [] i w c = tt
spelled-passes r b m s (ds ∷ dss) i w c =
    let n = begun_by r s in
    let first = begins-by r m s i w in
    let pass = leads_by m n ds first.leads.holds first.between in
    let m1 = machine_by m n ds in
    let s1 = state_by n ds in
    let rest = leads_by_passes r m1 s1 dss pass.leads.holds pass.between in
    let here = spelled b m n ds first.leads.holds first.between (λ t since. c t (rest.leads.since t since)) in
    (here, subst (λ (u : State). SpellsPassesFrom r b u dss) (sym (state_after-by b n ds here)) (spelled-passes r b m1 s1 dss pass.leads.holds pass.between c))
