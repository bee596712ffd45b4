-- The encoder over a list of decisions.
use Rattle.std.proofs.Common.{◌≡◌, ◌∙◌, ap, sym, subst, refl, ℕ, ◌-◌, ◌≤◌, Bool, true, false, not, cond, List, [], ◌∷◌, ◌++◌, length, get_or, set, ltb, arith}
use Rattle.std.specs.Bool.{beq}
use Rattle.std.proofs.lemmas.List.{set-get_or}
use Rattle.jk_model.specs.Contexts.{Context, begins, moved, row_of, first_contexts}
use Rattle.jk_model.specs.Decisions.{State, Decision, initial, context_at, qe_at, is_exchanged}
use Rattle.jk_model.specs.CodingPasses.{restarted, begun_by, state_by_passes, SpellsPasses}
use Rattle.jk_mqenc.specs.Machine.{Machine, HoldsInterval}
use Rattle.jk_model.specs.Deciding.{takes_lower, taken, decided, state_by}
use Rattle.jk_model.proofs.Laws.{takes_lower-is, state_by-joined, state_by_passes-joined}
use Rattle.jk_mqenc.specs.Coding.{subinterval, renorme, flushed}
use Rattle.jk_mqenc.specs.Deciding.{machine_decided, machine_by, machine_by_passes, Between}
use Rattle.jk_model.specs.Placed.{onto}
use Rattle.jk_mqenc.specs.Encoded.{EncoderView, started, CodesFrom, Codes, HasCodedFrom, HasCoded, written_by, without_last_ff, finished}
use Rattle.jk_mqenc.proofs.Machine.{holds-started}
use Rattle.jk_mqenc.proofs.Spelled.{first-states, begins-by, leads_by, leads_by_passes, made-contexts, taken-lower, taken-upper}
use Rattle.jk_mqenc.proofs.Prefix.{spelled-all}
use Rattle.jk_mqenc.proofs.Finished.{alike-last}

pub between-started : Between started initial
between-started = record { count = omega arith; wide = omega arith; states = first-states }

pub machine_by-more : (m : Machine) (s : State) (xs ys : List Decision) → machine_by m s (xs ++ ys) ≡ machine_by (machine_by m s xs) (state_by s xs) ys
machine_by-more m s [] ys = refl
machine_by-more m s (d ∷ xs) ys = machine_by-more (machine_decided m s d) (decided s d) xs ys

-- the registers after more passes
pub machine_by_passes-more : (r : Bool) (m : Machine) (s : State) (xs ys : List (List Decision)) → machine_by_passes r m s (xs ++ ys) ≡ machine_by_passes r (machine_by_passes r m s xs) (state_by_passes r s xs) ys
machine_by_passes-more r m s [] ys = refl
machine_by_passes-more r m s (ds ∷ xs) ys = machine_by_passes-more r (machine_by m (begun_by r s) ds) (state_by (begun_by r s) ds) xs ys

-- what the registers of an encoder hold
pub record IsCoded (e : EncoderView) (s : State) : Type 0 where
  pub holds : HoldsInterval e.machine s
  pub between : Between e.machine s
  pub contexts : e.contexts ≡ s.contexts

pub is_coded : (m : Machine) (s : State) (e : EncoderView) (ds : List Decision) → CodesFrom m s e ds → IsCoded e (state_by s ds)
is_coded m s e ds c =
    let r = leads_by m s ds c.holds c.between in
    record {
      holds = subst (λ (n : Machine). HoldsInterval n (state_by s ds)) (sym c.machine) r.leads.holds;
      between = subst (λ (n : Machine). Between n (state_by s ds)) (sym c.machine) r.between;
      contexts = c.contexts;
    }

pub coded-of : (e : EncoderView) → HasCoded e → e.failed ≡ false → (s : State) × IsCoded e s
coded-of e h l = let c = h l in (state_by c.1 c.2, is_coded c.0 c.1 e c.2 c.3)

pub held-of : (e : EncoderView) → HasCoded e → e.failed ≡ false → (s : State) × HoldsInterval e.machine s
held-of e h l = let c = coded-of e h l in (c.0, c.1.holds)

pub wide-of : (e : EncoderView) → HasCoded e → e.failed ≡ false → 32768 ≤ e.machine.width
wide-of e h l = let i = (coded-of e h l).1 in omega (arith, i.holds.width, i.between.wide)

pub count-of : (e : EncoderView) → HasCoded e → e.failed ≡ false → 1 ≤ e.machine.count
count-of e h l = (coded-of e h l).1.between.count

-- ---- passes

abbrev from_machine : Bool → List (List Decision) → Machine
from_machine r before = machine_by_passes r started initial before

abbrev from_state : Bool → List (List Decision) → State
from_state r before = begun_by r (state_by_passes r initial before)

-- the decisions of the last pass
last-from : (e : EncoderView) (r : Bool) (before : List (List Decision)) (ds : List Decision) → Codes e r (before ++ ds ∷ []) → CodesFrom (from_machine r before) (from_state r before) e ds
last-from e r before ds c =
    let by = leads_by_passes r started initial before holds-started between-started in
    let begins = begins-by r (from_machine r before) (state_by_passes r initial before) by.leads.holds by.between in
    record {
      holds = begins.leads.holds;
      between = begins.between;
      machine = c.machine ∙ machine_by_passes-more r started initial before (ds ∷ []);
      contexts = c.contexts ∙ ap (λ (s : State). s.contexts) (state_by_passes-joined r initial before (ds ∷ []));
      lasting = c.lasting;
    }

from-last : (e : EncoderView) (r : Bool) (before : List (List Decision)) (ds : List Decision) → CodesFrom (from_machine r before) (from_state r before) e ds → Codes e r (before ++ ds ∷ [])
from-last e r before ds c = record {
  machine = c.machine ∙ sym (machine_by_passes-more r started initial before (ds ∷ []));
  contexts = c.contexts ∙ ap (λ (s : State). s.contexts) (sym (state_by_passes-joined r initial before (ds ∷ [])));
  lasting = c.lasting;
}

-- what is coded goes on in the last pass
pub pass-more : (old new : EncoderView) (r : Bool) (before : List (List Decision)) (ds more : List Decision) → ((m : Machine) (s : State) (xs : List Decision) → CodesFrom m s old xs → CodesFrom m s new (xs ++ more))
    → Codes old r (before ++ ds ∷ []) → Codes new r (before ++ (ds ++ more) ∷ [])
pass-more old new r before ds more step c =
    from-last new r before (ds ++ more) (step (from_machine r before) (from_state r before) ds (last-from old r before ds c))

-- other registers and contexts that are the same
pub codes-as : (m : Machine) (s : State) (e f : EncoderView) (ds : List Decision) → f.machine ≡ e.machine → f.contexts ≡ e.contexts → f.failed ≡ false → CodesFrom m s e ds → CodesFrom m s f ds
codes-as m s e f ds machine contexts lasting c =
    record { holds = c.holds; between = c.between; machine = machine ∙ c.machine; contexts = contexts ∙ c.contexts; lasting = lasting }

-- an encoder of no decisions
pub begun-from : (e : EncoderView) → e.machine ≡ started → e.contexts ≡ first_contexts → e.failed ≡ false → CodesFrom started initial e []
begun-from e machine contexts lasting = record { holds = holds-started; between = between-started; machine = machine; contexts = contexts; lasting = lasting }

-- a pass begins: with context reset by first contexts, without it by nothing
pub pass-restarts : (old new : EncoderView) (dss : List (List Decision)) → new.machine ≡ old.machine → new.contexts ≡ first_contexts → new.failed ≡ old.failed → Codes old true dss → Codes new true (dss ++ [] ∷ [])
pass-restarts old new dss machine contexts failed c = record {
  machine = machine ∙ c.machine ∙ sym (machine_by_passes-more true started initial dss ([] ∷ []));
  contexts = contexts ∙ ap (λ (s : State). s.contexts) (sym (state_by_passes-joined true initial dss ([] ∷ [])));
  lasting = failed ∙ c.lasting;
}

pub pass-begins : (e : EncoderView) (dss : List (List Decision)) → Codes e false dss → Codes e false (dss ++ [] ∷ [])
pass-begins e dss c = record {
  machine = c.machine ∙ sym (machine_by_passes-more false started initial dss ([] ∷ []));
  contexts = c.contexts ∙ ap (λ (s : State). s.contexts) (sym (state_by_passes-joined false initial dss ([] ∷ [])));
  lasting = c.lasting;
}

-- where an encoder goes on with first contexts
pub restarts-from : (old new : EncoderView) → new.machine ≡ old.machine → new.contexts ≡ first_contexts → new.failed ≡ false → HasCodedFrom old → HasCodedFrom new
restarts-from old new machine contexts lasting h =
    let i = is_coded h.0 h.1 old h.2 h.3 in
    let s = state_by h.1 h.2 in
    let begins = begins-by true old.machine s i.holds i.between in
    (old.machine, restarted s, [], record { holds = begins.leads.holds; between = begins.between; machine = machine; contexts = contexts; lasting = lasting })

exchanged : (s : State) (cx : ℕ) (bit : Bool) → beq (beq bit (context_at s cx).mps) (ltb (s.width - qe_at s cx) (qe_at s cx)) ≡ beq (beq bit (context_at s cx).mps) (is_exchanged s cx)
unfolding is_exchanged
exchanged s cx bit = refl

taken-width : (s : State) (cx : ℕ) (lower : Bool) → (taken s cx lower).width ≡ cond lower (qe_at s cx) (s.width - qe_at s cx)
taken-width s cx true = ap (λ (t : State). t.width) (taken-lower s cx)
taken-width s cx false = ap (λ (t : State). t.width) (taken-upper s cx)

-- one decision more
pub codes-more : (from : Machine) (at : State) (old new : EncoderView) (cx q : ℕ) (bit lower : Bool) (ds : List Decision) → q ≡ (row_of (get_or old.contexts cx (begins 0)).state).qe → lower ≡ beq (beq bit (get_or old.contexts cx (begins 0)).mps) (ltb (old.machine.width - q) q) → new.machine ≡ renorme 15 (subinterval old.machine q lower) → new.contexts ≡ cond (ltb (cond lower q (old.machine.width - q)) 32768) (set old.contexts cx (moved (get_or old.contexts cx (begins 0)) bit)) old.contexts → new.failed ≡ false → CodesFrom from at old ds → CodesFrom from at new (ds ++ (cx, bit) ∷ [])
codes-more from at old new cx q bit lower ds qe low m k lasting c =
    let s = state_by at ds in
    let i = is_coded from at old ds c in
    let q_is : q ≡ qe_at s cx = qe ∙ ap (λ (x : List Context). (row_of (get_or x cx (begins 0)).state).qe) c.contexts in
    let side : lower ≡ takes_lower s cx bit = low ∙ ap (λ (x : List Context). beq (beq bit (get_or x cx (begins 0)).mps) (ltb (old.machine.width - q) q)) c.contexts ∙ ap (λ x. beq (beq bit (context_at s cx).mps) (ltb (old.machine.width - x) x)) q_is ∙ ap (λ x. beq (beq bit (context_at s cx).mps) (ltb (x - qe_at s cx) (qe_at s cx))) i.holds.width ∙ exchanged s cx bit ∙ sym (takes_lower-is s cx bit) in
    let machine : new.machine ≡ machine_decided (machine_by from at ds) s (cx, bit) = m ∙ ap (λ (x : Machine). renorme 15 (subinterval x q lower)) c.machine ∙ ap (λ x. renorme 15 (subinterval (machine_by from at ds) x lower)) q_is ∙ ap (λ (t : Bool). renorme 15 (subinterval (machine_by from at ds) (qe_at s cx) t)) side in
    let width : cond lower q (old.machine.width - q) ≡ (taken s cx (takes_lower s cx bit)).width = ap (λ x. cond lower x (old.machine.width - x)) q_is ∙ ap (λ x. cond lower (qe_at s cx) (x - qe_at s cx)) i.holds.width ∙ ap (λ (t : Bool). cond t (qe_at s cx) (s.width - qe_at s cx)) side ∙ sym (taken-width s cx (takes_lower s cx bit)) in
    let contexts : new.contexts ≡ (decided s (cx, bit)).contexts = k ∙ ap (λ (x : List Context). cond (ltb (cond lower q (old.machine.width - q)) 32768) (set x cx (moved (get_or x cx (begins 0)) bit)) x) c.contexts ∙ ap (λ x. cond (ltb x 32768) (set s.contexts cx (moved (context_at s cx) bit)) s.contexts) width ∙ sym (made-contexts s cx (takes_lower s cx bit) bit) in
    record {
      holds = c.holds;
      between = c.between;
      machine = machine ∙ sym (machine_by-more from at ds ((cx, bit) ∷ []));
      contexts = contexts ∙ ap (λ (x : State). x.contexts) (sym (state_by-joined at ds ((cx, bit) ∷ [])));
      lasting = lasting;
    }

side-of : (same upper : Bool) → not (beq (not same) upper) ≡ beq same upper
side-of true true = refl
side-of true false = refl
side-of false true = refl
side-of false false = refl

symbol-of : (bit mps : Bool) → cond (not (beq bit mps)) (not mps) mps ≡ bit
symbol-of true true = refl
symbol-of true false = refl
symbol-of false true = refl
symbol-of false false = refl

-- a context that may have moved
moved-if : (xs : List Context) (cx : ℕ) (t : Bool) (x : Context) → set xs cx (cond t x (get_or xs cx (begins 0))) ≡ cond t (set xs cx x) xs
moved-if xs cx true x = refl
moved-if xs cx false x = set-get_or xs cx (begins 0)

-- one decision more, as the code makes it
pub codes-step : (from : Machine) (start : State) (old new : EncoderView) (cx q size : ℕ) (bit mps : Bool) (context next : Context) (ds : List Decision) → context ≡ get_or old.contexts cx (begins 0) → mps ≡ context.mps → q ≡ (row_of context.state).qe
    → size ≡ cond (not (beq (not (beq bit mps)) (ltb (old.machine.width - q) q))) q (old.machine.width - q)
    → next ≡ cond (ltb size 32768) (moved context (cond (not (beq bit mps)) (not context.mps) context.mps)) context
    → new.machine ≡ renorme 15 (subinterval old.machine q (not (beq (not (beq bit mps)) (ltb (old.machine.width - q) q)))) → new.contexts ≡ set old.contexts cx next → new.failed ≡ false → CodesFrom from start old ds → CodesFrom from start new (ds ++ (cx, bit) ∷ [])
codes-step from start old new cx q size bit mps context next ds here symbol qe subinterval_is next_is machine contexts lasting codes =
    let at = get_or old.contexts cx (begins 0) in
    let lower = beq (beq bit at.mps) (ltb (old.machine.width - q) q) in
    let side : not (beq (not (beq bit mps)) (ltb (old.machine.width - q) q)) ≡ lower =
    side-of (beq bit mps) (ltb (old.machine.width - q) q) ∙ ap (λ m. beq (beq bit m) (ltb (old.machine.width - q) q)) (symbol ∙ ap (λ (x : Context). x.mps) here) in
    let size_is : size ≡ cond lower q (old.machine.width - q) = subinterval_is ∙ ap (λ (t : Bool). cond t q (old.machine.width - q)) side in
    let bit_is : cond (not (beq bit mps)) (not context.mps) context.mps ≡ bit = ap (λ m. cond (not (beq bit m)) (not context.mps) context.mps) symbol ∙ symbol-of bit context.mps in
    codes-more from start old new cx q bit lower ds (qe ∙ ap (λ (x : Context). (row_of x.state).qe) here) refl
    (machine ∙ ap (λ (t : Bool). renorme 15 (subinterval old.machine q t)) side)
    (contexts ∙ ap (λ (x : Context). set old.contexts cx x) (next_is ∙ ap (λ (b : Bool). cond (ltb size 32768) (moved context b) context) bit_is ∙ ap (λ (x : Context). cond (ltb size 32768) (moved x bit) x) here)
    ∙ moved-if old.contexts cx (ltb size 32768) (moved at bit) ∙ ap (λ n. cond (ltb n 32768) (set old.contexts cx (moved at bit)) old.contexts) size_is)
    lasting codes

-- the bytes of the registers
pub codes-finished : (e : EncoderView) (r : Bool) (dss : List (List Decision)) (b : List ℕ) → b ≡ onto (without_last_ff (flushed e.machine).placed) [] → Codes e r dss → b ≡ finished r dss
unfolding finished
codes-finished e r dss b h c = h ∙ ap (λ (m : Machine). onto (without_last_ff (flushed m).placed) []) c.machine

pub codes-written : (e : EncoderView) (r : Bool) (dss : List (List Decision)) → Codes e r dss → length e.machine.placed ≡ written_by r dss
unfolding written_by
codes-written e r dss c = ap (λ (m : Machine). length m.placed) c.machine

pub finished-is : (r : Bool) (dss : List (List Decision)) → finished r dss ≡ onto (without_last_ff (flushed (machine_by_passes r started initial dss)).placed) []
unfolding finished
finished-is r dss = refl

pub written_by-is : (r : Bool) (dss : List (List Decision)) → written_by r dss ≡ length (machine_by_passes r started initial dss).placed
unfolding written_by
written_by-is r dss = refl

-- they spell the passes
pub finished-spells : (r : Bool) (dss : List (List Decision)) → SpellsPasses r (finished r dss) dss
finished-spells r dss =
    let m = machine_by_passes r started initial dss in
    subst (λ (b : List ℕ). SpellsPasses r b dss) (sym (finished-is r dss)) (spelled-all r started initial dss (onto (without_last_ff (flushed m).placed) []) holds-started between-started (alike-last (flushed m).placed))
