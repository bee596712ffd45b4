-- A long enough first part of the bytes spells what came before.
use Rattle.std.proofs.Common.{◌≡◌, ◌∙◌, ap, sym, refl, ℕ, Bool, zero, suc, ◌+◌, ◌-◌, ◌≤◌, List, [], ◌∷◌, ◌++◌, length, drop, arith}
use Rattle.std.proofs.Common.{append_assoc, length-drop, ◌++◌, take}
use Rattle.std.proofs.lemmas.List.{take_at}
use Rattle.jk_model.specs.Code.{code_value}
use Rattle.jk_model.specs.Decisions.{State, Decision}
use Rattle.jk_model.specs.CodingPasses.{state_by_passes, SpellsPassesFrom}
use Rattle.jk_model.proofs.Laws.{value-alike}
use Rattle.jk_model.specs.Placed.{end, Clean, onto}
use Rattle.jk_model.specs.Deciding.{Alike}
use Rattle.jk_mqenc.specs.Machine.{Machine, HoldsInterval}
use Rattle.jk_mqenc.specs.Coding.{flushed}
use Rattle.jk_mqenc.specs.Deciding.{machine_by_passes, Closed, Between}
use Rattle.jk_mqenc.proofs.Ending.{ends-last, end-of_more}
use Rattle.jk_mqenc.proofs.Spelled.{leads_by_passes, spelled-passes, closed-flushed}
use Rattle.jk_mqenc.proofs.Closing.{bytes_of}
use Rattle.jk_mqenc.proofs.Flush.{closes}
use Rattle.jk_model.proofs.Laws.{value-kept}

-- ---- a first part of the bytes

clean-drop : (i : ℕ) (bs : List ℕ) → Clean bs → Clean (drop i bs)
clean-drop zero bs c = c
clean-drop (suc i) [] c = tt
clean-drop (suc i) (x ∷ xs) c = clean-drop i xs c.1

rest-of : (i : ℕ) (bs q : List ℕ) → (r : List ℕ) × (onto bs q ≡ onto (drop i bs) r)
rest-of zero bs q = (q, refl)
rest-of (suc i) [] q = (q, refl)
rest-of (suc i) (x ∷ xs) q = rest-of i xs (x ∷ q)

-- the code value at a moment that the first part decides
pub value-part : (bs : List ℕ) (i n : ℕ) → Clean bs → n + 15 ≤ end (drop i bs) → code_value (onto (drop i bs) []) n ≡ code_value (onto bs []) n
value-part bs i n c h =
    let r = rest-of i bs [] in
    value-kept (drop i bs) [] r.0 n (clean-drop i bs c) h ∙ ap (λ (x : List ℕ). code_value x n) (sym r.1)

closed-same : (a b : List ℕ) (t : State) → code_value b t.doublings ≡ code_value a t.doublings → Closed a t → Closed b t
closed-same a b t e c = record { least = omega (arith, c.least); below = omega (arith, c.below) }

-- Four bytes more than were placed after the first decisions spell these, whatever was coded after
-- them.
pub spelled-part : (r : Bool) (m : Machine) (s : State) (dss rest : List (List Decision)) (z : ℕ) (b : List ℕ) → HoldsInterval m s → Between m s
    → let f = (flushed (machine_by_passes r (machine_by_passes r m s dss) (state_by_passes r s dss) rest)).placed in
    length (machine_by_passes r m s dss).placed + 4 ≤ z → z ≤ length f → Alike b (onto (drop (length f - z) f) []) → SpellsPassesFrom r b s dss
spelled-part r m s dss rest z b i w h k same =
    let first = leads_by_passes r m s dss i w in
    let m1 = machine_by_passes r m s dss in
    let s1 = state_by_passes r s dss in
    let second = leads_by_passes r m1 s1 rest first.leads.holds first.between in
    let m2 = machine_by_passes r m1 s1 rest in
    let s2 = state_by_passes r s1 rest in
    let f = (flushed m2).placed in
    let c = closes m2 s2 second.between.count (omega (arith, second.between.wide, second.leads.holds.width)) second.leads.holds in
    let long = end-of_more (length m1.placed) (end m1.placed) z f (c.leads.ends (length m1.placed) (end m1.placed) (second.leads.ends (length m1.placed) (end m1.placed) (ends-last m1.placed))) h k in
    let part = onto (drop (length f - z) f) [] in
    spelled-passes r b m s dss i w (λ t since.
    let whole = closed-flushed m2 s2 second.leads.holds second.between t (second.leads.since t since) in
    let decided : t.doublings + 15 ≤ end (drop (length f - z) f) = omega (arith, long, since.clock, first.leads.holds.clock, first.between.count) in
    closed-same (bytes_of (flushed m2)) b t (value-alike b part same t.doublings ∙ value-part f (length f - z) t.doublings c.leads.holds.clean decided) whole)

-- The finished bytes, or bytes that read alike, spell all passes.
pub spelled-all : (r : Bool) (m : Machine) (s : State) (dss : List (List Decision)) (b : List ℕ) → HoldsInterval m s → Between m s → Alike b (bytes_of (flushed (machine_by_passes r m s dss))) → SpellsPassesFrom r b s dss
spelled-all r m s dss b i w same =
    let by = leads_by_passes r m s dss i w in
    let n = machine_by_passes r m s dss in
    spelled-passes r b m s dss i w (λ t since. closed-same (bytes_of (flushed n)) b t (value-alike b (bytes_of (flushed n)) same t.doublings) (closed-flushed n (state_by_passes r s dss) by.leads.holds by.between t since))

-- ---- a first part, in order

pub onto-append : (bs q : List ℕ) → onto bs q ≡ onto bs [] ++ q
onto-append [] q = refl
onto-append (x ∷ xs) q =
    onto-append xs (x ∷ q) ∙ sym (append_assoc (onto xs []) (x ∷ []) q) ∙ ap (λ (y : List ℕ). y ++ q) (sym (onto-append xs (x ∷ [])))

pub length-onto : (bs q : List ℕ) → length (onto bs q) ≡ length bs + length q
length-onto [] q = omega arith
length-onto (x ∷ xs) q = omega (arith, length-onto xs (x ∷ q))

-- the first z bytes are the last z that are kept in the other order
pub take-part : (f : List ℕ) (z : ℕ) → z ≤ length f → take z (onto f []) ≡ onto (drop (length f - z) f) []
take-part f z h =
    let i = length f - z in
    let p = drop i f in
    let r = rest-of i f [] in
    let size : length (onto p []) ≡ z = omega (arith, length-onto p [], length-drop i f) in
    ap (λ (x : List ℕ). take z x) (r.1 ∙ onto-append p r.0) ∙ take_at (onto p []) r.0 z size
