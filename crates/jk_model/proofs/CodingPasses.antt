-- Laws of what bytes spell pass by pass.
use Rattle.std.proofs.Common.{◌≡◌, ◌∙◌, ap, sym, subst, refl, ℕ, Bool, true, false, cond, List, [], ◌∷◌, ◌++◌, length, map}
use Rattle.std.specs.List.{flat_map}
use Rattle.jk_model.specs.Decisions.{State, Decision, SpellsFrom, chosen, state_after}
use Rattle.jk_model.specs.Deciding.{Alike, state_by}
use Rattle.jk_model.specs.CodingPasses.{begun_by, state_after_passes, SpellsPassesFrom, state_by_passes, chosen_passes}
use Rattle.jk_model.proofs.Spelling.{one_list, spells-join, spells-split, state_after-joined}
use Rattle.jk_model.proofs.Deciding.{state_after-by}
use Rattle.jk_model.proofs.Alike.{spells-alike}

-- ---- passes one behind another

pub state_after_passes-joined : (r : Bool) (b : List ℕ) (s : State) (xs ys : List (List Decision)) → state_after_passes r b s (xs ++ ys) ≡ state_after_passes r b (state_after_passes r b s xs) ys
state_after_passes-joined r b s [] ys = refl
state_after_passes-joined r b s (x ∷ xs) ys = state_after_passes-joined r b (state_after b (begun_by r s) x) xs ys

pub passes-join : (r : Bool) (b : List ℕ) (s : State) (xs ys : List (List Decision)) → SpellsPassesFrom r b s xs → SpellsPassesFrom r b (state_after_passes r b s xs) ys → SpellsPassesFrom r b s (xs ++ ys)
passes-join r b s [] ys h k = k
passes-join r b s (x ∷ xs) ys h k = (h.0, passes-join r b (state_after b (begun_by r s) x) xs ys h.1 k)

pub passes-split : (r : Bool) (b : List ℕ) (s : State) (xs ys : List (List Decision)) → SpellsPassesFrom r b s (xs ++ ys) → SpellsPassesFrom r b s xs × SpellsPassesFrom r b (state_after_passes r b s xs) ys
passes-split r b s [] ys h = (tt, h)
passes-split r b s (x ∷ xs) ys h =
    let rest = passes-split r b (state_after b (begun_by r s) x) xs ys h.1 in
    ((h.0, rest.0), rest.1)

-- ---- without context reset they are one list

pub passes-flat : (b : List ℕ) (s : State) (dss : List (List Decision)) → SpellsPassesFrom false b s dss → SpellsFrom b s (flat_map (λ ds. ds) dss)
passes-flat b s [] h = tt
passes-flat b s (ds ∷ dss) h = spells-join b s ds (flat_map (λ ds. ds) dss) h.0 (passes-flat b (state_after b s ds) dss h.1)

pub flat-passes : (b : List ℕ) (s : State) (dss : List (List Decision)) → SpellsFrom b s (flat_map (λ ds. ds) dss) → SpellsPassesFrom false b s dss
flat-passes b s [] h = tt
flat-passes b s (ds ∷ dss) h =
    let parts = spells-split b s ds (flat_map (λ ds. ds) dss) h in
    (parts.0, flat-passes b (state_after b s ds) dss parts.1)

-- ---- with no bytes

pub state_by_passes-joined : (r : Bool) (s : State) (xs ys : List (List Decision)) → state_by_passes r s (xs ++ ys) ≡ state_by_passes r (state_by_passes r s xs) ys
state_by_passes-joined r s [] ys = refl
state_by_passes-joined r s (x ∷ xs) ys = state_by_passes-joined r (state_by (begun_by r s) x) xs ys

-- bytes that spell the passes lead to the same state
pub state_after_passes-by : (r : Bool) (b : List ℕ) (s : State) (dss : List (List Decision)) → SpellsPassesFrom r b s dss → state_after_passes r b s dss ≡ state_by_passes r s dss
state_after_passes-by r b s [] h = refl
state_after_passes-by r b s (ds ∷ dss) h =
    state_after_passes-by r b (state_after b (begun_by r s) ds) dss h.1 ∙ ap (λ (t : State). state_by_passes r t dss) (state_after-by b (begun_by r s) ds h.0)

pub passes-alike : (r : Bool) (a b : List ℕ) → Alike a b → (s : State) (dss : List (List Decision)) → SpellsPassesFrom r a s dss → SpellsPassesFrom r b s dss
passes-alike r a b same s [] h = tt
passes-alike r a b same s (ds ∷ dss) h =
    let begun = begun_by r s in
    let here = spells-alike a b same begun ds h.0 in
    let there : state_after a begun ds ≡ state_after b begun ds = state_after-by a begun ds h.0 ∙ sym (state_after-by b begun ds here) in
    (here, subst (λ (t : State). SpellsPassesFrom r b t dss) there (passes-alike r a b same (state_after a begun ds) dss h.1))

-- ---- one list of bits

pub one_passes : (r : Bool) (bytes : List ℕ) (choose : List (List Bool) → List Bool → ℕ) (s : State) (before xss yss : List (List Bool)) → map length xss ≡ map length yss
    → SpellsPassesFrom r bytes s (chosen_passes choose before xss) → SpellsPassesFrom r bytes s (chosen_passes choose before yss) → xss ≡ yss
one_passes r bytes choose s before [] [] e h k = refl
one_passes r bytes choose s before [] (ys ∷ yss) e h k = absurd cc
one_passes r bytes choose s before (xs ∷ xss) [] e h k = absurd cc
one_passes r bytes choose s before (xs ∷ xss) (ys ∷ yss) e h k =
    let begun = begun_by r s in
    let size : length xs ≡ length ys = cc in
    let sizes : map length xss ≡ map length yss = cc in
    let same : xs ≡ ys = one_list bytes (choose before) begun [] xs ys size h.0 k.0 in
    let again = subst (λ (bits : List Bool). SpellsPassesFrom r bytes (state_after bytes begun (chosen (choose before) [] bits)) (chosen_passes choose (before ++ bits ∷ []) yss)) (sym same) k.1 in
    ap (λ (bits : List Bool). bits ∷ xss) same
    ∙ ap (λ (more : List (List Bool)). ys ∷ more) (one_passes r bytes choose (state_after bytes begun (chosen (choose before) [] xs)) (before ++ xs ∷ []) xss yss sizes h.1 again)
