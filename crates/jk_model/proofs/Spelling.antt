-- Laws of what bytes spell.
use Rattle.std.proofs.Common.{◌≡◌, ◌∙◌, ap, sym, subst, ℕ, Bool, List, [], ◌∷◌, ◌++◌, length, refl, arith}
use Rattle.jk_model.specs.Decisions.{State, Decision, SpellsFrom, chosen, after, state_after}

-- bytes spell at most one list of bits of each length
pub one_list : (bytes : List ℕ) (choose : List Bool → ℕ) (s : State) (before xs ys : List Bool) → length xs ≡ length ys → SpellsFrom bytes s (chosen choose before xs) → SpellsFrom bytes s (chosen choose before ys) → xs ≡ ys
one_list bytes choose s before [] [] e h k = refl
one_list bytes choose s before [] (y ∷ ys) e h k = absurd (omega arith)
one_list bytes choose s before (x ∷ xs) [] e h k = absurd (omega arith)
one_list bytes choose s before (x ∷ xs) (y ∷ ys) e h k =
    let bit : y ≡ x = sym k.1 ∙ h.1 in
    let next = after bytes s (choose before) in
    let rest = subst (λ (b : Bool). SpellsFrom bytes next (chosen choose (before ++ b ∷ []) ys)) bit k.3 in
    ap (λ (b : Bool). b ∷ xs) (sym bit) ∙ ap (λ (bs : List Bool). y ∷ bs) (one_list bytes choose next (before ++ x ∷ []) xs ys (omega arith) h.3 rest)

pub state_after-joined : (b : List ℕ) (s : State) (xs ys : List Decision) → state_after b s (xs ++ ys) ≡ state_after b (state_after b s xs) ys
state_after-joined b s [] ys = refl
state_after-joined b s (x ∷ xs) ys = state_after-joined b (after b s x.0) xs ys

pub spells-join : (b : List ℕ) (s : State) (xs ys : List Decision) → SpellsFrom b s xs → SpellsFrom b (state_after b s xs) ys → SpellsFrom b s (xs ++ ys)
spells-join b s [] ys h k = k
spells-join b s (x ∷ xs) ys h k = (h.0, h.1, h.2, spells-join b (after b s x.0) xs ys h.3 k)

pub spells-split : (b : List ℕ) (s : State) (xs ys : List Decision) → SpellsFrom b s (xs ++ ys) → SpellsFrom b s xs × SpellsFrom b (state_after b s xs) ys
spells-split b s [] ys h = (tt, h)
spells-split b s (x ∷ xs) ys h =
    let rest = spells-split b (after b s x.0) xs ys h.3 in
    ((h.0, h.1, h.2, rest.0), rest.1)
