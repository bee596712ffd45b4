-- The states that decisions lead to are those of bytes that spell them.
use Rattle.std.proofs.Common.{◌≡◌, ◌∙◌, ap, sym, subst, refl, ℕ, Bool, true, false, not, cond, List, [], ◌∷◌, ◌++◌}
use Rattle.std.specs.Bool.{beq}
use Rattle.jk_model.specs.Decisions.{State, Decision, context_at, is_exchanged, is_lower, bit_at, divided, contexts_after, after, state_after, IsInInterval, SpellsFrom}
use Rattle.jk_model.specs.Deciding.{takes_lower, taken, contexts_taken, made, decided, state_by, Follows}

bit-back : (bit mps ex : Bool) → cond (beq (beq (beq bit mps) ex) ex) mps (not mps) ≡ bit
bit-back true true true = refl
bit-back true true false = refl
bit-back true false true = refl
bit-back true false false = refl
bit-back false true true = refl
bit-back false true false = refl
bit-back false false true = refl
bit-back false false false = refl

subinterval-back : (lower mps ex : Bool) → lower ≡ beq (beq (cond (beq lower ex) mps (not mps)) mps) ex
subinterval-back true true true = refl
subinterval-back true true false = refl
subinterval-back true false true = refl
subinterval-back true false false = refl
subinterval-back false true true = refl
subinterval-back false true false = refl
subinterval-back false false true = refl
subinterval-back false false false = refl

pub takes_lower-is : (s : State) (cx : ℕ) (bit : Bool) → takes_lower s cx bit ≡ beq (beq bit (context_at s cx).mps) (is_exchanged s cx)
unfolding takes_lower
takes_lower-is s cx bit = refl

pub bit_at-is : (b : List ℕ) (s : State) (cx : ℕ) → bit_at b s cx ≡ cond (beq (is_lower b s cx) (is_exchanged s cx)) (context_at s cx).mps (not (context_at s cx).mps)
unfolding bit_at
bit_at-is b s cx = refl

pub bit-taken : (b : List ℕ) (s : State) (cx : ℕ) (bit : Bool) → is_lower b s cx ≡ takes_lower s cx bit → bit_at b s cx ≡ bit
bit-taken b s cx bit h =
    let mps = (context_at s cx).mps in
    bit_at-is b s cx ∙ ap (λ (t : Bool). cond (beq t (is_exchanged s cx)) mps (not mps)) (h ∙ takes_lower-is s cx bit) ∙ bit-back bit mps (is_exchanged s cx)

pub subinterval-taken : (b : List ℕ) (s : State) (cx : ℕ) (bit : Bool) → bit_at b s cx ≡ bit → is_lower b s cx ≡ takes_lower s cx bit
subinterval-taken b s cx bit h =
    let mps = (context_at s cx).mps in
    subinterval-back (is_lower b s cx) mps (is_exchanged s cx) ∙ ap (λ (t : Bool). beq (beq t mps) (is_exchanged s cx)) (sym (bit_at-is b s cx) ∙ h) ∙ sym (takes_lower-is s cx bit)

pub after-made : (b : List ℕ) (s : State) (cx : ℕ) → after b s cx ≡ made s cx (is_lower b s cx) (bit_at b s cx)
unfolding after made contexts_taken contexts_after divided taken
after-made b s cx = refl

pub after-decided : (b : List ℕ) (s : State) (cx : ℕ) (bit : Bool) → is_lower b s cx ≡ takes_lower s cx bit → after b s cx ≡ decided s (cx, bit)
after-decided b s cx bit h =
    after-made b s cx ∙ ap (λ (t : Bool). made s cx t (bit_at b s cx)) h ∙ ap (λ (t : Bool). made s cx (takes_lower s cx bit) t) (bit-taken b s cx bit h)

-- bytes that spell the decisions lead to the same state
pub state_after-by : (b : List ℕ) (s : State) (ds : List Decision) → SpellsFrom b s ds → state_after b s ds ≡ state_by s ds
state_after-by b s [] h = refl
state_after-by b s (d ∷ ds) h =
    state_after-by b (after b s d.0) ds h.3 ∙ ap (λ (t : State). state_by t ds) (after-decided b s d.0 d.1 (subinterval-taken b s d.0 d.1 h.1))

-- spelled by the subintervals that are taken
pub spells-follows : (b : List ℕ) (s : State) (ds : List Decision) → Follows b s ds → SpellsFrom b s ds
spells-follows b s [] h = tt
spells-follows b s (d ∷ ds) h =
    let e = sym (after-decided b s d.0 d.1 h.1) in
    (h.0, bit-taken b s d.0 d.1 h.1, subst (λ (t : State). IsInInterval b t) e h.2, subst (λ (t : State). SpellsFrom b t ds) e (spells-follows b (decided s d) ds h.3))

pub follows-spells : (b : List ℕ) (s : State) (ds : List Decision) → SpellsFrom b s ds → Follows b s ds
follows-spells b s [] h = tt
follows-spells b s (d ∷ ds) h =
    let p = subinterval-taken b s d.0 d.1 h.1 in
    let e = after-decided b s d.0 d.1 p in
    (h.0, p, subst (λ (t : State). IsInInterval b t) e h.2, subst (λ (t : State). Follows b t ds) e (follows-spells b (after b s d.0) ds h.3))

pub state_by-joined : (s : State) (xs ys : List Decision) → state_by s (xs ++ ys) ≡ state_by (state_by s xs) ys
state_by-joined s [] ys = refl
state_by-joined s (d ∷ xs) ys = state_by-joined (decided s d) xs ys
