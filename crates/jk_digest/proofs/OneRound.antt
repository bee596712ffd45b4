-- The rounds of a block, one more each time.
use Rattle.std.proofs.Common.{◌≡◌, ℕ, ◌+◌, ◌*◌, ◌≤◌, List, [], ◌∷◌, get_or, add-one, refl, sym, ap, ◌∙◌, arith}
use Rattle.sha2.specs.Sha256.{round, rounds, round_constants, schedule, add_state, compress, add32, temp1, temp2}

pub one_more : (v h ws : List ℕ) (t w : ℕ) → v ≡ rounds h ws t → w ≡ get_or ws t 0 → round v (get_or round_constants t 0) w ≡ rounds h ws (t + 1)
unfolding rounds
one_more v h ws t w e f = (λ i. round (e i) (get_or round_constants t 0) (f i)) ∙ ap (λ n. rounds h ws n) (sym (add-one t))

pub before_all : (h ws : List ℕ) → h ≡ rounds h ws 0
unfolding rounds
before_all h ws = refl

-- behind the last one the variables are added to the hash value
pub behind_all : (h b v : List ℕ) (n : ℕ) → n ≤ 8 → 8 ≤ n → v ≡ rounds h (schedule b 48) (8 * n) → add_state h v ≡ compress h b
unfolding compress
behind_all h b v n most least e =
    let all : 8 * n ≡ 64 = omega arith in
    ap (λ (x : List ℕ). add_state h x) (e ∙ ap (λ k. rounds h (schedule b 48) k) all)

-- one round more, in numbers that stand for the sums
pub behind_one : (h b v : List ℕ) (t w f s : ℕ) → v ≡ rounds h (schedule b 48) t → w ≡ get_or (schedule b 48) t 0
    → f ≡ temp1 v (get_or round_constants t 0) w → s ≡ temp2 v
    → add32 f s ∷ get_or v 0 0 ∷ get_or v 1 0 ∷ get_or v 2 0 ∷ add32 (get_or v 3 0) f ∷ get_or v 4 0 ∷ get_or v 5 0 ∷ get_or v 6 0 ∷ []
    ≡ rounds h (schedule b 48) (t + 1)
behind_one h b v t w f s ev ew ef es =
    (λ i. add32 (ef i) (es i) ∷ get_or v 0 0 ∷ get_or v 1 0 ∷ get_or v 2 0 ∷ add32 (get_or v 3 0) (ef i) ∷ get_or v 4 0 ∷ get_or v 5 0 ∷ get_or v 6 0 ∷ [])
    ∙ one_more v h (schedule b 48) t w ev ew
