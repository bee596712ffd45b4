-- Bytes that read alike have one code value, and spell the same decisions.
use Rattle.std.proofs.Common.{◌≡◌, ◌∙◌, ap, sym, subst, refl, ℕ, zero, suc, ◌+◌, ◌-◌, ◌*◌, ◌^◌, ◌<◌, Bool, not, ◌&&◌, ◌||◌, cond, List, [], ◌∷◌, ◌++◌, eqb, ltb, leb, arith}
use Rattle.jk_model.specs.Code.{byte_at, is_last, is_past, fed, code_places, start, wanted, share, shares, code_value}
use Rattle.jk_model.specs.Decisions.{State, Decision, qe_at, is_lower, IsInInterval, SpellsFrom}
use Rattle.jk_model.specs.Deciding.{Alike, decided, Follows}
use Rattle.jk_model.proofs.CodeValue.{is_last-is, is_past-zero, is_past-suc, fed-is, places-is, start-zero, start-suc, wanted-zero, wanted-suc, share-is, shares-zero, shares-suc, code_value-is}
use Rattle.jk_model.proofs.Deciding.{spells-follows, follows-spells}

last-alike : (a b : List ℕ) → Alike a b → (i : ℕ) → is_last a i ≡ is_last b i
last-alike a b h i = is_last-is a i ∙ ap (λ x. eqb x 255 && ltb 143 (byte_at a (i + 1))) (h i) ∙ ap (λ x. eqb (byte_at b i) 255 && ltb 143 x) (h (i + 1)) ∙ sym (is_last-is b i)

past-alike : (a b : List ℕ) → Alike a b → (i : ℕ) → is_past a i ≡ is_past b i
past-alike a b h zero = is_past-zero a ∙ sym (is_past-zero b)
past-alike a b h (suc i) = is_past-suc a i ∙ ap (λ (t : Bool). t || is_last a i) (past-alike a b h i) ∙ ap (λ (t : Bool). is_past b i || t) (last-alike a b h i) ∙ sym (is_past-suc b i)

fed-alike : (a b : List ℕ) → Alike a b → (i : ℕ) → fed a i ≡ fed b i
fed-alike a b h i = fed-is a i ∙ ap (λ (t : Bool). cond t 255 (byte_at a i)) (past-alike a b h i) ∙ ap (λ x. cond (is_past b i) 255 x) (h i) ∙ sym (fed-is b i)

places-alike : (a b : List ℕ) → Alike a b → (i : ℕ) → code_places a i ≡ code_places b i
places-alike a b h i = places-is a i ∙ ap (λ x. cond (eqb x 255 && not (is_past a (suc i))) 7 8) (fed-alike a b h i) ∙ ap (λ (t : Bool). cond (eqb (fed b i) 255 && not t) 7 8) (past-alike a b h (suc i)) ∙ sym (places-is b i)

start-alike : (a b : List ℕ) → Alike a b → (i : ℕ) → start a i ≡ start b i
start-alike a b h zero = start-zero a ∙ sym (start-zero b)
start-alike a b h (suc i) = omega (arith, start-suc a i, start-suc b i, start-alike a b h i, places-alike a b h i)

wanted-alike : (a b : List ℕ) → Alike a b → (i : ℕ) → wanted a i ≡ wanted b i
wanted-alike a b h zero = wanted-zero a ∙ sym (wanted-zero b)
wanted-alike a b h (suc i) = omega (arith, wanted-suc a i, wanted-suc b i, start-alike a b h i)

share-alike : (a b : List ℕ) → Alike a b → (n i : ℕ) → share a n i ≡ share b n i
share-alike a b h n i = share-is a n i ∙ ap (λ x. cond (leb x (n + 14)) (fed a i * 2 ^ (n + 14 - start a i)) 0) (wanted-alike a b h i) ∙ ap (λ x. cond (leb (wanted b i) (n + 14)) (x * 2 ^ (n + 14 - start a i)) 0) (fed-alike a b h i) ∙ ap (λ x. cond (leb (wanted b i) (n + 14)) (fed b i * 2 ^ (n + 14 - x)) 0) (start-alike a b h i) ∙ sym (share-is b n i)

shares-alike : (a b : List ℕ) → Alike a b → (n k : ℕ) → shares a n k ≡ shares b n k
shares-alike a b h n zero = shares-zero a n ∙ sym (shares-zero b n)
shares-alike a b h n (suc k) = omega (arith, shares-suc a n k, shares-suc b n k, shares-alike a b h n k, share-alike a b h n k)

pub value-alike : (a b : List ℕ) → Alike a b → (n : ℕ) → code_value a n ≡ code_value b n
value-alike a b h n = code_value-is a n ∙ shares-alike a b h n (n + 15) ∙ sym (code_value-is b n)

-- a last FF can be left off
pub alike-ff : (bs : List ℕ) → Alike (bs ++ 255 ∷ []) bs
alike-ff [] zero = refl
alike-ff [] (suc i) = refl
alike-ff (x ∷ xs) zero = refl
alike-ff (x ∷ xs) (suc i) = alike-ff xs i

is_lower-is : (b : List ℕ) (s : State) (cx : ℕ) → is_lower b s cx ≡ ltb (code_value b s.doublings) (128 * (s.low + qe_at s cx))
unfolding is_lower
is_lower-is b s cx = refl

lower-alike : (a b : List ℕ) → Alike a b → (s : State) (cx : ℕ) → is_lower a s cx ≡ is_lower b s cx
lower-alike a b h s cx = is_lower-is a s cx ∙ ap (λ v. ltb v (128 * (s.low + qe_at s cx))) (value-alike a b h s.doublings) ∙ sym (is_lower-is b s cx)

within-alike : (a b : List ℕ) → Alike a b → (s : State) → IsInInterval a s → IsInInterval b s
within-alike a b h s k = subst (λ v. v < 128 * (s.low + s.width)) (value-alike a b h s.doublings) k

follows-alike : (a b : List ℕ) → Alike a b → (s : State) (ds : List Decision) → Follows a s ds → Follows b s ds
follows-alike a b h s [] k = tt
follows-alike a b h s (d ∷ ds) k =
    (within-alike a b h s k.0, sym (lower-alike a b h s d.0) ∙ k.1, within-alike a b h (decided s d) k.2, follows-alike a b h (decided s d) ds k.3)

pub spells-alike : (a b : List ℕ) → Alike a b → (s : State) (ds : List Decision) → SpellsFrom a s ds → SpellsFrom b s ds
spells-alike a b h s ds k = spells-follows b s ds (follows-alike a b h s ds (follows-spells a s ds k))
