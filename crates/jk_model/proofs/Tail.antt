-- The code value past the placed bytes, where ones are fed.
use Rattle.std.proofs.Common.{◌≡◌, ◌∙◌, ap, sym, subst, refl, ℕ, zero, suc, ◌+◌, ◌-◌, ◌*◌, ◌/◌, ◌%◌, ◌^◌, ◌<◌, ◌≤◌, inl, inr, Bool, true, false, not, cond, List, [], ◌∷◌, length, eqb, ltb, arith}
use Rattle.std.proofs.lemmas.Bool.{cases_eq, and_from, and_left, and_right, eq-eqb, ne_eqb, lt-ltb, or_right}
use Rattle.std.proofs.lemmas.Nat.{pow-add}
use Rattle.jk_model.specs.Code.{byte_at, is_last, is_past, fed, code_places, start, wanted, share, shares, code_value}
use Rattle.jk_model.proofs.CodeValue.{is_last-is, is_past-suc, fed-is, places-is, start-suc, wanted-suc, share-in, shares-suc, code_value-upto}
use Rattle.jk_model.specs.Placed.{placed_number, end, Clean, onto}
use Rattle.jk_model.proofs.Join.{byte-onto, at-placed, shares-placed, wanted-placed}

same_both : (t : Bool) (a : ℕ) → cond t a a ≡ a
same_both true a = refl
same_both false a = refl

ended-last : (b : List ℕ) (i : ℕ) → byte_at b i ≡ 255 → byte_at b (i + 1) ≡ 255 → is_last b i ≡ true
ended-last b i h k = is_last-is b i ∙ and_from (eqb (byte_at b i) 255) (ltb 143 (byte_at b (i + 1))) (eq-eqb (byte_at b i) 255 h) (lt-ltb 143 (byte_at b (i + 1)) (omega arith))

ended-places : (b : List ℕ) (i : ℕ) → byte_at b i ≡ 255 → byte_at b (i + 1) ≡ 255 → code_places b i ≡ 8
ended-places b i h k =
    let past : is_past b (suc i) ≡ true = is_past-suc b i ∙ or_right (is_past b i) (is_last b i) (ended-last b i h k) in
    places-is b i ∙ ap (λ t. cond t 7 8) (and_right (eqb (fed b i) 255) (not (is_past b (suc i))) (ap not past))

-- the last placed byte is eight places long
last-places : (b : List ℕ) (l x : ℕ) → byte_at b l ≡ x → fed b l ≡ x → byte_at b (l + 1) ≡ 255 → code_places b l ≡ 8
last-places b l x h f k =
    elim (cases_eq x 255) [
      | inl e ↦ ended-places b l (h ∙ e) k
      | inr n ↦ places-is b l ∙ ap (λ t. cond t 7 8) (and_left (eqb (fed b l) 255) (not (is_past b (suc l))) (ne_eqb (fed b l) 255 (λ g. n (sym f ∙ g))))
    ]

-- where the bytes past the end begin
start-ones : (xs : List ℕ) (x j : ℕ) → Clean (x ∷ xs) → start (onto xs (x ∷ [])) (suc (length xs) + j) ≡ end (x ∷ xs) + 8 * j
start-ones xs x zero c =
    let b = onto xs (x ∷ []) in
    let l = length xs in
    let a = at-placed xs x [] c in
    let e : suc l + 0 ≡ suc l = omega arith in
    let long = last-places b l x (byte-onto xs (x ∷ []) 0 l (omega arith)) a.byte_is (byte-onto xs (x ∷ []) 1 (l + 1) (omega arith)) in
    ap (λ i. start b i) e ∙ omega (arith, start-suc b l, long, a.ends)
start-ones xs x (suc j) c =
    let b = onto xs (x ∷ []) in
    let i = suc (length xs) + j in
    let e : suc (length xs) + suc j ≡ suc i = omega arith in
    let long = ended-places b i (byte-onto (x ∷ xs) [] j i (omega arith)) (byte-onto (x ∷ xs) [] (j + 1) (i + 1) (omega arith)) in
    ap (λ k. start b k) e ∙ omega (arith, start-suc b i, long, start-ones xs x j c)

wanted-ones : (xs : List ℕ) (x j : ℕ) → Clean (x ∷ xs) → wanted (onto xs (x ∷ [])) (suc (length xs) + j) ≡ end (x ∷ xs) + 8 * j
wanted-ones xs x zero c =
    let e : suc (length xs) + 0 ≡ suc (length xs) = omega arith in
    ap (λ i. wanted (onto xs (x ∷ [])) i) e ∙ omega (arith, wanted-placed (x ∷ xs) [] c)
wanted-ones xs x (suc j) c =
    let e : suc (length xs) + suc j ≡ suc (suc (length xs) + j) = omega arith in
    ap (λ i. wanted (onto xs (x ∷ [])) i) e ∙ omega (arith, wanted-suc (onto xs (x ∷ [])) (suc (length xs) + j), start-ones xs x j c)

fed-ones : (xs : List ℕ) (x j : ℕ) → fed (onto xs (x ∷ [])) (suc (length xs) + j) ≡ 255
fed-ones xs x j =
    let b = onto xs (x ∷ []) in
    let i = suc (length xs) + j in
    let byte : byte_at b i ≡ 255 = byte-onto (x ∷ xs) [] j i (omega arith) in
    fed-is b i ∙ ap (λ y. cond (is_past b i) 255 y) byte ∙ same_both (is_past b i) 255

-- after j bytes of ones only the last of their places is missing
shares-ones : (xs : List ℕ) (x n t j r : ℕ) → Clean (x ∷ xs) → end xs ≤ n + 14 → t + end (x ∷ xs) ≡ n + 22 → r + 8 * j ≡ t → shares (onto xs (x ∷ [])) n (suc (length xs) + j) + 2 ^ r ≡ (placed_number (x ∷ xs) + 1) * 2 ^ t
shares-ones xs x n t zero r c h k e =
    let b = onto xs (x ∷ []) in
    let zero_more : suc (length xs) + 0 ≡ suc (length xs) = omega arith in
    let same : r ≡ t = omega arith in
    let whole : placed_number (x ∷ xs) * 2 ^ t + 2 ^ t ≡ (placed_number (x ∷ xs) + 1) * 2 ^ t = grind arith in
    ap (λ i. shares b n i + 2 ^ r) zero_more ∙ ap (λ i. shares b n (suc (length xs)) + 2 ^ i) same ∙ ap (λ y. y + 2 ^ t) (shares-placed xs x [] n t c h k) ∙ whole
shares-ones xs x n t (suc j) r c h k e =
    let b = onto xs (x ∷ []) in
    let i = suc (length xs) + j in
    let next : suc (length xs) + suc j ≡ suc i = omega arith in
    let before = shares-ones xs x n t j (r + 8) c h k (omega arith) in
    let exponent : n + 14 - start b i ≡ r = omega (arith, start-ones xs x j c) in
    let new : share b n i ≡ 255 * 2 ^ r = share-in b n i (omega (arith, wanted-ones xs x j c)) ∙ ap (λ f. f * 2 ^ (n + 14 - start b i)) (fed-ones xs x j) ∙ ap (λ y. 255 * 2 ^ y) exponent in
    ap (λ y. shares b n y + 2 ^ r) next ∙ omega (arith, shares-suc b n i, new, before, pow-add 2 r 8)

wanted-before : (xs : List ℕ) (x n t j : ℕ) → Clean (x ∷ xs) → end xs ≤ n + 14 → t + end (x ∷ xs) ≡ n + 22 → 8 * j ≤ t → wanted (onto xs (x ∷ [])) (length xs + j) ≤ n + 14
wanted-before xs x n t zero c h k l =
    let e : length xs ≡ length xs + 0 = omega arith in
    subst (λ y. wanted (onto xs (x ∷ [])) y ≤ n + 14) e (omega (arith, wanted-placed xs (x ∷ []) c.1))
wanted-before xs x n t (suc j) c h k l =
    let e : suc (length xs) + j ≡ length xs + suc j = omega arith in
    subst (λ y. wanted (onto xs (x ∷ [])) y ≤ n + 14) e (omega (arith, wanted-ones xs x j c))

-- What is fed past the placed bytes makes the code value short of the next number by at most 128.
pub value-tail : (xs : List ℕ) (x n t : ℕ) → Clean (x ∷ xs) → end xs ≤ n + 14 → t + end (x ∷ xs) ≡ n + 22 → (r : ℕ) × (r < 8) × (code_value (onto (x ∷ xs) []) n + 2 ^ r ≡ (placed_number (x ∷ xs) + 1) * 2 ^ t)
value-tail xs x n t c h k =
    let b = onto xs (x ∷ []) in
    let j = t / 8 in
    let r = t % 8 in
    let i = length xs + j in
    let split : r + 8 * j ≡ t = omega arith in
    let small : r < 8 = omega arith in
    let e : suc (length xs) + j ≡ suc i = omega arith in
    let last : wanted b i ≤ n + 14 = wanted-before xs x n t j c h k (omega arith) in
    let beyond : n + 14 < wanted b (suc i) = subst (λ y. n + 14 < wanted b y) e (omega (arith, wanted-ones xs x j c)) in
    let value = code_value-upto b n i last beyond in
    (r, small, ap (λ y. y + 2 ^ r) value ∙ ap (λ y. shares b n y + 2 ^ r) (sym e) ∙ shares-ones xs x n t j r c h k split)
