-- The code value as the interval doubles: which bytes it holds, how it grows, and what the next
-- byte adds.
use Rattle.std.proofs.Common.{◌≡◌, ◌∙◌, ap, sym, ℕ, zero, suc, ◌+◌, ◌-◌, ◌*◌, ◌^◌, ◌<◌, ◌≤◌, inl, inr, Bool, true, false, not, cond, ◌&&◌, ◌||◌, List, eqb, ltb, leb, refl, arith}
use Rattle.std.proofs.Math.Nat.{pow-succ'}
use Rattle.std.proofs.lemmas.Bool.{cases_lt, le-leb, lt-leb}
use Rattle.jk_model.specs.Code.{byte_at, is_last, is_past, fed, code_places, start, wanted, share, shares, code_value}

-- ---- one equation for each definition

pub is_last-is : (b : List ℕ) (i : ℕ) → is_last b i ≡ (eqb (byte_at b i) 255 && ltb 143 (byte_at b (i + 1)))
unfolding is_last
is_last-is b i = refl

pub is_past-zero : (b : List ℕ) → is_past b 0 ≡ false
unfolding is_past
is_past-zero b = refl

pub is_past-suc : (b : List ℕ) (i : ℕ) → is_past b (suc i) ≡ (is_past b i || is_last b i)
unfolding is_past
is_past-suc b i = refl

pub fed-is : (b : List ℕ) (i : ℕ) → fed b i ≡ cond (is_past b i) 255 (byte_at b i)
unfolding fed
fed-is b i = refl

pub places-is : (b : List ℕ) (i : ℕ) → code_places b i ≡ cond (eqb (fed b i) 255 && not (is_past b (suc i))) 7 8
unfolding code_places
places-is b i = refl

pub start-zero : (b : List ℕ) → start b 0 ≡ 0
unfolding start
start-zero b = refl

pub start-suc : (b : List ℕ) (i : ℕ) → start b (suc i) ≡ start b i + code_places b i
unfolding start
start-suc b i = refl

pub wanted-zero : (b : List ℕ) → wanted b 0 ≡ 0
unfolding wanted
wanted-zero b = refl

pub wanted-suc : (b : List ℕ) (i : ℕ) → wanted b (suc i) ≡ start b i + 8
unfolding wanted
wanted-suc b i = refl

pub share-is : (b : List ℕ) (n i : ℕ) → share b n i ≡ cond (leb (wanted b i) (n + 14)) (fed b i * 2 ^ (n + 14 - start b i)) 0
unfolding share
share-is b n i = refl

pub shares-zero : (b : List ℕ) (n : ℕ) → shares b n 0 ≡ 0
unfolding shares
shares-zero b n = refl

pub shares-suc : (b : List ℕ) (n k : ℕ) → shares b n (suc k) ≡ shares b n k + share b n k
unfolding shares
shares-suc b n k = refl

pub code_value-is : (b : List ℕ) (n : ℕ) → code_value b n ≡ shares b n (n + 15)
unfolding code_value
code_value-is b n = refl

-- ---- the places of the bytes

seven_or_eight : (t : Bool) → (7 ≤ cond t 7 8) × (cond t 7 8 ≤ 8)
seven_or_eight true = (omega arith, omega arith)
seven_or_eight false = (omega arith, omega arith)

pub places-ge : (b : List ℕ) (i : ℕ) → 7 ≤ code_places b i
places-ge b i = rw places-is (seven_or_eight _).0

pub places-le : (b : List ℕ) (i : ℕ) → code_places b i ≤ 8
places-le b i = rw places-is (seven_or_eight _).1

-- byte i + 1 is wanted as many places after byte i as byte i is long
pub wanted-next : (b : List ℕ) (i : ℕ) → wanted b (suc (suc i)) ≡ wanted b (suc i) + code_places b i
wanted-next b i = omega (arith, wanted-suc b i, wanted-suc b (suc i), start-suc b i)

wanted-more : (b : List ℕ) (i : ℕ) → wanted b i + 7 ≤ wanted b (suc i)
wanted-more b zero = omega (arith, wanted-zero b, wanted-suc b 0)
wanted-more b (suc i) = omega (arith, wanted-next b i, places-ge b i)

pub wanted-ge : (b : List ℕ) (i : ℕ) → i ≤ wanted b i
wanted-ge b zero = omega arith
wanted-ge b (suc i) = omega (arith, wanted-ge b i, wanted-more b i)

wanted-grows : (b : List ℕ) (i j : ℕ) → i ≤ j → wanted b i ≤ wanted b j
wanted-grows b i zero h = let e : i ≡ 0 = omega arith in rw e (omega arith)
wanted-grows b i (suc j) h =
    elim (cases_lt j i) [
      | inl k ↦ let e : i ≡ suc j = omega arith in rw e (omega arith)
      | inr k ↦ omega (arith, wanted-grows b i j k, wanted-more b j)
    ]

start-le : (b : List ℕ) (i : ℕ) → start b i ≤ wanted b i
start-le b zero = omega (arith, start-zero b)
start-le b (suc i) = omega (arith, start-suc b i, wanted-suc b i, places-le b i)

-- ---- the shares

pub share-in : (b : List ℕ) (n i : ℕ) → wanted b i ≤ n + 14 → share b n i ≡ fed b i * 2 ^ (n + 14 - start b i)
share-in b n i h = share-is b n i ∙ ap (λ t. cond t (fed b i * 2 ^ (n + 14 - start b i)) 0) (le-leb (wanted b i) (n + 14) h)

share-out : (b : List ℕ) (n i : ℕ) → n + 14 < wanted b i → share b n i ≡ 0
share-out b n i h = share-is b n i ∙ ap (λ t. cond t (fed b i * 2 ^ (n + 14 - start b i)) 0) (lt-leb (wanted b i) (n + 14) h)

pow-double : (f k : ℕ) → f * 2 ^ suc k ≡ 2 * (f * 2 ^ k)
pow-double f k = omega (arith, ap (λ x. f * x) (pow-succ' 2 k))

-- a share that is wanted doubles
share-twice : (b : List ℕ) (n i : ℕ) → wanted b i ≤ n + 14 → share b (n + 1) i ≡ 2 * share b n i
share-twice b n i h =
    let e : n + 1 + 14 - start b i ≡ suc (n + 14 - start b i) = omega (arith, start-le b i) in
    share-in b (n + 1) i (omega arith) ∙ ap (λ x. fed b i * 2 ^ x) e ∙ pow-double (fed b i) (n + 14 - start b i) ∙ ap (λ x. 2 * x) (sym (share-in b n i h))

-- from a byte that isn't wanted on the sum stands still
shares-stop : (b : List ℕ) (n i j : ℕ) → n + 14 < wanted b i → i ≤ j → shares b n j ≡ shares b n i
shares-stop b n i zero h k = let e : i ≡ 0 = omega arith in rw e refl
shares-stop b n i (suc j) h k =
    elim (cases_lt j i) [
      | inl m ↦ let e : i ≡ suc j = omega arith in rw e refl
      | inr m ↦
          let out = share-out b n j (omega (arith, wanted-grows b i j m)) in
          omega (arith, shares-suc b n j, out, shares-stop b n i j h m)
    ]

-- the code value is the sum up to the first byte that isn't wanted
pub code_value-upto : (b : List ℕ) (n i : ℕ) → wanted b i ≤ n + 14 → n + 14 < wanted b (suc i) → code_value b n ≡ shares b n (suc i)
code_value-upto b n i h k =
    code_value-is b n ∙ shares-stop b n (suc i) (n + 15) k (omega (arith, wanted-ge b i))

shares-twice : (b : List ℕ) (n i k : ℕ) → wanted b i ≤ n + 14 → k ≤ suc i → shares b (n + 1) k ≡ 2 * shares b n k
shares-twice b n i zero h m = omega (arith, shares-zero b n, shares-zero b (n + 1))
shares-twice b n i (suc k) h m =
    let w = wanted-grows b k i (omega arith) in
    omega (arith, shares-suc b n k, shares-suc b (n + 1) k, shares-twice b n i k h (omega arith), share-twice b n k (omega arith))

-- ---- a doubling

-- no byte is wanted: the code value doubles
pub code_value-double : (b : List ℕ) (n i : ℕ) → wanted b i ≤ n + 14 → n + 15 < wanted b (suc i) → code_value b (n + 1) ≡ 2 * code_value b n
code_value-double b n i h k =
    omega (arith, code_value-upto b n i h (omega arith), code_value-upto b (n + 1) i (omega arith) (omega arith), shares-twice b n i (suc i) h (omega arith))

-- byte i + 1 is wanted: it is added, at its place
pub code_value-feed : (b : List ℕ) (n i : ℕ) → wanted b i ≤ n + 14 → wanted b (suc i) ≡ n + 15 → code_value b (n + 1) ≡ 2 * code_value b n + fed b (suc i) * 2 ^ (8 - code_places b i)
code_value-feed b n i h k =
    let before = code_value-upto b n i h (omega arith) in
    let now = code_value-upto b (n + 1) (suc i) (omega arith) (omega (arith, wanted-more b (suc i))) in
    let e : n + 1 + 14 - start b (suc i) ≡ 8 - code_places b i = omega (arith, start-suc b i, wanted-suc b i, places-le b i) in
    let new = share-in b (n + 1) (suc i) (omega arith) ∙ ap (λ x. fed b (suc i) * 2 ^ x) e in
    omega (arith, before, now, new, shares-suc b (n + 1) (suc i), shares-twice b n i (suc i) h (omega arith))

share-grows : (b : List ℕ) (n k : ℕ) → 2 * share b n k ≤ share b (n + 1) k
share-grows b n k =
    elim (cases_lt (n + 14) (wanted b k)) [
      | inl h ↦ omega (arith, share-out b n k h)
      | inr h ↦ omega (arith, share-twice b n k h)
    ]

shares-grow : (b : List ℕ) (n k : ℕ) → 2 * shares b n k ≤ shares b (n + 1) k
shares-grow b n zero = omega (arith, shares-zero b n)
shares-grow b n (suc k) = omega (arith, shares-suc b n k, shares-suc b (n + 1) k, shares-grow b n k, share-grows b n k)

-- the code value at least doubles
pub code_value-grows : (b : List ℕ) (n : ℕ) → 2 * code_value b n ≤ code_value b (n + 1)
code_value-grows b n =
    let e : n + 1 + 15 ≡ suc (n + 15) = omega arith in
    let last = code_value-is b (n + 1) ∙ ap (λ k. shares b (n + 1) k) e in
    omega (arith, code_value-is b n, last, shares-suc b (n + 1) (n + 15), shares-grow b n (n + 15))

-- ---- the start

-- The first two bytes are wanted at the start.
pub code_value-start : (b : List ℕ) → code_value b 0 ≡ fed b 0 * 2 ^ 14 + fed b 1 * 2 ^ (14 - code_places b 0)
code_value-start b =
    let w0 = wanted-zero b in
    let w1 : wanted b 1 ≡ 8 = omega (arith, wanted-suc b 0, start-zero b) in
    let w2 : 14 < wanted b 2 = omega (arith, wanted-next b 0, places-ge b 0) in
    let s1 : start b 1 ≡ code_places b 0 = omega (arith, start-suc b 0, start-zero b) in
    let upto = code_value-upto b 0 1 (omega arith) (omega arith) in
    let first = share-in b 0 0 (omega arith) ∙ ap (λ x. fed b 0 * 2 ^ (14 - x)) (start-zero b) in
    let second = share-in b 0 1 (omega arith) ∙ ap (λ x. fed b 1 * 2 ^ (14 - x)) s1 in
    omega (arith, upto, first, second, shares-suc b 0 1, shares-suc b 0 0, shares-zero b 0)
