-- Samples that are put into pixels, one after another.
use borrow.Author.Count.{below_more}
use Rattle.std.proofs.lemmas.List.{get_or-set_same, get_or-set_other, length-set}
use Rattle.std.proofs.lemmas.Bool.{cases_lt, cases_eq}
use Rattle.std.proofs.Math.Nat.{mul-le-mul_right, add-mul}
use Rattle.std.proofs.Common.{◌≡◌, ℕ, ℤ, List, ◌+◌, ◌*◌, ◌<◌, ◌≤◌, pos, length, set, inl, inr, ap, ◌∙◌, arith, get_or}

-- the pixels of a component lie within the list
pub place_below : (i n k c : ℕ) → i < n → c < k → i * k + c < n * k
place_below i n k c l m =
    let more : (i + 1) * k ≤ n * k = mul-le-mul_right k (omega arith) in
    let one : (i + 1) * k ≡ i * k + 1 * k = add-mul i 1 k in
    omega (arith, more, one)

-- the component of another pixel, or another component, lies elsewhere
places_apart : (i j k c e : ℕ) → c < k → e < k → (j ≡ i → e ≡ c → ⊥) → j * k + e ≡ i * k + c → ⊥
places_apart i j k c e l m apart same =
    elim (cases_eq j i) [
      | inl is ↦ apart is (omega (arith, ap (λ n. n * k) is, same))
      | inr other ↦ elim (cases_lt j i) [
        | inl less ↦ let before = place_below j i k e less m in absurd (omega (arith, before, same))
        | inr more ↦ let behind = place_below i j k c (omega (arith, other, more)) l in absurd (omega (arith, behind, same))
      ]
    ]

-- The samples of the first pixels lie at their places, as the values of elements, and the other
-- components are as before.
pub record IsSpread {X : Type 0} (value : X → ℤ) (none : X) (n k c : ℕ) (samples : List ℤ) (before pixels : List X) : Type 0 where
  pub long : length pixels ≡ length before
  pub put : (i : ℕ) → i < n → value (get_or pixels (i * k + c) none) ≡ get_or samples i (pos 0)
  pub keeps : (e i : ℕ) → e < k → (e ≡ c → ⊥) → get_or pixels (i * k + e) none ≡ get_or before (i * k + e) none

-- one more of them
pub spread_more : {X : Type 0} (value : X → ℤ) (none : X) (n k c : ℕ) (b : X) (samples : List ℤ) (before pixels : List X) → n < length samples → c < k → length before ≡ length samples * k
    → value b ≡ get_or samples n (pos 0) → IsSpread value none n k c samples before pixels → IsSpread value none (n + 1) k c samples before (set pixels (n * k + c) b)
spread_more {X} value none n k c b samples before pixels l m room is p =
    let long = p.long in
    let place = place_below n (length samples) k c l m in
    let within : n * k + c < length pixels = omega (arith, place, long, room) in
    record {
      long = rw length-set long;
      put = below_more (λ i. value (get_or (set pixels (n * k + c) b) (i * k + c) none) ≡ get_or samples i (pos 0)) n
          (λ i less. ap value (get_or-set_other pixels (n * k + c) (i * k + c) b none (places_apart n i k c c m m (λ same e. omega (arith, less, same)))) ∙ p.put i less)
          (ap value (get_or-set_same pixels (n * k + c) b none within) ∙ is);
      keeps = λ e i few other.
          get_or-set_other pixels (n * k + c) (i * k + e) b none (places_apart n i k c e m few (λ same is. other is)) ∙ p.keeps e i few other;
    }
