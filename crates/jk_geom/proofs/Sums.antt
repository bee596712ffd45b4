-- Shares of numbers that stand one behind another: each begins where the shares before it end.
use Rattle.std.proofs.Common.{◌≡◌, ℕ, zero, suc, ◌+◌, ◌*◌, ◌<◌, ◌≤◌, ◌⊎◌, inl, inr, ap, ◌∙◌, arith}
use Rattle.std.proofs.lemmas.Bool.{cases_lt}

-- f i is where share i begins, and g i how large it is
abbrev pub Sums : (f g : ℕ → ℕ) → Type 0
Sums f g = (i : ℕ) → f (suc i) ≡ f i + g i

-- a share ends before those behind it begin
pub sums_rise : (f g : ℕ → ℕ) → Sums f g → (i j : ℕ) → i < j → f i + g i ≤ f j
sums_rise f g sums i zero less = absurd (omega (arith, less))
sums_rise f g sums i (suc j) less = by (λ before. sums_rise f g sums i j before) (cases_lt i j)
  where
    by : (i < j → f i + g i ≤ f j) → (i < j) ⊎ (j ≤ i) → f i + g i ≤ f (suc j)
    by rise (inl before) = let rest = rise before in let one = sums j in omega (arith, rest, one)
    by rise (inr last) = let same : i ≡ j = omega (arith, less, last) in let one = sums j in let is : f i + g i ≡ f j + g j = ap (λ n. f n + g n) same in omega (arith, one, is)

-- a number is of one share, and stands at one place in it
pub sums_once : (f g : ℕ → ℕ) → Sums f g → (i j k l : ℕ) → k < g i → l < g j → f i + k ≡ f j + l → (i ≡ j) × (k ≡ l)
sums_once f g sums i j k l low high e = by (cases_lt i j) (cases_lt j i)
  where
    by : (i < j) ⊎ (j ≤ i) → (j < i) ⊎ (i ≤ j) → (i ≡ j) × (k ≡ l)
    by (inl less) other = absurd (let rise = sums_rise f g sums i j less in omega (arith, rise, low, e))
    by (inr more) (inl less) = absurd (let rise = sums_rise f g sums j i less in omega (arith, rise, high, e))
    by (inr more) (inr less) = let same : i ≡ j = omega (arith, more, less) in let at : f i ≡ f j = ap f same in (same, omega (arith, at, e))

-- shares of the same size
pub times_more : (l : ℕ) → Sums (λ i. i * l) (λ i. l)
times_more l i = let one : suc i ≡ i + 1 = omega arith in ap (λ m. m * l) one ∙ omega arith
