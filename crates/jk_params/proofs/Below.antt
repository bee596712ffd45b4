-- Tests of the numbers below one.
use Rattle.std.proofs.Common.{◌≡◌, ℕ, zero, suc, ◌+◌, ◌<◌, Bool, true, false, ◌&&◌, refl, sym, ap, ◌∙◌, add-one, inl, inr, arith}
use Rattle.std.proofs.lemmas.Bool.{and_parts, and_left, and_right, cases_lt}
use Rattle.jk_params.specs.Levels.{holds_below}

below_next : (f : ℕ → Bool) (n : ℕ) → holds_below f (suc n) ≡ (holds_below f n && f n)
unfolding holds_below
below_next f n = refl

pub below_none : (f : ℕ → Bool) → holds_below f 0 ≡ true
unfolding holds_below
below_none f = refl

pub below_more : (f : ℕ → Bool) (n : ℕ) → holds_below f n ≡ true → f n ≡ true → holds_below f (n + 1) ≡ true
below_more f n e g = rw (add-one, below_next f n, e, g) refl

-- a test that fails fails from there on
pub below_fails : (f : ℕ → Bool) (n t : ℕ) → t < n → f t ≡ false → holds_below f n ≡ false
below_fails f zero t lt e = absurd (omega (arith, lt))
below_fails f (suc n) t lt e = below_next f n ∙ elim (cases_lt t n) [
  | inl less ↦ and_left (holds_below f n) (f n) (below_fails f n t less e)
  | inr same ↦ let at : t ≡ n = omega (arith, lt, same) in and_right (holds_below f n) (f n) (sym (ap f at) ∙ e)
]

-- what holds below holds at each place
pub below_at : (f : ℕ → Bool) (n t : ℕ) → holds_below f n ≡ true → t < n → f t ≡ true
below_at f zero t e lt = absurd (omega (arith, lt))
below_at f (suc n) t e lt =
    let both = and_parts (holds_below f n) (f n) (sym (below_next f n) ∙ e) in
    elim (cases_lt t n) [
      | inl less ↦ below_at f n t both.0 less
      | inr same ↦ let at : t ≡ n = omega (arith, lt, same) in ap f at ∙ both.1
    ]

pub below_from : (f : ℕ → Bool) (n : ℕ) → ((t : ℕ) → t < n → f t ≡ true) → holds_below f n ≡ true
below_from f zero h = below_none f
below_from f (suc n) h =
    let before : holds_below f n ≡ true = below_from f n (λ t lt. h t (omega (arith, lt))) in
    let last : f n ≡ true = h n (omega arith) in
    below_next f n ∙ rw (before, last) refl
