-- Eight pairs of a line, beside the number that was made before them.
use Rattle.std.specs.Prelude.{ℕ, ℤ, List, ◌≡◌, ◌+◌, ◌*◌, ◌<◌}
use Rattle.jk_math.specs.Signed.{signed_at}
use Rattle.jk_lift.specs.Lifting.{high_pass, low_pass, even_sample, odd_sample}

-- From place i of new on stand eight pairs of samples, each an odd one and the even one behind it:
-- those of the high-pass coefficients from number h on, and of the low-pass ones from number l on,
-- of which each stands behind the high-pass one. The sample before the first pair is given, and
-- what is before the pairs is as it was.
pub record AreSamples (low : List ℤ) (l : ℕ) (high : List ℤ) (h : ℕ) (given : ℤ) (old new : List ℤ)
    (i : ℕ) : Type 0 where
  pub evens : (j : ℕ) → j < 8 → signed_at new (i + (2 * j + 1))
      ≡ even_sample (signed_at low (l + j)) (signed_at high (h + j)) (signed_at high (h + (j + 1)))
  pub first : signed_at new i ≡ odd_sample (signed_at high h) given (signed_at new (i + 1))
  pub odds : (j : ℕ) → j < 7 → signed_at new (i + 2 * (j + 1))
      ≡ odd_sample (signed_at high (h + (j + 1))) (signed_at new (i + (2 * j + 1)))
      (signed_at new (i + (2 * (j + 1) + 1)))
  pub front : (k : ℕ) → k < i → signed_at new k ≡ signed_at old k

-- The low-pass coefficients from number l on and the high-pass ones from number h on are those of
-- the eight pairs of samples from place i of the line on, each an even one and the odd one behind
-- it. The high-pass coefficient before the first pair is given, and what is before the coefficients
-- is as it was.
pub record AreCoefficients (line : List ℤ) (i : ℕ) (given : ℤ) (low low' : List ℤ) (l : ℕ)
    (high high' : List ℤ) (h : ℕ) : Type 0 where
  pub highs : (j : ℕ) → j < 8 → signed_at high' (h + j)
      ≡ high_pass (signed_at line (i + (2 * j + 1))) (signed_at line (i + 2 * j))
      (signed_at line (i + 2 * (j + 1)))
  pub first : signed_at low' l ≡ low_pass (signed_at line i) given (signed_at high' h)
  pub lows : (j : ℕ) → j < 7 → signed_at low' (l + (j + 1))
      ≡ low_pass (signed_at line (i + 2 * (j + 1))) (signed_at high' (h + j)) (signed_at high' (h + (j + 1)))
  pub low_front : (k : ℕ) → k < l → signed_at low' k ≡ signed_at low k
  pub high_front : (k : ℕ) → k < h → signed_at high' k ≡ signed_at high k
