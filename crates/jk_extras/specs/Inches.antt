-- Resolutions by the inch, which is 254 / 10000 of a metre.
use Rattle.std.specs.Prelude.{◌≡◌, ℕ, ◌*◌, ◌<◌, ◌^◌, ◌⊎◌, ◌+◌, pos, negsuc}
use Rattle.jk_extras.specs.declared.grids.Ratio.{Ratio}

-- a numerator and a denominator of a ratio of numbers
pub record IsReduced (above below numerator denominator : ℕ) : Type 0 where
  pub some : 0 < numerator
  pub finite : 0 < denominator
  pub same : numerator * below ≡ denominator * above

-- n / d samples by the inch: the samples of a metre, of which 254 / 10000 are as many, with a power of ten
pub record IsRaised (n d : ℕ) (r : Ratio) (power : ℕ) : Type 0 where
  pub exponent : r.exponent ≡ pos power
  pub same : 254 * (r.numerator * d) * 10 ^ power ≡ 10000 * (r.denominator * n)

-- the same with a part of ten to a power of at least 1
pub record IsLowered (n d : ℕ) (r : Ratio) (less : ℕ) : Type 0 where
  pub exponent : r.exponent ≡ negsuc less
  pub same : 254 * (r.numerator * d) ≡ 10000 * (r.denominator * n) * 10 ^ (less + 1)

pub record IsPerInch (n d : ℕ) (r : Ratio) : Type 0 where
  pub numerator : 0 < r.numerator
  pub denominator : 0 < r.denominator
  pub same : ((power : ℕ) × IsRaised n d r power) ⊎ ((less : ℕ) × IsLowered n d r less)

-- a ratio that a box can hold (T.800 I.5.3.7.1)
abbrev pub HasSixteenBits : Ratio → Type 0
HasSixteenBits r = (r.numerator < 2 ^ 16) × (r.denominator < 2 ^ 16)
