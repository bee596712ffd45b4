-- Resolutions and UUIDs in words.
use Rattle.std.specs.Prelude.{◌≡◌, ℕ, ◌<◌, ◌^◌, ◌⊎◌, true, List, [], ◌∷◌, ◌++◌, length, Ok}
use Rattle.std.specs.List.{list_all}
use Rattle.std.specs.Char.{is_ascii_digit}
use Rattle.std.specs.Str.Parse.{digits_value_after}
use Rattle.hex.specs.Hex.{decode_sized}
use Rattle.jk_extras.specs.declared.grids.Ratio.{Ratio}
use Rattle.jk_extras.specs.declared.grids.Grid.{Grid}
use Rattle.jk_extras.specs.Inches.{IsPerInch, HasSixteenBits}

-- Digits before a point and behind it: the number n / d.
pub record IsQuotient (whole fraction : List ℕ) (n d : ℕ) : Type 0 where
  pub some : 0 < length whole
  pub digits : list_all is_ascii_digit whole ≡ true
  pub others : list_all is_ascii_digit fraction ≡ true
  pub numerator : n ≡ digits_value_after 10 (digits_value_after 10 0 whole) fraction
  pub denominator : d ≡ 10 ^ length fraction

-- without a point, or with one
abbrev pub IsDecimal : List ℕ → (n d : ℕ) → Type 0
IsDecimal text n d =
    IsQuotient text [] n d ⊎ ((whole fraction : List ℕ) × (text ≡ whole ++ 46 ∷ fraction) × IsQuotient whole fraction n d)

-- digits alone: a whole number
pub record IsWhole (text : List ℕ) (n : ℕ) : Type 0 where
  pub some : 0 < length text
  pub digits : list_all is_ascii_digit text ≡ true
  pub number : n ≡ digits_value_after 10 0 text

-- so many samples by the inch
pub record IsInches (text : List ℕ) (r : Ratio) : Type 0 where
  pub n : ℕ
  pub d : ℕ
  pub decimal : IsDecimal text n d
  pub ratio : IsPerInch n d r

-- The same, where a file can hold it: a ratio of 16 bits. The digits without the point, and ten to as many as stand after it,
-- have 32 bits.
pub record IsHeldInches (text : List ℕ) (r : Ratio) : Type 0 where
  pub inches : IsInches text r
  pub above : inches.n < 2 ^ 32
  pub below : inches.d < 2 ^ 32
  pub small : HasSixteenBits r

-- N by the inch in both directions; or those of a row, `x`, and those of a column
abbrev pub IsResolution : List ℕ → Grid → Type 0
IsResolution text g =
    (IsInches text g.across × (g.down ≡ g.across))
    ⊎ ((across down : List ℕ) × (text ≡ across ++ 120 ∷ down) × IsInches across g.across × IsInches down g.down)

-- a resolution that a file can hold
abbrev pub IsHeldResolution : List ℕ → Grid → Type 0
IsHeldResolution text g =
    (IsHeldInches text g.across × (g.down ≡ g.across))
    ⊎ ((across down : List ℕ) × (text ≡ across ++ 120 ∷ down) × IsHeldInches across g.across × IsHeldInches down g.down)

-- The text names a UUID and a file: 32 hexadecimal digits, a colon, and the name.
pub record IsNamed (text id file : List ℕ) : Type 0 where
  pub digits : List ℕ
  pub text_is : text ≡ digits ++ 58 ∷ file
  pub bytes : decode_sized digits 16 ≡ Ok id
