-- The places of a word's bits.
use Rattle.std.specs.Prelude.{ℕ, ◌+◌, ◌-◌, ◌*◌, ◌/◌, ◌%◌, ◌&&◌, ◌||◌, nat_eq}
use Rattle.jk_scan.specs.Words.{Truths}

-- the place of bit k of the word (j, s)
abbrev pub column : (j k : ℕ) → ℕ
column j k = 8 * j + k / 8

abbrev pub row : (s k : ℕ) → ℕ
row s k = 4 * s + k % 8 - 1

-- a field with one more place
abbrev pub also : Truths → (c r : ℕ) → Truths
also f c r c' r' = f c' r' || (nat_eq c' c && nat_eq r' r)
