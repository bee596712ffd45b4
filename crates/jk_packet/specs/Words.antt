-- The words that a packet header has for a code-block (T.800 B.10.6, B.10.7).
use Rattle.std.specs.Prelude.{ℕ, zero, suc, ◌+◌, ◌-◌, ◌*◌, ◌^◌, ◌<◌, ◌≤◌, Bool, true, false, ◌==◌, nat_le}
use Rattle.std.specs.Prelude.{if◌then◌else◌, List, [], ◌∷◌, ◌++◌, replicate}
use Rattle.jk_bits.specs.Stuffing.{binary}
use Rattle.jk_packet.specs.declared.words.Addition.{Addition}

-- the greatest k up to a bound with 2^k ≤ n, or 0
unfoldable pub greatest_power : ℕ → ℕ → ℕ
greatest_power zero n = 0
greatest_power (suc k) n = if nat_le (2 ^ suc k) n then suc k else greatest_power k n

-- The logarithm of a number of 32 bits to base 2, rounded down.
unfoldable pub floor_log2 : ℕ → ℕ
floor_log2 n = greatest_power 31 n

-- The code-word of a number of coding passes (Table B.4).
unfoldable pub pass_code : ℕ → List Bool
pass_code n =
    if n == 1 then false ∷ []
    else (if n == 2 then true ∷ false ∷ []
    else (if nat_le n 5 then replicate 2 true ++ binary 2 (n - 3)
    else (if nat_le n 36 then replicate 4 true ++ binary 5 (n - 6)
    else replicate 9 true ++ binary 7 (n - 37))))

-- How many bits tell the length of a piece, after Lblock (B.10.7.1).
abbrev pub width : ℕ → Addition → ℕ
width lblock p = lblock + p.growth + floor_log2 p.passes

-- The number of coding passes, the growth of Lblock as ones and a zero, and the length.
unfoldable pub piece_bits : ℕ → Addition → List Bool
piece_bits lblock p = pass_code p.passes ++ (replicate p.growth true ++ (false ∷ binary (width lblock p) p.length))

-- What these words can tell.
pub record IsAddition (lblock : ℕ) (p : Addition) : Type 0 where
  pub some : 1 ≤ p.passes
  pub few : p.passes ≤ 164
  pub narrow : width lblock p ≤ 32
  pub fits : p.length < 2 ^ width lblock p

-- How many coding passes a block of so many magnitude bit-planes has, of which some are zero: one
-- for the first that isn't, and three for each other (D.3, B.10.5).
abbrev pub most_passes : ℕ → ℕ → ℕ
most_passes planes zeros = 3 * (planes - zeros) - 2
