-- Eight coefficients beside each other in numbers, a byte of each number for each coefficient.
use Rattle.std.specs.Prelude.{◌≡◌, ℕ, ℤ, ◌+◌, ◌-◌, ◌*◌, ◌<◌, Bool, ◌&&◌, nat_lt, get_or, if◌then◌else◌}
use Rattle.jk_scan.specs.Bits.{on}
use Rattle.jk_scan.specs.Flags.{flag_at}
use Rattle.jk_block.specs.declared.decoding.block_state.BlockState.{BlockState}
use Rattle.jk_block.specs.declared.decoding.coefficients.Eight.{Eight}
use Rattle.jk_block.specs.Meaning.{with_sign}
use Rattle.jk_block.specs.Fields.{words_of, plane_bit, number_from}

-- Bit i of byte c is bit k of that byte in the word of plane first + i at a place, or 0 where the
-- sketch has no such plane.
abbrev pub HasBits : (block_state : BlockState) (at k first bytes : ℕ) → Type 0
HasBits block_state at k first bytes =
    (c i : ℕ) → c < 8 → i < 8
    → on bytes (8 * c + i) ≡ (nat_lt (first + i) block_state.planes
    && on (get_or block_state.bits.items ((first + i) * words_of block_state.shape + at) 0) (8 * c + k))

-- Bit i of byte c is bit first + i of the magnitude in column 8j + c of row y.
abbrev pub HasByte : (block_state : BlockState) (first j y bytes : ℕ) → Type 0
HasByte block_state first j y bytes =
    (c i : ℕ) → c < 8 → i < 8
    → on bytes (8 * c + i) ≡ (nat_lt (first + i) block_state.planes
    && plane_bit block_state.shape block_state.bits.items (first + i) (8 * j + c) y)

-- The numbers have the coefficients in columns 8j to 8j + 7 of row y.
pub record IsEight (block_state : BlockState) (j y : ℕ) (eight : Eight) : Type 0 where
  pub low : HasByte block_state 0 j y eight.low
  pub middle : HasByte block_state 8 j y eight.middle
  pub high : HasByte block_state 16 j y eight.high
  pub negative : (c : ℕ) → c < 8 → on eight.negative (8 * c) ≡ flag_at block_state.shape block_state.negative.now (8 * j + c) y

-- bit b of the magnitude c of eight
abbrev pub eight_bit : Eight → (c b : ℕ) → Bool
eight_bit eight c b =
    if nat_lt b 8 then on eight.low (8 * c + b)
    else (if nat_lt b 16 then on eight.middle (8 * c + (b - 8)) else on eight.high (8 * c + (b - 16)))

-- the coefficient c of eight
abbrev pub value_of : Eight → (c : ℕ) → ℤ
value_of eight c = with_sign (on eight.negative (8 * c)) (number_from (eight_bit eight c) 0 24)
