-- The byte of a code-block style (T.800 table A.19).
use Rattle.std.specs.Prelude.{ℕ, ◌+◌, ◌*◌, ◌/◌, ◌%◌, ◌==◌, Bool, true, false}
use Rattle.jk_math.specs.declared.style.Style.{Style}

abbrev pub bit_of : Bool → ℕ
bit_of true = 1
bit_of false = 0

-- bits 1, 3 and 5; the others are not set
abbrev pub style_byte : Style → ℕ
style_byte s = 2 * bit_of s.reset + 8 * bit_of s.causal + 32 * bit_of s.segments

-- what these bits of a byte say
abbrev pub style_of : ℕ → Style
style_of byte = record { reset = byte / 2 % 2 == 1; causal = byte / 8 % 2 == 1; segments = byte / 32 % 2 == 1 }
