-- Exponents as bytes.
use Rattle.std.specs.Prelude.{ℕ, ◌/◌, List, map, take}

-- the exponent of a sub-band in the high five bits of its byte (table A.29); T.800 has at most 31
-- of them here
abbrev pub exponents_of : List ℕ → List ℕ
exponents_of bytes = map (λ b. b / 8) (take 31 bytes)
