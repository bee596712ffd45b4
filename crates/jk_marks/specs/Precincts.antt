-- Precinct sizes as bytes.
use Rattle.std.specs.Prelude.{ℕ, ◌+◌, ◌*◌}

-- PPx in the low half of a byte, PPy in the high half (table A.21)
abbrev pub precinct_byte : ℕ × ℕ → ℕ
precinct_byte p = p.0 + 16 * p.1
