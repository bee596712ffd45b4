-- From values to samples: the level shift (T.800 G.1).
use Rattle.std.specs.Prelude.{ℕ, ◌-◌, ◌^◌, Bool, true, false, ℤ, pos, ◌+ℤ◌}
use Rattle.std.specs.Int.{int_min, int_max}
use Rattle.jk_math.specs.Picture.{lowest, greatest}
use Rattle.jk_marks.specs.declared.siz.Siz.{Siz}

-- the level shift of unsigned samples (G.1.2)
abbrev pub shift : ℕ → Bool → ℤ
shift depth true = pos 0
shift depth false = pos (2 ^ (depth - 1))

-- the nearest sample of the range
abbrev pub clamped : ℕ → Bool → ℤ → ℤ
clamped depth signed z = int_min (int_max z (lowest depth signed)) (greatest depth signed)

-- the sample of a value of the highest resolution
abbrev pub sample_of : Siz → ℤ → ℤ
sample_of s z = clamped s.depth s.signed (z +ℤ shift s.depth s.signed)
