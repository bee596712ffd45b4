-- Whole numbers that may be negative: division that rounds down or up, and reflection at the ends
-- of a line.
use Rattle.std.specs.Prelude.{ℕ, ◌+◌, ◌-◌, ◌*◌, ◌/◌, ◌%◌, min, pos, negsuc, ◌+ℤ◌, ◌-ℤ◌, ℤ}

-- the greatest whole number that is at most z / b
abbrev pub floor_of : ℤ → ℕ → ℤ
floor_of (pos a) b = pos (a / b)
floor_of (negsuc a) b = negsuc (a / b)

-- the least whole number that is at least z / b
abbrev pub ceiling_of : ℤ → ℕ → ℤ
ceiling_of z b = floor_of (z +ℤ pos (b - 1)) b

-- what is left of z after floor_of z p times p
abbrev pub remainder_of : ℤ → ℕ → ℕ
remainder_of (pos a) p = a % p
remainder_of (negsuc a) p = p - 1 - a % p

-- The place of [i0, i1) that stands for place i of the whole-sample symmetric extension, however
-- far outside i is (T.800 F.3.7, the index of PSE). A line of one place has that place alone.
unfoldable pub reflected : ℤ → ℕ → ℕ → ℕ
reflected i i0 i1 =
    let p = 2 * (i1 - i0 - 1) in
    let j = remainder_of (i -ℤ pos i0) p in
    i0 + min j (p - j)
