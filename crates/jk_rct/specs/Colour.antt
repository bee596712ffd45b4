-- The reversible component transform (T.800 G.2): I0, I1, I2 are a pixel's samples of components 0,
-- 1 and 2, and Y0, Y1, Y2 what stands for them.
use Rattle.std.specs.Prelude.{◌≡◌, ℕ, ℤ, ◌+◌, ◌≤◌, ◌+ℤ◌, ◌-ℤ◌, ◌≤ℤ◌, unsigned_abs}
use Rattle.jk_math.specs.Division.{floor_of}
use Rattle.jk_math.specs.Signed.{IsBelow}

-- forward (T.800 G.2.1)
abbrev pub y0_of : ℤ → ℤ → ℤ → ℤ
y0_of i0 i1 i2 = floor_of (i0 +ℤ (i1 +ℤ i1) +ℤ i2) 4

abbrev pub y1_of : ℤ → ℤ → ℤ → ℤ
y1_of i0 i1 i2 = i2 -ℤ i1

abbrev pub y2_of : ℤ → ℤ → ℤ → ℤ
y2_of i0 i1 i2 = i0 -ℤ i1

-- inverse (T.800 G.2.2)
abbrev pub i1_of : ℤ → ℤ → ℤ → ℤ
i1_of y0 y1 y2 = y0 -ℤ floor_of (y1 +ℤ y2) 4

abbrev pub i0_of : ℤ → ℤ → ℤ → ℤ
i0_of y0 y1 y2 = y2 +ℤ i1_of y0 y1 y2

abbrev pub i2_of : ℤ → ℤ → ℤ → ℤ
i2_of y0 y1 y2 = y1 +ℤ i1_of y0 y1 y2

-- The inverse undoes the forward transform, and the forward one the inverse.
abbrev pub UndoesColour : Type 0
UndoesColour = (i0 i1 i2 : ℤ) →
    (i0_of (y0_of i0 i1 i2) (y1_of i0 i1 i2) (y2_of i0 i1 i2) ≡ i0)
    × (i1_of (y0_of i0 i1 i2) (y1_of i0 i1 i2) (y2_of i0 i1 i2) ≡ i1)
    × (i2_of (y0_of i0 i1 i2) (y1_of i0 i1 i2) (y2_of i0 i1 i2) ≡ i2)

abbrev pub UndoesInverse : Type 0
UndoesInverse = (y0 y1 y2 : ℤ) →
    (y0_of (i0_of y0 y1 y2) (i1_of y0 y1 y2) (i2_of y0 y1 y2) ≡ y0)
    × (y1_of (i0_of y0 y1 y2) (i1_of y0 y1 y2) (i2_of y0 y1 y2) ≡ y1)
    × (y2_of (i0_of y0 y1 y2) (i1_of y0 y1 y2) (i2_of y0 y1 y2) ≡ y2)

-- From samples of one range, Y0 lies in that range, and Y1 and Y2 are differences of two of its
-- numbers.
abbrev pub KeepsRange : Type 0
KeepsRange = (low high i0 i1 i2 : ℤ) → low ≤ℤ i0 → i0 ≤ℤ high → low ≤ℤ i1 → i1 ≤ℤ high → low ≤ℤ i2 → i2 ≤ℤ high →
    (low ≤ℤ y0_of i0 i1 i2) × (y0_of i0 i1 i2 ≤ℤ high)
    × (unsigned_abs (y1_of i0 i1 i2) ≤ unsigned_abs (high -ℤ low))
    × (unsigned_abs (y2_of i0 i1 i2) ≤ unsigned_abs (high -ℤ low))

-- From numbers of magnitudes below m, the inverse transform gives numbers of magnitudes below 2 m.
abbrev pub InverseBounds : Type 0
InverseBounds = (m : ℕ) (y0 y1 y2 : ℤ) → IsBelow m y0 → IsBelow m y1 → IsBelow m y2 →
    IsBelow (m + m) (i0_of y0 y1 y2) × IsBelow (m + m) (i1_of y0 y1 y2) × IsBelow (m + m) (i2_of y0 y1 y2)
