-- How far the coefficients of each level are made of rows of samples that were given one by one.
use Rattle.std.specs.Prelude.{◌≡◌, ℕ, zero, suc, ◌-◌, ◌*◌, ◌/◌, ◌<◌, ◌≤◌, max, ℤ, nat_le, if◌then◌else◌}
use Rattle.jk_math.specs.declared.rect.Rect.{Rect}
use Rattle.jk_geom.specs.Rectangles.{IsArea, IsWithin, resolution_area}
use Rattle.jk_wave.specs.Analysis.{reduced}
use Rattle.jk_wave.specs.Levels.{half_bound}

-- The last even place above row y.
abbrev pub last_even : ℕ → ℕ
last_even y = 2 * ((y - 1) / 2)

-- How far the rows of coefficients of a level are made, of its rows of samples up to row y: those
-- above the last even row, and behind the last row all.
unfoldable pub rows_fallen : Rect → ℕ → ℕ
rows_fallen a y = if nat_le a.y1 y then a.y1 else max a.y0 (last_even y)

-- how far the resolution n below the highest is given, where that one is up to row e
unfoldable pub rows_given : Rect → (levels e : ℕ) → (n : ℕ) → ℕ
rows_given rect levels e zero = e
rows_given rect levels e (suc n) = half_bound (rows_fallen (resolution_area rect levels (levels - n)) (rows_given rect levels e n)) 0

-- What is made lies within the level, grows with what is given, and is none of none and all of all.
abbrev pub FallsWithin : Type 0
FallsWithin = (a : Rect) (y : ℕ) → IsArea a → (a.y0 ≤ rows_fallen a y) × (rows_fallen a y ≤ a.y1)

abbrev pub FallsInOrder : Type 0
FallsInOrder = (a : Rect) (d e : ℕ) → IsArea a → d ≤ e → rows_fallen a d ≤ rows_fallen a e

abbrev pub FallsNone : Type 0
FallsNone = (a : Rect) → IsArea a → rows_fallen a a.y0 ≡ a.y0

abbrev pub FallsAll : Type 0
FallsAll = (a : Rect) (y : ℕ) → a.y1 ≤ y → rows_fallen a y ≡ a.y1

-- So is what the levels below are given.
abbrev pub GivenNone : Type 0
GivenNone = (rect : Rect) (levels n : ℕ) → IsArea rect → n ≤ levels → rows_given rect levels rect.y0 n ≡ (resolution_area rect levels (levels - n)).y0

abbrev pub GivenInOrder : Type 0
GivenInOrder = (rect : Rect) (levels d e n : ℕ) → IsArea rect → d ≤ e → rows_given rect levels d n ≤ rows_given rect levels e n

-- What they are given depends on the rows that the highest was given alone.
abbrev pub GivenAlone : Type 0
GivenAlone = (rect : Rect) (levels y n : ℕ) (f g : ℕ → ℕ → ℤ) → IsArea rect → n ≤ levels →
    ((x j : ℕ) → IsWithin rect x j → j < y → f x j ≡ g x j) →
    (x j : ℕ) → IsWithin (resolution_area rect levels (levels - n)) x j → j < rows_given rect levels y n
    → reduced rect levels f n x j ≡ reduced rect levels g n x j

abbrev pub GivenAll : Type 0
GivenAll = (rect : Rect) (levels n : ℕ) → IsArea rect → n ≤ levels → rows_given rect levels rect.y1 n ≡ (resolution_area rect levels (levels - n)).y1
