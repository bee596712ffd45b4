-- How many rows of each level make rows up to a place of the highest one.
use Rattle.std.specs.Prelude.{◌≡◌, ℕ, zero, suc, ◌+◌, ◌-◌, ◌*◌, ◌/◌, ◌%◌, ◌<◌, ◌≤◌, min, max, nat_le, if◌then◌else◌}
use Rattle.jk_math.specs.declared.rect.Rect.{Rect}
use Rattle.jk_geom.specs.Rectangles.{IsArea, resolution_area}
use Rattle.jk_wave.specs.Levels.{half_bound}

-- The rows of coefficients that a level takes for its samples up to row e, and how far its samples
-- are made of coefficients up to row v, which is even or an end.
unfoldable pub rows_taken : Rect → ℕ → ℕ
rows_taken a e = if nat_le e a.y0 then a.y0 else min a.y1 (2 * (e / 2) + 2)

unfoldable pub rows_reached : Rect → ℕ → ℕ
rows_reached a v = if nat_le a.y1 v then a.y1 else max a.y0 (v - 1)

-- how far the resolution n below the highest is asked for, where that one is up to row e
unfoldable pub rows_asked : Rect → (levels top e : ℕ) → (n : ℕ) → ℕ
rows_asked rect levels top e zero = e
rows_asked rect levels top e (suc n) = half_bound (rows_taken (resolution_area rect levels (top - n)) (rows_asked rect levels top e n)) 0

-- What is asked for is made, and of what is made no more is taken.
abbrev pub MadeEnough : Type 0
MadeEnough = (a : Rect) (e : ℕ) → IsArea a → e ≤ a.y1 → e ≤ rows_reached a (rows_taken a e)

abbrev pub TakesNoMore : Type 0
TakesNoMore = (a : Rect) (v : ℕ) → IsArea a → a.y0 ≤ v → v % 2 ≡ 0 → v ≤ a.y1 → rows_taken a (rows_reached a v) ≤ v

-- Rows are taken in order, each within the level, up to an even place or the end, and all where all
-- are asked for.
abbrev pub TakesInOrder : Type 0
TakesInOrder = (a : Rect) (d e : ℕ) → IsArea a → d ≤ e → rows_taken a d ≤ rows_taken a e

abbrev pub TakesWithin : Type 0
TakesWithin = (a : Rect) (e : ℕ) → IsArea a → (a.y0 ≤ rows_taken a e) × (rows_taken a e ≤ a.y1)

abbrev pub TakesPairs : Type 0
TakesPairs = (a : Rect) (e : ℕ) → IsArea a → a.y0 < rows_taken a e → rows_taken a e < a.y1 → rows_taken a e % 2 ≡ 0

abbrev pub TakesAll : Type 0
TakesAll = (rect : Rect) (levels top n : ℕ) → IsArea rect → top ≤ levels → n ≤ top →
    rows_asked rect levels top (resolution_area rect levels top).y1 n ≡ (resolution_area rect levels (top - n)).y1

abbrev pub EndsInOrder : Type 0
EndsInOrder = (rect : Rect) (levels top d e n : ℕ) → IsArea rect → d ≤ e → rows_asked rect levels top d n ≤ rows_asked rect levels top e n
