-- The coefficients of a level in four lists.
use Rattle.std.specs.Prelude.{◌≡◌, ℕ, zero, suc, ◌+◌, ◌-◌, ◌*◌, ◌/◌, ◌%◌, ◌^◌, ◌<◌, ◌≤◌, ◌==◌, if◌then◌else◌, length, List, ℤ}
use Rattle.std.specs.List.{All}
use Rattle.jk_math.specs.declared.rect.Rect.{Rect}
use Rattle.jk_math.specs.Signed.{IsBelow, signed_at}
use Rattle.jk_geom.specs.Rectangles.{IsArea, IsWithin}
use Rattle.jk_lift.specs.Lifting.{unlifted}
use Rattle.jk_wave.specs.Levels.{half_bound, half_area}
use Rattle.jk_wave.specs.Resolutions.{woven_plane}
use Rattle.jk_wave.specs.declared.climbing.parts.GivenRows.{GivenRows}
use Rattle.jk_wave.specs.declared.climbing.parts.WovenRows.{WovenRows}

-- how wide a part is whose columns are even (0) or odd (1)
abbrev pub half_width : Rect → (across : ℕ) → ℕ
half_width a across = half_bound a.x1 across - half_bound a.x0 across

-- what stands at column i of a row of a level, of row n of a low-pass part and row m of a high-pass one
abbrev pub pair_at : Rect → (n m : ℕ) → (low high : List ℤ) → (i : ℕ) → ℤ
pair_at a n m low high i = if i % 2 == 0
    then signed_at low (n * half_width a 0 + (i / 2 - half_bound a.x0 0))
    else signed_at high (m * half_width a 1 + (i / 2 - half_bound a.x0 1))

-- row y of the coefficients c, with its columns made
abbrev pub across : Rect → (c : ℕ → ℕ → ℤ) → (x y : ℕ) → ℤ
across a c x y = unlifted a.x0 a.x1 (λ i. c i y) x

-- part o: LL is 0, HL 1, LH 2 and HH 3
abbrev pub rows_of_part : WovenRows → (o : ℕ) → GivenRows
rows_of_part s zero = s.ll
rows_of_part s (suc zero) = s.hl
rows_of_part s (suc (suc zero)) = s.lh
rows_of_part s (suc (suc (suc o))) = s.hh

-- what stands at column u and row n of rows of part o
abbrev pub value_in : Rect → (o : ℕ) → GivenRows → (u n : ℕ) → ℤ
value_in a o rows u n = signed_at rows.values.now ((n - rows.from) * half_width a (o % 2) + (u - half_bound a.x0 (o % 2)))

abbrev pub part_value : WovenRows → (o u n : ℕ) → ℤ
part_value s o u n = value_in s.area o (rows_of_part s o) u n

-- the coefficients, woven
unfoldable pub coefficient : WovenRows → (x y : ℕ) → ℤ
coefficient s = woven_plane (part_value s 0) (part_value s)

-- rows v up to t of a level have their rows of part o here
pub record ArePartRows (a : Rect) (v t o : ℕ) (rows : GivenRows) : Type 0 where
  pub begins : rows.from ≤ half_bound v (o / 2)
  pub long : (half_bound t (o / 2) - rows.from) * half_width a (o % 2) ≤ length rows.values.now

-- and they have these values
abbrev pub ShowPartRows : Rect → (v t o : ℕ) → (ℕ → ℕ → ℤ) → GivenRows → Type 0
ShowPartRows a v t o f rows = (u n : ℕ) → IsWithin (half_area a o) u n → half_bound v (o / 2) ≤ n → n < half_bound t (o / 2)
    → value_in a o rows u n ≡ f u n

-- The rows that are asked for are there, and all are small enough for a level.
pub record AreWovenRows (s : WovenRows) : Type 0 where
  pub area : IsArea s.area
  pub upper : s.area.y0 ≤ s.v
  pub order : s.v ≤ s.t
  pub lower : s.t ≤ s.area.y1
  pub rows : (o : ℕ) → o < 4 → ArePartRows s.area s.v s.t o (rows_of_part s o)
  pub low_small : All (IsBelow (2 ^ 29 - 2 ^ 26)) s.ll.values.now
  pub high_small : (o : ℕ) → 0 < o → o < 4 → All (IsBelow (2 ^ 23)) (rows_of_part s o).values.now

-- They have these samples below, and these coefficients of the sub-bands.
pub record ShowWovenRows (s : WovenRows) (low : ℕ → ℕ → ℤ) (high : ℕ → ℕ → ℕ → ℤ) : Type 0 where
  pub below : ShowPartRows s.area s.v s.t 0 low s.ll
  pub bands : (o : ℕ) → 0 < o → o < 4 → ShowPartRows s.area s.v s.t o (high o) (rows_of_part s o)
