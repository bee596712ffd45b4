-- From the rows of a plane to the parts of a level.
use Rattle.std.proofs.Common.{◌≡◌, ◌≢◌, ℕ, zero, suc, ◌+◌, ◌-◌, ◌*◌, ◌/◌, ◌%◌, ◌<◌, ◌≤◌, ◌⊎◌, inl, inr, List, [], ◌++◌, length, ℤ, pos, length-append, refl, sym, ◌∙◌, ap, subst, arith}
use Rattle.std.proofs.Math.Nat.{mul-le-mul_right}
use Rattle.std.proofs.lemmas.Bool.{cases_eq}
use Rattle.std.proofs.lemmas.List.{get_or-append-add, get_or_append_left}
use Rattle.jk_math.specs.declared.rect.Rect.{Rect}
use Rattle.jk_math.specs.Signed.{signed_at}
use Rattle.jk_math.specs.Raster.{columns_of, raster}
use Rattle.jk_math.proofs.Laws.{raster_is}
use Rattle.jk_geom.specs.Rectangles.{IsArea}
use Rattle.jk_lift.specs.Lifting.{lifted}
use Rattle.jk_lift.specs.Samples.{line_of, AnalysesLine}
use Rattle.jk_lift.proofs.Laws.{lifted_same}
use Rattle.jk_wave.specs.declared.parts.LevelParts.{LevelParts}
use Rattle.jk_wave.specs.Levels.{half_bound, half_area, part_of, part_list, IsPartUpto}
use Rattle.jk_wave.specs.SourceRows.{IsRow, column_lifted}
use Rattle.jk_wave.proofs.Halves.{half_within}
use Rattle.jk_wave.proofs.Synthesis.{woven_low, woven_high}
use Rattle.jk_wave.proofs.Within.{place_within}

-- one row more of a part, where the row's place is one of the part
pub part_appended : (area : Rect) (o y : ℕ) (f : ℕ → ℕ → ℤ) (old line new : List ℤ) → o < 4 → area.y0 ≤ y → y % 2 ≡ o / 2 → length line ≡ columns_of (half_area area o) →
    ((x : ℕ) → area.x0 ≤ 2 * x + o % 2 → 2 * x + o % 2 < area.x1 →
    signed_at line (x - half_bound area.x0 (o % 2)) ≡ lifted area.x0 area.x1 (λ i. f i y) (2 * x + o % 2)) →
    new ≡ old ++ line → IsPartUpto area o y f old → IsPartUpto area o (y + 1) f new
part_appended area o y f old line new few from parity wide written is before =
    let w : ℕ = columns_of (half_area area o) in
    let bx : ℕ = half_bound area.x0 (o % 2) in
    let by : ℕ = half_bound area.y0 (o / 2) in
    let v : ℕ = half_bound y (o / 2) - by in
    let rows : half_bound (y + 1) (o / 2) - by ≡ v + 1 = omega arith in
    let spread : (v + 1) * w ≡ v * w + w = omega arith in
    let long = before.long in
    record {
      long = ap length is ∙ length-append old line ∙ (let e : length old + length line ≡ (v + 1) * w = omega arith in e) ∙ ap (λ n. n * w) (sym rows);
      below = λ i j h less.
          let inside = (half_within area o i j few).0 h in
          let left = h.left in let right = h.right in let upper = h.upper in let lower = h.lower in
          ap (λ l. signed_at l ((j - by) * w + (i - bx))) is
          ∙ elim (cases_eq (2 * j + o / 2) y) [
            | inl e ↦
                let at : (j - by) * w ≡ length old = ap (λ n. n * w) (let g : j - by ≡ v = omega arith in g) ∙ sym long in
                ap (λ n. signed_at (old ++ line) (n + (i - bx))) at ∙ get_or-append-add old line (i - bx) (pos 0)
                ∙ written i inside.left inside.right
                ∙ ap (λ n. lifted area.x0 area.x1 (λ k. f k n) (2 * i + o % 2)) (sym e)
            | inr ne ↦
                let under : (j - by + 1) * w ≤ v * w = mul-le-mul_right w (omega arith) in
                let each : (j - by + 1) * w ≡ (j - by) * w + w = omega arith in
                get_or_append_left old line (pos 0) ((j - by) * w + (i - bx)) (omega arith) ∙ before.below i j h (omega arith)
          ];
    }

-- a row that isn't of the part leaves it
pub part_kept : (area : Rect) (o y : ℕ) (f : ℕ → ℕ → ℤ) (part : List ℤ) → y % 2 ≢ o / 2 → o < 4 → IsPartUpto area o y f part → IsPartUpto area o (y + 1) f part
part_kept area o y f part other few before =
    let same : half_bound y (o / 2) ≡ half_bound (y + 1) (o / 2) = omega arith in
    record {
      long = before.long ∙ ap (λ n. (n - half_bound area.y0 (o / 2)) * columns_of (half_area area o)) same;
      below = λ i j h below. before.below i j h (omega arith);
    }

-- a coefficient of a row is one of the line at its place
pub row_value : (area : Rect) (g : ℕ → ℤ) (row : List ℤ) (i : ℕ) (z : ℤ) → area.x0 ≤ area.x1 → IsRow area g row → area.x0 ≤ i → i < area.x1 →
    z ≡ lifted area.x0 (area.x0 + length row) (line_of area.x0 row) i → z ≡ lifted area.x0 area.x1 g i
row_value area g row i z wide is from end value =
    let long = is.long in
    value ∙ ap (λ n. lifted area.x0 n (line_of area.x0 row) i) (let whole : area.x0 + length row ≡ area.x1 = omega arith in whole)
    ∙ lifted_same area.x0 area.x1 (line_of area.x0 row) g i from end
    (λ k f t. is.each (k - area.x0) (omega arith) ∙ ap g (let there : area.x0 + (k - area.x0) ≡ k = omega arith in there))

-- the coefficients of a row, low-pass and high-pass ones
pub row_low : (area : Rect) (o : ℕ) (g : ℕ → ℤ) (row low high : List ℤ) → area.x0 ≤ area.x1 → o % 2 ≡ 0 → IsRow area g row →
    AnalysesLine area.x0 row low high → (x : ℕ) → area.x0 ≤ 2 * x + o % 2 → 2 * x + o % 2 < area.x1 →
    signed_at low (x - half_bound area.x0 (o % 2)) ≡ lifted area.x0 area.x1 g (2 * x + o % 2)
row_low area o g row low high wide even is says x from end =
    let i : ℕ = 2 * x + o % 2 in
    let long = is.long in
    let index : x - half_bound area.x0 (o % 2) ≡ i / 2 - (area.x0 + 1) / 2 = omega arith in
    row_value area g row i (signed_at low (x - half_bound area.x0 (o % 2))) wide is from end
    (ap (signed_at low) index ∙ sym (woven_low area.x0 low high i (omega arith)) ∙ says i from (omega arith))

pub row_high : (area : Rect) (o : ℕ) (g : ℕ → ℤ) (row low high : List ℤ) → area.x0 ≤ area.x1 → o % 2 ≡ 1 → IsRow area g row →
    AnalysesLine area.x0 row low high → (x : ℕ) → area.x0 ≤ 2 * x + o % 2 → 2 * x + o % 2 < area.x1 →
    signed_at high (x - half_bound area.x0 (o % 2)) ≡ lifted area.x0 area.x1 g (2 * x + o % 2)
row_high area o g row low high wide odd is says x from end =
    let i : ℕ = 2 * x + o % 2 in
    let long = is.long in
    let index : x - half_bound area.x0 (o % 2) ≡ i / 2 - area.x0 / 2 = omega arith in
    row_value area g row i (signed_at high (x - half_bound area.x0 (o % 2))) wide is from end
    (ap (signed_at high) index ∙ sym (woven_high area.x0 low high i (omega arith)) ∙ says i from (omega arith))

-- Two parts have one row more, and the other two none.
pub even_row : (area : Rect) (y : ℕ) (f : ℕ → ℕ → ℤ) (row low high : List ℤ) (old new : LevelParts) → IsArea area → area.y0 ≤ y → y % 2 ≡ 0 →
    length low ≡ columns_of (half_area area 0) → length high ≡ columns_of (half_area area 1) → AnalysesLine area.x0 row low high →
    new.ll.items ≡ old.ll.items ++ low → new.hl.items ≡ old.hl.items ++ high → new.lh.items ≡ old.lh.items → new.hh.items ≡ old.hh.items →
    (o : ℕ) → o < 4 → IsRow area (λ x. f x y) row → IsPartUpto area o y f (part_list old o) → IsPartUpto area o (y + 1) f (part_list new o)
even_row area y f row low high old new h from even low_wide high_wide says ll hl lh hh zero few is before =
    part_appended area 0 y f old.ll.items low new.ll.items few from even low_wide (row_low area 0 (λ x. f x y) row low high h.left refl is says) ll before
even_row area y f row low high old new h from even low_wide high_wide says ll hl lh hh (suc zero) few is before =
    part_appended area 1 y f old.hl.items high new.hl.items few from even high_wide (row_high area 1 (λ x. f x y) row low high h.left refl is says) hl before
even_row area y f row low high old new h from even low_wide high_wide says ll hl lh hh (suc (suc zero)) few is before =
    subst (IsPartUpto area 2 (y + 1) f) (sym lh) (part_kept area 2 y f old.lh.items (omega arith) few before)
even_row area y f row low high old new h from even low_wide high_wide says ll hl lh hh (suc (suc (suc zero))) few is before =
    subst (IsPartUpto area 3 (y + 1) f) (sym hh) (part_kept area 3 y f old.hh.items (omega arith) few before)
even_row area y f row low high old new h from even low_wide high_wide says ll hl lh hh (suc (suc (suc (suc o)))) few is before = absurd (omega arith)

pub odd_row : (area : Rect) (y : ℕ) (f : ℕ → ℕ → ℤ) (row low high : List ℤ) (old new : LevelParts) → IsArea area → area.y0 ≤ y → y % 2 ≡ 1 →
    length low ≡ columns_of (half_area area 0) → length high ≡ columns_of (half_area area 1) → AnalysesLine area.x0 row low high →
    new.ll.items ≡ old.ll.items → new.hl.items ≡ old.hl.items → new.lh.items ≡ old.lh.items ++ low → new.hh.items ≡ old.hh.items ++ high →
    (o : ℕ) → o < 4 → IsRow area (λ x. f x y) row → IsPartUpto area o y f (part_list old o) → IsPartUpto area o (y + 1) f (part_list new o)
odd_row area y f row low high old new h from odd low_wide high_wide says ll hl lh hh zero few is before =
    subst (IsPartUpto area 0 (y + 1) f) (sym ll) (part_kept area 0 y f old.ll.items (omega arith) few before)
odd_row area y f row low high old new h from odd low_wide high_wide says ll hl lh hh (suc zero) few is before =
    subst (IsPartUpto area 1 (y + 1) f) (sym hl) (part_kept area 1 y f old.hl.items (omega arith) few before)
odd_row area y f row low high old new h from odd low_wide high_wide says ll hl lh hh (suc (suc zero)) few is before =
    part_appended area 2 y f old.lh.items low new.lh.items few from odd low_wide (row_low area 2 (λ x. f x y) row low high h.left refl is says) lh before
odd_row area y f row low high old new h from odd low_wide high_wide says ll hl lh hh (suc (suc (suc zero))) few is before =
    part_appended area 3 y f old.hh.items high new.hh.items few from odd high_wide (row_high area 3 (λ x. f x y) row low high h.left refl is says) hh before
odd_row area y f row low high old new h from odd low_wide high_wide says ll hl lh hh (suc (suc (suc (suc o)))) few is before = absurd (omega arith)

-- nothing of a part stands above the first row
pub part_none : (area : Rect) (o : ℕ) (f : ℕ → ℕ → ℤ) (part : List ℤ) → o < 4 → part ≡ [] → IsPartUpto area o area.y0 f part
part_none area o f part few none = record {
  long =
      let w : ℕ = columns_of (half_area area o) in
      let first : half_bound area.y0 (o / 2) - half_bound area.y0 (o / 2) ≡ 0 = omega arith in
      let rows : (half_bound area.y0 (o / 2) - half_bound area.y0 (o / 2)) * w ≡ 0 * w = ap (λ n. n * w) first in
      let empty : length part ≡ 0 = ap length none in
      omega arith;
  below = λ x y h below. let inside = (half_within area o x y few).0 h in let upper = inside.upper in absurd (omega arith);
}

-- nor of a rectangle without a place
pub part_empty : (area : Rect) (o : ℕ) (f : ℕ → ℕ → ℤ) (part : List ℤ) → o < 4 → IsArea area → (area.x1 ≤ area.x0) ⊎ (area.y1 ≤ area.y0) → part ≡ [] → IsPartUpto area o area.y1 f part
part_empty area o f part few h (inr flat) none =
    let upper = h.upper in
    let end : area.y0 ≡ area.y1 = omega arith in
    subst (λ y. IsPartUpto area o y f part) end (part_none area o f part few none)
part_empty area o f part few h (inl thin) none = record {
  long =
      let left = h.left in
      let empty : length part ≡ 0 = ap length none in
      let narrow : columns_of (half_area area o) ≡ 0 = omega arith in
      let rows : ℕ = half_bound area.y1 (o / 2) - half_bound area.y0 (o / 2) in
      empty ∙ (let e : 0 ≡ rows * 0 = omega arith in e) ∙ ap (λ n. rows * n) (sym narrow);
  below = λ x y w below. let inside = (half_within area o x y few).0 w in let l = inside.left in let r = inside.right in absurd (omega arith);
}

-- all rows of a part
pub part_done : (area : Rect) (o : ℕ) (f : ℕ → ℕ → ℤ) (part : List ℤ) → o < 4 → IsPartUpto area o area.y1 (λ x v. column_lifted area f v x) part → part ≡ raster (half_area area o) (part_of area f o)
part_done area o f part few all =
    raster_is (half_area area o) part (part_of area f o) all.long (λ x y h.
    let there = place_within (half_area area o) x y h in
    let inside = (half_within area o x y few).0 there in
    let lower = inside.lower in
    all.below x y there lower)
