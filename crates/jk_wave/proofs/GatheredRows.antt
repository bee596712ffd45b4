-- Rows of a plane, one behind another.
use Rattle.std.proofs.Common.{◌≡◌, ℕ, ◌+◌, ◌-◌, ◌*◌, ◌<◌, ◌≤◌, inl, inr, List, [], ◌++◌, length, ℤ, pos, length-append, sym, ◌∙◌, ap, arith}
use Rattle.std.proofs.Math.Nat.{mul-le-mul_right}
use Rattle.std.proofs.lemmas.Bool.{cases_eq}
use Rattle.std.proofs.lemmas.List.{get_or-append-add, get_or_append_left}
use Rattle.jk_math.specs.declared.rect.Rect.{Rect}
use Rattle.jk_math.specs.Signed.{signed_at}
use Rattle.jk_math.specs.Raster.{columns_of, plane_at, raster}
use Rattle.jk_math.proofs.Laws.{raster_is}
use Rattle.jk_geom.specs.Rectangles.{IsWithin}
use Rattle.jk_wave.specs.SourceRows.{IsRow}
use Rattle.jk_wave.proofs.Within.{place_within}

-- a list has the rows above place y
pub record AreGathered (area : Rect) (y : ℕ) (f : ℕ → ℕ → ℤ) (values : List ℤ) : Type 0 where
  pub long : length values ≡ (y - area.y0) * columns_of area
  pub above : (x j : ℕ) → IsWithin area x j → j < y → plane_at area values x j ≡ f x j

pub gathered_none : (area : Rect) (f : ℕ → ℕ → ℤ) (values : List ℤ) → values ≡ [] → AreGathered area area.y0 f values
gathered_none area f values none = record {
  long =
      let first : area.y0 - area.y0 ≡ 0 = omega arith in
      let rows : (area.y0 - area.y0) * columns_of area ≡ 0 * columns_of area = ap (λ n. n * columns_of area) first in
      let empty : length values ≡ 0 = ap length none in
      omega arith;
  above = λ x j h less. let upper = h.upper in absurd (omega arith);
}

pub gathered_more : (area : Rect) (y : ℕ) (f : ℕ → ℕ → ℤ) (old row new : List ℤ) → area.y0 ≤ y → IsRow area (λ x. f x y) row → new ≡ old ++ row →
    AreGathered area y f old → AreGathered area (y + 1) f new
gathered_more area y f old row new from is made before =
    let w : ℕ = columns_of area in
    let v : ℕ = y - area.y0 in
    let rows : y + 1 - area.y0 ≡ v + 1 = omega arith in
    let spread : (v + 1) * w ≡ v * w + w = omega arith in
    let long = before.long in
    let wide = is.long in
    record {
      long = ap length made ∙ length-append old row ∙ (let e : length old + length row ≡ (v + 1) * w = omega arith in e) ∙ ap (λ n. n * w) (sym rows);
      above = λ x j h less.
          let left = h.left in let right = h.right in let upper = h.upper in let lower = h.lower in
          ap (λ l. signed_at l ((j - area.y0) * w + (x - area.x0))) made
          ∙ elim (cases_eq j y) [
            | inl e ↦
                let at : (j - area.y0) * w ≡ length old = ap (λ n. n * w) (let g : j - area.y0 ≡ v = omega arith in g) ∙ sym long in
                ap (λ n. signed_at (old ++ row) (n + (x - area.x0))) at ∙ get_or-append-add old row (x - area.x0) (pos 0)
                ∙ is.each (x - area.x0) (omega arith) ∙ ap (λ n. f n y) (let g : area.x0 + (x - area.x0) ≡ x = omega arith in g) ∙ ap (f x) (sym e)
            | inr ne ↦
                let under : (j - area.y0 + 1) * w ≤ v * w = mul-le-mul_right w (omega arith) in
                let each : (j - area.y0 + 1) * w ≡ (j - area.y0) * w + w = omega arith in
                get_or_append_left old row (pos 0) ((j - area.y0) * w + (x - area.x0)) (omega arith) ∙ before.above x j h (omega arith)
          ];
    }

pub gathered_all : (area : Rect) (y : ℕ) (f : ℕ → ℕ → ℤ) (values : List ℤ) → y ≡ area.y1 → AreGathered area y f values → values ≡ raster area f
gathered_all area y f values end all =
    raster_is area values f (all.long ∙ ap (λ n. (n - area.y0) * columns_of area) end)
    (λ x j h. let there = place_within area x j h in let lower = there.lower in all.above x j there (omega arith))
