-- Synthesis undoes analysis, level by level.
use Rattle.std.proofs.Common.{◌≡◌, ℕ, zero, suc, ◌+◌, ◌-◌, ◌*◌, ◌/◌, ◌%◌, ◌<◌, inl, inr, ℤ, sym, ◌∙◌, ap, subst, add-one, arith}
use Rattle.jk_math.specs.declared.rect.Rect.{Rect}
use Rattle.jk_geom.specs.Rectangles.{IsWithin, resolution_area}
use Rattle.jk_lift.proofs.Laws.{is_local_plane, undoes_plane}
use Rattle.jk_wave.specs.Resolutions.{resolution_of}
use Rattle.jk_wave.specs.Analysis.{reduced, analysed}
use Rattle.jk_wave.specs.Laws.{IsUndone, IsReduced}
use Rattle.jk_wave.specs.Levels.{unlifted_over, lifted_over}
use Rattle.jk_wave.proofs.Equations.{woven_even, woven_odd, level_of, resolution_lowest, resolution_more, reduced_none, reduced_more, analysed_lowest, analysed_more}
use Rattle.jk_wave.proofs.Halves.{resolution_top}
use Rattle.jk_wave.proofs.Local.{parities, in_below}

-- one level back of coefficients that are those of f
pub level_undone : (area : Rect) (c f : ℕ → ℕ → ℤ) → ((x y : ℕ) → IsWithin area x y → c x y ≡ lifted_over area f x y) →
    (x y : ℕ) → IsWithin area x y → unlifted_over area c x y ≡ f x y
level_undone area c f same x y h =
    is_local_plane area.x0 area.x1 area.y0 area.y1 area.x0 area.x1 area.y0 area.y1 c (lifted_over area f)
    (λ i j if it jf jt uf ut vf vt. same i j (record { left = if; right = it; upper = jf; lower = jt }))
    x y h.left h.right h.upper h.lower h.left h.right h.upper h.lower
    ∙ undoes_plane area.x0 area.x1 area.y0 area.y1 f x y h.left h.right h.upper h.lower

-- what stands at a place of a level, seen from its parts
even_place : (area : Rect) (f : ℕ → ℕ → ℤ) (x y : ℕ) → x % 2 ≡ 0 → y % 2 ≡ 0 → lifted_over area f (2 * (x / 2)) (2 * (y / 2)) ≡ lifted_over area f x y
even_place area f x y ex ey =
    let across : 2 * (x / 2) ≡ x = omega arith in
    let down : 2 * (y / 2) ≡ y = omega arith in
    ap (λ n. lifted_over area f n (2 * (y / 2))) across ∙ ap (λ n. lifted_over area f x n) down

odd_place : (area : Rect) (f : ℕ → ℕ → ℤ) (x y : ℕ) →
    lifted_over area f (2 * (x / 2) + (x % 2 + 2 * (y % 2)) % 2) (2 * (y / 2) + (x % 2 + 2 * (y % 2)) / 2) ≡ lifted_over area f x y
odd_place area f x y =
    let across : 2 * (x / 2) + (x % 2 + 2 * (y % 2)) % 2 ≡ x = omega arith in
    let down : 2 * (y / 2) + (x % 2 + 2 * (y % 2)) / 2 ≡ y = omega arith in
    ap (λ n. lifted_over area f n (2 * (y / 2) + (x % 2 + 2 * (y % 2)) / 2)) across ∙ ap (λ n. lifted_over area f x n) down

-- the coefficients of a level are those of what was left above it
level_is : (a : Rect) (levels : ℕ) (f : ℕ → ℕ → ℤ) (r : ℕ) → r < levels →
    ((x y : ℕ) → IsWithin (resolution_area a levels r) x y → resolution_of a levels (analysed a levels f) r x y ≡ reduced a levels f (levels - r) x y) →
    (x y : ℕ) → IsWithin (resolution_area a levels (r + 1)) x y →
    level_of a levels (analysed a levels f) r x y ≡ lifted_over (resolution_area a levels (r + 1)) (reduced a levels f (levels - (r + 1))) x y
level_is a levels f r less below x y h =
    let area = resolution_area a levels (r + 1) in
    let n = levels - (r + 1) in
    let left : levels - r ≡ n + 1 = omega arith in
    let level : levels - n ≡ r + 1 = omega arith in
    let bands = λ (o : ℕ). analysed a levels f (3 * r + o) in
    elim (parities x y) [
      | inl e ↦
          woven_even (resolution_of a levels (analysed a levels f) r) bands x y e.0 e.1
          ∙ below (x / 2) (y / 2) (in_below a levels r x y less h e.0 e.1)
          ∙ ap (λ m. reduced a levels f m (x / 2) (y / 2)) left
          ∙ reduced_more a levels f n (x / 2) (y / 2)
          ∙ ap (λ m. lifted_over (resolution_area a levels m) (reduced a levels f n) (2 * (x / 2)) (2 * (y / 2))) level
          ∙ even_place area (reduced a levels f n) x y e.0 e.1
      | inr odd ↦
          let o : ℕ = x % 2 + 2 * (y % 2) in
          let some : 0 < o = elim odd [ inl p ↦ omega arith | inr p ↦ omega arith ] in
          woven_odd (resolution_of a levels (analysed a levels f) r) bands x y odd
          ∙ analysed_more a levels f r o (x / 2) (y / 2) some (omega arith)
          ∙ odd_place area (reduced a levels f n) x y
    ]

pub is_reduced : IsReduced
is_reduced a levels f zero x y few h =
    let whole : levels ≡ levels - 0 = omega arith in
    resolution_lowest a levels (analysed a levels f) x y ∙ analysed_lowest a levels f x y ∙ ap (λ n. reduced a levels f n x y) whole
is_reduced a levels f (suc r) x y few h =
    subst (λ n. IsWithin (resolution_area a levels n) x y → resolution_of a levels (analysed a levels f) n x y ≡ reduced a levels f (levels - n) x y) (add-one r) (λ inside.
    let area = resolution_area a levels (r + 1) in
    resolution_more a levels (analysed a levels f) r x y
    ∙ level_undone area (level_of a levels (analysed a levels f) r) (reduced a levels f (levels - (r + 1)))
    (level_is a levels f r (omega arith) (λ i j w. is_reduced a levels f r i j (omega arith) w)) x y inside) h

pub is_undone : IsUndone
is_undone a levels f x y h =
    let inside : IsWithin (resolution_area a levels levels) x y = subst (λ (s : Rect). IsWithin s x y) (sym (resolution_top a levels)) h in
    let none : levels - levels ≡ 0 = omega arith in
    is_reduced a levels f levels x y (omega arith) inside ∙ ap (λ n. reduced a levels f n x y) none ∙ reduced_none a levels f x y
