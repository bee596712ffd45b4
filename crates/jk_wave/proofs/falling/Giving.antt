-- Rows of the four parts of a level, handed out one behind another.
use Rattle.std.proofs.Common.{◌≡◌, ◌≢◌, ℕ, zero, suc, ◌+◌, ◌-◌, ◌*◌, ◌/◌, ◌%◌, ◌<◌, ◌≤◌, ◌++◌, List, length, ℤ, refl, ◌∙◌, ap, subst, arith}
use Rattle.jk_math.specs.declared.rect.Rect.{Rect}
use Rattle.jk_math.specs.Signed.{signed_at}
use Rattle.jk_math.specs.Raster.{columns_of, raster}
use Rattle.jk_geom.specs.Rectangles.{IsArea}
use Rattle.jk_lift.specs.Lifting.{lifted}
use Rattle.jk_lift.specs.Samples.{AnalysesLine}
use Rattle.jk_wave.specs.declared.parts.LevelParts.{LevelParts}
use Rattle.jk_wave.specs.Levels.{half_bound, half_area, part_of, part_list}
use Rattle.jk_wave.specs.SourceRows.{IsRow, column_lifted}
use Rattle.jk_wave.proofs.Descending.{row_low, row_high}
use Rattle.jk_wave.proofs.climbing.Given.{one_row, none_given, given_more}
use Rattle.jk_wave.specs.falling.Held.{half_rows, GivesRows}

-- a line is the row of a part whose places it has
line_row : (area : Rect) (o y : ℕ) (f : ℕ → ℕ → ℤ) (line : List ℤ) → y % 2 ≡ o / 2 → length line ≡ columns_of (half_area area o) →
    ((x : ℕ) → area.x0 ≤ 2 * x + o % 2 → 2 * x + o % 2 < area.x1 →
    signed_at line (x - half_bound area.x0 (o % 2)) ≡ lifted area.x0 area.x1 (column_lifted area f y) (2 * x + o % 2)) →
    line ≡ raster (half_rows area y (y + 1) o) (part_of area f o)
line_row area o y f line parity wide written =
    let p : ℕ = half_bound y (o / 2) in
    let bx : ℕ = half_bound area.x0 (o % 2) in
    let next : p + 1 ≡ half_bound (y + 1) (o / 2) = omega arith in
    one_row (half_area area o) (part_of area f o) p (half_bound (y + 1) (o / 2)) line next (record {
      long = wide;
      each = λ k lt.
          let x : ℕ = bx + k in
          ap (signed_at line) (let e : k ≡ x - bx = omega arith in e)
          ∙ written x (omega arith) (omega (arith, lt))
          ∙ ap (λ n. lifted area.x0 area.x1 (column_lifted area f n) (2 * x + o % 2)) (let e : y ≡ 2 * p + o / 2 = omega arith in e);
    })

-- a part that has no place in the row
none_row : (area : Rect) (o y : ℕ) (f : ℕ → ℕ → ℤ) (old new : List ℤ) → o < 4 → y % 2 ≢ o / 2 → new ≡ old → new ≡ old ++ raster (half_rows area y (y + 1) o) (part_of area f o)
none_row area o y f old new few other same =
    same ∙ none_given (half_area area o) (half_bound y (o / 2)) (half_bound (y + 1) (o / 2)) (part_of area f o) old (omega arith)

-- the parts of an even row, and of an odd one
pub gives_even : (area : Rect) (y : ℕ) (f : ℕ → ℕ → ℤ) (row low high : List ℤ) (old new : LevelParts) → IsArea area → y % 2 ≡ 0 →
    length low ≡ columns_of (half_area area 0) → length high ≡ columns_of (half_area area 1) → AnalysesLine area.x0 row low high →
    new.ll.items ≡ old.ll.items ++ low → new.hl.items ≡ old.hl.items ++ high → new.lh.items ≡ old.lh.items → new.hh.items ≡ old.hh.items →
    IsRow area (column_lifted area f y) row → GivesRows area f y (y + 1) old new
gives_even area y f row low high old new h even low_wide high_wide says ll hl lh hh is zero few =
    ll ∙ ap (λ l. old.ll.items ++ l) (line_row area 0 y f low even low_wide (row_low area 0 (column_lifted area f y) row low high h.left refl is says))
gives_even area y f row low high old new h even low_wide high_wide says ll hl lh hh is (suc zero) few =
    hl ∙ ap (λ l. old.hl.items ++ l) (line_row area 1 y f high even high_wide (row_high area 1 (column_lifted area f y) row low high h.left refl is says))
gives_even area y f row low high old new h even low_wide high_wide says ll hl lh hh is (suc (suc zero)) few =
    none_row area 2 y f old.lh.items new.lh.items few (omega arith) lh
gives_even area y f row low high old new h even low_wide high_wide says ll hl lh hh is (suc (suc (suc zero))) few =
    none_row area 3 y f old.hh.items new.hh.items few (omega arith) hh
gives_even area y f row low high old new h even low_wide high_wide says ll hl lh hh is (suc (suc (suc (suc o)))) few = absurd (omega arith)

pub gives_odd : (area : Rect) (y : ℕ) (f : ℕ → ℕ → ℤ) (row low high : List ℤ) (old new : LevelParts) → IsArea area → y % 2 ≡ 1 →
    length low ≡ columns_of (half_area area 0) → length high ≡ columns_of (half_area area 1) → AnalysesLine area.x0 row low high →
    new.ll.items ≡ old.ll.items → new.hl.items ≡ old.hl.items → new.lh.items ≡ old.lh.items ++ low → new.hh.items ≡ old.hh.items ++ high →
    IsRow area (column_lifted area f y) row → GivesRows area f y (y + 1) old new
gives_odd area y f row low high old new h odd low_wide high_wide says ll hl lh hh is zero few =
    none_row area 0 y f old.ll.items new.ll.items few (omega arith) ll
gives_odd area y f row low high old new h odd low_wide high_wide says ll hl lh hh is (suc zero) few =
    none_row area 1 y f old.hl.items new.hl.items few (omega arith) hl
gives_odd area y f row low high old new h odd low_wide high_wide says ll hl lh hh is (suc (suc zero)) few =
    lh ∙ ap (λ l. old.lh.items ++ l) (line_row area 2 y f low odd low_wide (row_low area 2 (column_lifted area f y) row low high h.left refl is says))
gives_odd area y f row low high old new h odd low_wide high_wide says ll hl lh hh is (suc (suc (suc zero))) few =
    hh ∙ ap (λ l. old.hh.items ++ l) (line_row area 3 y f high odd high_wide (row_high area 3 (column_lifted area f y) row low high h.left refl is says))
gives_odd area y f row low high old new h odd low_wide high_wide says ll hl lh hh is (suc (suc (suc (suc o)))) few = absurd (omega arith)

-- no row, further rows, and the same rows by other names
pub gives_none : (area : Rect) (f : ℕ → ℕ → ℤ) (p q : ℕ) (parts : LevelParts) → q ≤ p → GivesRows area f p q parts parts
gives_none area f p q parts none o few =
    none_given (half_area area o) (half_bound p (o / 2)) (half_bound q (o / 2)) (part_of area f o) (part_list parts o) (omega (arith, none))

pub gives_more : (area : Rect) (f : ℕ → ℕ → ℤ) (p q r : ℕ) (old mid new : LevelParts) → p ≤ q → q ≤ r → GivesRows area f p q old mid → GivesRows area f q r mid new → GivesRows area f p r old new
gives_more area f p q r old mid new low high first second o few =
    given_more (half_area area o) (half_bound p (o / 2)) (half_bound q (o / 2)) (half_bound r (o / 2)) (part_of area f o) (part_list old o) (part_list mid o) (part_list new o)
    (omega (arith, low)) (omega (arith, high)) (first o few) (second o few)

pub gives_like : (area : Rect) (f : ℕ → ℕ → ℤ) (p q r s : ℕ) (old new : LevelParts) → p ≡ r → q ≡ s → GivesRows area f p q old new → GivesRows area f r s old new
gives_like area f p q r s old new pr qs given = subst (λ n. GivesRows area f r n old new) qs (subst (λ n. GivesRows area f n q old new) pr given)
