use Rattle.std.proofs.Common.{◌≡◌, ℕ, zero, suc, ◌+◌, ◌-◌, ◌*◌, ◌/◌, ◌%◌, ◌^◌, ◌<◌, ◌≤◌, List, [], get_or, length, ℤ, sym, ◌∙◌, ap, subst, arith}
use Rattle.std.specs.List.{All}
use Rattle.std.proofs.Math.Nat.{mul-le-mul_right}
use Rattle.jk_math.specs.declared.rect.Rect.{Rect}
use Rattle.jk_math.specs.Raster.{places_of, plane_at}
use Rattle.jk_math.specs.Signed.{IsBelow, signed_at}
use Rattle.jk_geom.specs.Rectangles.{resolution_area}
use Rattle.jk_wave.specs.Levels.{half_bound, half_area}
use Rattle.jk_wave.proofs.Halves.{number_area}
use Rattle.jk_wave.specs.declared.climbing.level.HighRows.{HighRows}
use Rattle.jk_wave.specs.declared.climbing.parts.GivenRows.{GivenRows}
use Rattle.jk_wave.specs.climbing.PartRows.{half_width, ArePartRows}
use Rattle.jk_wave.specs.climbing.Standing.{rows_of_band}
use Rattle.jk_wave.proofs.climbing.stack.high_of.Goals as goal

-- whole sub-bands: where their rows begin, and their lists
record AreWhole (h : HighRows) (y0 : ℕ) (lists : List (List ℤ)) (first : ℕ) : Type 0 where
  hl : h.hl.from ≡ half_bound y0 0
  lh : h.lh.from ≡ half_bound y0 1
  hh : h.hh.from ≡ half_bound y0 1
  hl_list : h.hl.values.now ≡ get_or lists (first + 1) []
  lh_list : h.lh.values.now ≡ get_or lists (first + 2) []
  hh_list : h.hh.values.now ≡ get_or lists (first + 3) []

list_is : (h : HighRows) (y0 : ℕ) (lists : List (List ℤ)) (first : ℕ) → AreWhole h y0 lists first → (o : ℕ) → 0 < o → o < 4 → (rows_of_band h o).values.now ≡ get_or lists (first + o) []
list_is h y0 lists first w zero some few = absurd (omega arith)
list_is h y0 lists first w (suc zero) some few = w.hl_list
list_is h y0 lists first w (suc (suc zero)) some few = w.lh_list
list_is h y0 lists first w (suc (suc (suc zero))) some few = w.hh_list
list_is h y0 lists first w (suc (suc (suc (suc o)))) some few = absurd (omega arith)

from_is : (h : HighRows) (y0 : ℕ) (lists : List (List ℤ)) (first : ℕ) → AreWhole h y0 lists first → (o : ℕ) → 0 < o → o < 4 → (rows_of_band h o).from ≡ half_bound y0 (o / 2)
from_is h y0 lists first w zero some few = absurd (omega arith)
from_is h y0 lists first w (suc zero) some few = w.hl
from_is h y0 lists first w (suc (suc zero)) some few = w.lh
from_is h y0 lists first w (suc (suc (suc zero))) some few = w.hh
from_is h y0 lists first w (suc (suc (suc (suc o)))) some few = absurd (omega arith)

whole_rows : (a : Rect) (v t o : ℕ) (rows : GivenRows) → rows.from ≡ half_bound a.y0 (o / 2) → length rows.values.now ≡ places_of (half_area a o) → a.y0 ≤ v → t ≤ a.y1 → ArePartRows a v t o rows
whole_rows a v t o rows begins long from to = record {
  begins = omega (arith, begins, from);
  long = (let fits : (half_bound t (o / 2) - rows.from) * half_width a (o % 2) ≤ (half_bound a.y1 (o / 2) - half_bound a.y0 (o / 2)) * half_width a (o % 2) = mul-le-mul_right (half_width a (o % 2)) (omega (arith, begins, to)) in omega (arith, fits, long));
}

pub returns-clause-are : goal.returns-clause-are
returns-clause-are c v t from to =
    let b = c.args.bands.now in
    let q : ℕ = c.args.q in
    let a = resolution_area b.rect b.levels (q + 1) in
    let upper = ap (λ (r : Rect). r.y0) c.resolution-y0.ensures.value in
    let h : HighRows = record {
      hl = record { from = (c.resolution-y0.result.y0 + 1) / 2; values = c.plane.result };
      lh = record { from = c.resolution-y0.result.y0 / 2; values = c.plane-2.result };
      hh = record { from = c.resolution-y0.result.y0 / 2; values = c.plane-3.result };
    } in
    let whole : AreWhole h a.y0 b.bands (3 * q) = record { hl = omega (arith, upper); lh = omega (arith, upper); hh = omega (arith, upper); hl_list = c.plane.ensures; lh_list = c.plane-2.ensures; hh_list = c.plane-3.ensures } in
    record {
      rows = λ o some few. whole_rows a v t o (rows_of_band h o) (from_is h a.y0 b.bands (3 * q) whole o some few)
          (ap length (list_is h a.y0 b.bands (3 * q) whole o some few) ∙ c.requires.bands.lengths (3 * q + o) (omega (arith, c.requires.q, few))
          ∙ ap places_of (number_area b.rect b.levels q o (omega (arith, c.requires.q, c.requires.top)) some few)) from to;
      small = λ o some few. subst (All (IsBelow (2 ^ 23))) (sym (list_is h a.y0 b.bands (3 * q) whole o some few)) (c.requires.bands.small (3 * q + o) (omega (arith, c.requires.q, few)));
    }

pub returns-clause-show : goal.returns-clause-show
returns-clause-show c v t o some few u n within from to =
    let b = c.args.bands.now in
    let q : ℕ = c.args.q in
    let a = resolution_area b.rect b.levels (q + 1) in
    let upper = ap (λ (r : Rect). r.y0) c.resolution-y0.ensures.value in
    let h : HighRows = record {
      hl = record { from = (c.resolution-y0.result.y0 + 1) / 2; values = c.plane.result };
      lh = record { from = c.resolution-y0.result.y0 / 2; values = c.plane-2.result };
      hh = record { from = c.resolution-y0.result.y0 / 2; values = c.plane-3.result };
    } in
    let whole : AreWhole h a.y0 b.bands (3 * q) = record { hl = omega (arith, upper); lh = omega (arith, upper); hh = omega (arith, upper); hl_list = c.plane.ensures; lh_list = c.plane-2.ensures; hh_list = c.plane-3.ensures } in
    ap (λ m. signed_at (rows_of_band h o).values.now ((n - m) * half_width a (o % 2) + (u - half_bound a.x0 (o % 2)))) (from_is h a.y0 b.bands (3 * q) whole o some few)
    ∙ ap (λ l. plane_at (half_area a o) l u n) (list_is h a.y0 b.bands (3 * q) whole o some few)
    ∙ ap (λ (d : Rect). plane_at d (get_or b.bands (3 * q + o) []) u n) (sym (number_area b.rect b.levels q o (omega (arith, c.requires.q, c.requires.top)) some few))
