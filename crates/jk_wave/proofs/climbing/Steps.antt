-- What a step of a level takes, and what waits behind it.
use Rattle.std.proofs.Common.{◌≡◌, ℕ, zero, suc, ◌+◌, ◌-◌, ◌*◌, ◌^◌, ◌<◌, ◌≤◌, ◌++◌, inl, inr, List, length, drop, ℤ, pos, refl, sym, ◌∙◌, ap, subst, length-drop, arith}
use Rattle.std.specs.List.{All}
use Rattle.std.proofs.Math.Seq.{drop-append_seam}
use Rattle.std.proofs.lemmas.Bool.{cases_eq, cases_lt}
use Rattle.std.proofs.lemmas.List.{get_or-drop, get_or_append_left, get_or-append_right, length-append}
use Rattle.std.proofs.lemmas.List.Elements.{All-from_get_or}
use Rattle.jk_math.specs.declared.rect.Rect.{Rect}
use Rattle.jk_math.specs.Signed.{IsBelow, signed_at}
use Rattle.jk_math.specs.Raster.{columns_of, raster}
use Rattle.jk_math.proofs.Laws.{raster_length, raster_at}
use Rattle.jk_geom.specs.Rectangles.{IsArea}
use Rattle.jk_wave.specs.Levels.{half_bound, half_area}
use Rattle.jk_wave.specs.declared.climbing.level.HighRows.{HighRows}
use Rattle.jk_wave.specs.declared.climbing.parts.GivenRows.{GivenRows}
use Rattle.jk_wave.specs.declared.climbing.parts.WovenRows.{WovenRows}
use Rattle.jk_wave.specs.climbing.Held.{rows_between}
use Rattle.jk_wave.specs.climbing.PartRows.{half_width, rows_of_part, ArePartRows, ShowPartRows, AreWovenRows, ShowWovenRows}
use Rattle.jk_wave.specs.climbing.Standing.{rows_of_band, AreHigh, ShowHigh, ShowLow}
use Rattle.jk_wave.proofs.climbing.Given.{joined}

-- the parts that a step takes are those of the level
pub record Same (s : WovenRows) (h : HighRows) : Type 0 where
  pub hl : s.hl ≡ h.hl
  pub lh : s.lh ≡ h.lh
  pub hh : s.hh ≡ h.hh
  pub from : s.ll.from ≡ half_bound s.v 0

band_is : (s : WovenRows) (h : HighRows) → Same s h → (o : ℕ) → 0 < o → rows_of_part s o ≡ rows_of_band h o
band_is s h same zero some = absurd (omega arith)
band_is s h same (suc zero) some = same.hl
band_is s h same (suc (suc zero)) some = same.lh
band_is s h same (suc (suc (suc o))) some = same.hh

pub parts_stand : (s : WovenRows) (h : HighRows) → Same s h → IsArea s.area → s.area.y0 ≤ s.v → s.v ≤ s.t → s.t ≤ s.area.y1 →
    (half_bound s.t 0 - half_bound s.v 0) * half_width s.area 0 ≤ length s.ll.values.now → All (IsBelow (2 ^ 29 - 2 ^ 26)) s.ll.values.now → AreHigh s.area s.v s.t h → AreWovenRows s
parts_stand s h same is upper order lower long small high = record {
  area = is;
  upper = upper;
  order = order;
  lower = lower;
  rows = λ o few. elim (cases_eq o 0) [
    | inl e ↦ subst (λ p. ArePartRows s.area s.v s.t p (rows_of_part s p)) (sym e) (record {
      begins = (let f = same.from in omega (arith, f));
      long = subst (λ n. (half_bound s.t 0 - n) * half_width s.area 0 ≤ length s.ll.values.now) (sym same.from) long;
    })
    | inr ne ↦ subst (ArePartRows s.area s.v s.t o) (sym (band_is s h same o (omega arith))) (high.rows o (omega arith) few)
  ];
  low_small = small;
  high_small = λ o some few. subst (λ (r : GivenRows). All (IsBelow (2 ^ 23)) r.values.now) (sym (band_is s h same o some)) (high.small o some few);
}

pub parts_show : (s : WovenRows) (h : HighRows) (low : ℕ → ℕ → ℤ) (bands : ℕ → ℕ → ℕ → ℤ) (values : List ℤ) → Same s h → s.ll.values.now ≡ values →
    ShowLow s.area s.v s.t low values → ShowHigh s.area s.v s.t bands h → ShowWovenRows s low bands
parts_show s h low bands values same is shows high = record {
  below = λ u n inside from to.
      ap (λ m. signed_at s.ll.values.now ((n - m) * half_width s.area 0 + (u - half_bound s.area.x0 0))) same.from
      ∙ ap (λ l. signed_at l ((n - half_bound s.v 0) * half_width s.area 0 + (u - half_bound s.area.x0 0))) is ∙ shows u n inside from to;
  bands = λ o some few. subst (ShowPartRows s.area s.v s.t o (bands o)) (sym (band_is s h same o some)) (high o some few);
}

-- rows that wait make the rows that are asked for
pub low_shown : (a : Rect) (v t e : ℕ) (low : ℕ → ℕ → ℤ) (values : List ℤ) → half_bound t 0 ≤ e → values ≡ raster (rows_between (half_area a 0) (half_bound v 0) e) low → ShowLow a v t low values
low_shown a v t e low values enough is u n inside from to =
    ap (λ l. signed_at l ((n - half_bound v 0) * half_width a 0 + (u - half_bound a.x0 0))) is
    ∙ raster_at (rows_between (half_area a 0) (half_bound v 0) e) low u n (record { left = inside.left; right = inside.right; upper = from; lower = omega (arith, to, enough) })

-- lists of small numbers
pub all_drop : (P : ℤ → Type 0) (n : ℕ) (xs : List ℤ) → All P xs → All P (drop n xs)
all_drop P n xs all = All-from_get_or P (drop n xs) (pos 0) (λ k lt. subst P (sym (get_or-drop n xs k (pos 0))) (all (n + k) (pos 0) (let e = length-drop n xs in omega (arith, lt, e))))

pub all_append : (P : ℤ → Type 0) (xs ys : List ℤ) → All P xs → All P ys → All P (xs ++ ys)
all_append P xs ys first second = All-from_get_or P (xs ++ ys) (pos 0) (λ k lt. elim (cases_lt k (length xs)) [
  | inl less ↦ subst P (sym (get_or_append_left xs ys (pos 0) k less)) (first k (pos 0) less)
  | inr more ↦ subst P (sym (get_or-append_right xs ys (length xs) k (pos 0) refl more)) (second (k - length xs) (pos 0) (let e = length-append xs ys in omega (arith, lt, e, more)))
])

drop_front : (xs ys : List ℤ) (n : ℕ) → n ≡ length xs → drop n (xs ++ ys) ≡ ys
drop_front xs ys n is = ap (λ m. drop m (xs ++ ys)) is ∙ drop-append_seam xs ys

-- rows that were taken are left out
pub rows_left : (a : Rect) (p q e n : ℕ) (g : ℕ → ℕ → ℤ) (xs : List ℤ) → p ≤ q → q ≤ e → n ≡ (q - p) * columns_of a → xs ≡ raster (rows_between a p e) g → drop n xs ≡ raster (rows_between a q e) g
rows_left a p q e n g xs low high count is =
    ap (drop n) (is ∙ sym (joined a p q e g low high))
    ∙ drop_front (raster (rows_between a p q) g) (raster (rows_between a q e) g) n (count ∙ sym (raster_length (rows_between a p q) g))
