-- A tile-component where it is looked at through a window: it depends on the code-blocks of the precincts that the window needs.
use Rattle.std.proofs.Common.{◌≡◌, ℕ, zero, suc, ◌+◌, ◌-◌, ◌*◌, ◌/◌, ◌%◌, ◌<◌, ◌≤◌, ◌⊎◌, inl, inr, true, List, length, ℤ, refl, sym, ap, ◌∙◌, subst, arith}
use Rattle.std.proofs.lemmas.Bool.{cases_eq}
use Rattle.jk_math.specs.declared.rect.Rect.{Rect}
use Rattle.jk_marks.specs.declared.coding.Coding.{Coding}
use Rattle.jk_marks.specs.Coding.{IsCoding}
use Rattle.jk_math.specs.declared.orientation.Orientation.{Orientation}
use Rattle.jk_math.specs.declared.orientation.Orientation.TheVariants.{LL}
use Rattle.jk_geom.specs.Rectangles.{IsWithin, meet, across_offset, down_offset, resolution_area, band_area}
use Rattle.jk_geom.specs.Precincts.{precinct_number}
use Rattle.jk_geom.specs.Partitions.{reduced_area, block_number}
use Rattle.jk_geom.specs.TileShapes.{coding_of}
use Rattle.jk_wave.specs.Bands.{numbered_area, high_orientation}
use Rattle.jk_wave.proofs.Laws.{is_local_resolution, in_band}
use Rattle.jk_walk.specs.TilePackets.{Body, orientations, band_number}
use Rattle.jk_tile.specs.TileBlocks.{orientation_at, grid_at}
use Rattle.jk_tile.specs.TileMeaning.{values_of, IsBlockAt}
use Rattle.jk_tile.proofs.Laws.{shown_is, numbered_high, place_agrees}
use Rattle.jk_window.specs.Needs.{part_of_band, stretch, needed_part, is_needed, IsNear}
use Rattle.jk_window.proofs.Laws.{stretch_none, near_part, near_stretch, place_needs}

-- the part of a tile in a window
abbrev pub seen : Rect → Rect → ℕ → Rect
seen a w d = meet w (reduced_area a d)

-- Two decodings of a component of a tile: all code-blocks that are asked for mean their coefficients, and those of the precincts that
-- the window needs have the same bodies.
pub record AreDecodings (a : Rect) (codings : List Coding) (w : Rect) (d c : ℕ) (mine theirs : ℕ → ℕ → List Body) (p q : ℕ → ℕ → ℕ → ℤ) : Type 0 where
  pub coding : IsCoding (coding_of codings c)
  pub levels : d ≤ (coding_of codings c).levels
  pub first : (r n i j : ℕ) → r + d ≤ (coding_of codings c).levels → n < precinct_number a (coding_of codings c) r → i < length (orientations r) → j < block_number (grid_at a (coding_of codings c) r n i)
      → IsBlockAt a (coding_of codings c) (mine r n) p r n i j
  pub second : (r n i j : ℕ) → r + d ≤ (coding_of codings c).levels → n < precinct_number a (coding_of codings c) r → i < length (orientations r) → j < block_number (grid_at a (coding_of codings c) r n i)
      → IsBlockAt a (coding_of codings c) (theirs r n) q r n i j
  pub same : (r n : ℕ) → r + d ≤ (coding_of codings c).levels → n < precinct_number a (coding_of codings c) r → is_needed a codings w d c r n ≡ true → mine r n ≡ theirs r n

-- ---- coefficients

-- They agree at the places of a sub-band that the window depends on.
band_agrees : (a : Rect) (codings : List Coding) (w : Rect) (d c : ℕ) (mine theirs : ℕ → ℕ → List Body) (p q : ℕ → ℕ → ℕ → ℤ) (x y : ℕ) → AreDecodings a codings w d c mine theirs p q → IsWithin (seen a w d) x y
    → (r i u v : ℕ) → r + d ≤ (coding_of codings c).levels → i < length (orientations r) → IsWithin (band_area a (coding_of codings c).levels r (orientation_at r i)) u v
    → IsWithin (needed_part (seen a w d) ((coding_of codings c).levels - (r + d)) (orientation_at r i)) u v → p (band_number r i) u v ≡ q (band_number r i) u v
band_agrees a codings w d c mine theirs p q x y are within r i u v few lt band part =
    place_agrees a (coding_of codings c) mine theirs p q r i u v are.coding (omega (arith, few)) lt band (λ n j precinct block. (are.first r n i j few precinct lt block, are.second r n i j few precinct lt block))
    (λ n precinct here. are.same r n few precinct (place_needs a codings w d c r n i x y u v within few lt here part))

lowest_band : (a : Rect) (levels : ℕ) → band_area a levels 0 LL ≡ resolution_area a levels 0
unfolding band_area
lowest_band a levels = refl

-- the sub-bands of a resolution above the lowest
pub high_same : (q i : ℕ) → i < 3 → orientation_at (suc q) i ≡ high_orientation i
high_same q zero lt = refl
high_same q (suc zero) lt = refl
high_same q (suc (suc zero)) lt = refl
high_same q (suc (suc (suc i))) lt = absurd (omega (arith, lt))

pub high_part : (u : Rect) (n i : ℕ) → i < 3 → needed_part u n (high_orientation i) ≡ part_of_band (stretch u n) (high_orientation i)
high_part u n zero lt = refl
high_part u n (suc zero) lt = refl
high_part u n (suc (suc zero)) lt = refl
high_part u n (suc (suc (suc i))) lt = absurd (omega (arith, lt))

-- which of them has a place that isn't even both ways
record IsHigh (x y : ℕ) : Type 0 where
  index : ℕ
  few : index < 3
  number : x % 2 + 2 * (y % 2) ≡ 1 + index
  across : x % 2 ≡ across_offset (high_orientation index)
  down : y % 2 ≡ down_offset (high_orientation index)

high_at : (x y : ℕ) → (x % 2 ≡ 1) ⊎ (y % 2 ≡ 1) → IsHigh x y
high_at x y odd = elim (cases_eq (x % 2) 0) [
  | inl ex ↦
      let ey : y % 2 ≡ 1 = elim odd [ inl e ↦ absurd (omega (arith, e, ex)) | inr e ↦ e ] in
      record { index = 1; few = omega arith; number = omega (arith, ex, ey); across = ex; down = ey }
  | inr nx ↦
      let ox : x % 2 ≡ 1 = omega (arith, nx) in
      elim (cases_eq (y % 2) 0) [
        | inl ey ↦ record { index = 0; few = omega arith; number = omega (arith, ox, ey); across = ox; down = ey }
        | inr ny ↦ (let oy : y % 2 ≡ 1 = omega (arith, ny) in record { index = 2; few = omega arith; number = omega (arith, ox, oy); across = ox; down = oy })
      ]
]

-- ---- values

-- The values of sub-bands agree in the window where the coefficients do that the window depends on.
pub values_local : (a : Rect) (codings : List Coding) (w : Rect) (d c : ℕ) (p q : ℕ → ℕ → ℕ → ℤ) (x y : ℕ) → d ≤ (coding_of codings c).levels → IsWithin (seen a w d) x y
    → ((r i u v : ℕ) → r + d ≤ (coding_of codings c).levels → i < length (orientations r) → IsWithin (band_area a (coding_of codings c).levels r (orientation_at r i)) u v
    → IsWithin (needed_part (seen a w d) ((coding_of codings c).levels - (r + d)) (orientation_at r i)) u v → p (band_number r i) u v ≡ q (band_number r i) u v)
    → values_of a (coding_of codings c) d p x y ≡ values_of a (coding_of codings c) d q x y
values_local a codings w d c p q x y le within agree =
    let k = coding_of codings c in
    let levels = k.levels in
    let top = seen a w d in
    let u : ℕ → Rect = λ r. stretch top (levels - (r + d)) in
    let l = within.left in let m = within.right in let e = within.upper in let f = within.lower in
    let inside : IsWithin (reduced_area a d) x y = record { left = omega (arith, l); right = omega (arith, m); upper = omega (arith, e); lower = omega (arith, f) } in
    let whole : levels - (levels - d + d) ≡ 0 = omega (arith, le) in
    is_local_resolution a levels u p q (levels - d) (omega arith)
    (λ s t here stretched.
    agree 0 0 s t (omega (arith, le)) (omega arith) (subst (λ (z : Rect). IsWithin z s t) (sym (lowest_band a levels)) here) stretched)
    (λ r s t less here near even_x even_y.
    let next : levels - (r + 1 + d) + 1 ≡ levels - (r + d) = omega (arith, less, le) in
    subst (λ n. IsWithin (stretch top n) (s / 2) (t / 2)) next (near_stretch top (levels - (r + 1 + d)) s t near even_x even_y))
    (λ r s t less here near odd.
    let high = high_at s t odd in
    let i = high.index in
    let few = high.few in
    let number = high.number in
    let below : levels - (r + 1 + d) ≡ levels - (suc r + d) = omega arith in
    let counted : 3 * r + (s % 2 + 2 * (t % 2)) ≡ 3 * r + 1 + i = omega (arith, number) in
    let band : IsWithin (band_area a levels (suc r) (orientation_at (suc r) i)) (s / 2) (t / 2) =
    subst (λ (o : Orientation). IsWithin (band_area a levels (suc r) o) (s / 2) (t / 2)) (sym (high_same r i few))
    (subst (λ (z : Rect). IsWithin z (s / 2) (t / 2)) (numbered_high a levels r i few)
    (subst (λ b. IsWithin (numbered_area a levels b) (s / 2) (t / 2)) counted (in_band a levels r s t (omega (arith, less, le)) here odd))) in
    let part : IsWithin (needed_part top (levels - (suc r + d)) (orientation_at (suc r) i)) (s / 2) (t / 2) =
    subst (λ (o : Orientation). IsWithin (needed_part top (levels - (suc r + d)) o) (s / 2) (t / 2)) (sym (high_same r i few))
    (subst (λ (z : Rect). IsWithin z (s / 2) (t / 2)) (sym (high_part top (levels - (suc r + d)) i few))
    (near_part (stretch top (levels - (suc r + d))) (high_orientation i) s t (subst (λ n. IsNear (stretch top n) s t) below near) high.across high.down)) in
    subst (λ b. p b (s / 2) (t / 2) ≡ q b (s / 2) (t / 2)) (sym counted)
    (agree (suc r) i (s / 2) (t / 2) (omega (arith, less, le)) few band part))
    x y (subst (λ (z : Rect). IsWithin z x y) (sym (shown_is a levels d le)) inside) (subst (λ (z : Rect). IsWithin z x y) (stretch_none top ∙ ap (stretch top) (sym whole)) within)

-- The values of two decodings agree in the window.
pub values_agree : (a : Rect) (codings : List Coding) (w : Rect) (d c : ℕ) (mine theirs : ℕ → ℕ → List Body) (p q : ℕ → ℕ → ℕ → ℤ) (x y : ℕ) → AreDecodings a codings w d c mine theirs p q → IsWithin (seen a w d) x y
    → values_of a (coding_of codings c) d p x y ≡ values_of a (coding_of codings c) d q x y
values_agree a codings w d c mine theirs p q x y are within =
    values_local a codings w d c p q x y are.levels within (band_agrees a codings w d c mine theirs p q x y are within)
