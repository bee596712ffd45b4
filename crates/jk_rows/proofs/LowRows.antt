-- The rows that the strip of the lowest resolution gives.
use Rattle.std.proofs.Common.{◌≡◌, ℕ, zero, suc, ◌+◌, ◌-◌, ◌*◌, ◌/◌, ◌%◌, ◌^◌, ◌<◌, ◌≤◌, ◌⊎◌, List, length, take, drop, min, max, ℤ, sym, ◌∙◌, ap, subst, arith}
use Rattle.std.proofs.Math.Nat.{mul-le-mul_right}
use Rattle.jk_math.specs.declared.rect.Rect.{Rect}
use Rattle.jk_math.specs.Raster.{columns_of, raster}
use Rattle.jk_math.proofs.Laws.{raster_same}
use Rattle.jk_wave.specs.Resolutions.{resolution_of}
use Rattle.jk_wave.specs.climbing.Held.{rows_between}
use Rattle.jk_wave.proofs.Laws.{cut_rows, resolution_lowest}
use Rattle.jk_tile.specs.declared.decoding.strips.BlockRow.{BlockRow}
use Rattle.jk_tile.specs.decoding.Source.{Source, IsSource, source_coefficient}
use Rattle.jk_tile.specs.declared.decoding.chains.PacketChains.{PacketChains}
use Rattle.jk_tile.specs.decoding.Strips.{block_exponent, strip_area, IsStrip, IsRowFine}
use Rattle.jk_tile.proofs.Laws.{strip_is}
use Rattle.jk_rows.specs.Components.{area_at, taken_rows, AreChains, AreBlocksAt}
use Rattle.jk_rows.proofs.Taken.{low_first}
use Rattle.jk_rows.proofs.Cells.{lowest_band, in_cell, fine_more, strips_stay}

-- the row of code-blocks
abbrev pub low_at : (m : ℕ) → BlockRow
low_at m = record { resolution = 0; band = 0; row = m }

-- Rows from v up to t of the lowest resolution stand in row m of code-blocks.
pub record IsGiven (s : Source) (v t m : ℕ) : Type 0 where
  pub from : (area_at s 0).y0 ≤ v
  pub order : v < t
  pub to : t ≤ (area_at s 0).y1
  pub cell : m ≡ v / 2 ^ block_exponent s.coding 0
  pub within : t ≤ (m + 1) * 2 ^ block_exponent s.coding 0

-- they lie in its strip
pub record LieInLowest (a b : Rect) (v t : ℕ) : Type 0 where
  pub left : b.x0 ≡ a.x0
  pub right : b.x1 ≡ a.x1
  pub begins : b.y0 ≤ v
  pub ends : t ≤ b.y1

pub lie_in_lowest : (s : Source) (v t m : ℕ) → IsSource s → IsGiven s v t m → LieInLowest (area_at s 0) (strip_area s (low_at m)) v t
lie_in_lowest s v t m is at =
    let e : ℕ = block_exponent s.coding 0 in
    let band = lowest_band s 0 m is (omega arith) in
    let sides : strip_area s (low_at m) ≡ record {
      x0 = (area_at s 0).x0;
      y0 = max (area_at s 0).y0 (m * 2 ^ e);
      x1 = (area_at s 0).x1;
      y1 = max (max (area_at s 0).y0 (m * 2 ^ e)) (min (area_at s 0).y1 ((m + 1) * 2 ^ e));
    } = strip_is s (low_at m) ∙ ap (λ (b : Rect). record {
      x0 = b.x0;
      y0 = max b.y0 (m * 2 ^ e);
      x1 = b.x1;
      y1 = max (max b.y0 (m * 2 ^ e)) (min b.y1 ((m + 1) * 2 ^ e));
    }) band in
    let upper = ap (λ (b : Rect). b.y0) sides in
    let lower = ap (λ (b : Rect). b.y1) sides in
    let cell = in_cell v e m t at.cell at.order at.within in
    let from = at.from in let to = at.to in let within = at.within in let order = at.order in
    record {
      left = ap (λ (b : Rect). b.x0) sides;
      right = ap (λ (b : Rect). b.x1) sides;
      begins = omega (arith, upper, from, cell.0);
      ends = omega (arith, lower, to, within);
    }

-- as long as they are wide
pub low_fits : (a b : Rect) (v t w : ℕ) (strip : List ℤ) → LieInLowest a b v t → v < t → w ≡ a.x1 - a.x0 → length strip ≡ (b.y1 - b.y0) * columns_of b → (v - b.y0) * w + (t - v) * w ≤ length strip
low_fits a b v t w strip lie order is long =
    let first = lie.begins in let last = lie.ends in
    let width : w ≡ columns_of b = is ∙ ap (λ n. a.x1 - n) (sym lie.left) ∙ ap (λ n. n - b.x0) (sym lie.right) in
    let sum : (v - b.y0) * w + (t - v) * w ≡ (v - b.y0 + (t - v)) * w = spread (v - b.y0) (t - v) w in
    let fits : (v - b.y0 + (t - v)) * w ≤ (b.y1 - b.y0) * w = mul-le-mul_right w (omega (arith, first, last, order)) in
    let same : (b.y1 - b.y0) * w ≡ (b.y1 - b.y0) * columns_of b = ap (λ n. (b.y1 - b.y0) * n) width in
    omega (arith, sum, fits, same, long)
  where
    spread : (p q w : ℕ) → p * w + q * w ≡ (p + q) * w
    spread p q w = grind arith

pub low_rows : (s : Source) (v t m w : ℕ) (strip : List ℤ) → IsSource s → IsGiven s v t m → IsStrip s (low_at m) strip → w ≡ (area_at s 0).x1 - (area_at s 0).x0
    → take ((t - v) * w) (drop ((v - (strip_area s (low_at m)).y0) * w) strip) ≡ raster (rows_between (area_at s 0) v t) (resolution_of s.region.rect s.region.levels (source_coefficient s) 0)
low_rows s v t m w strip is at strips wide =
    let a = area_at s 0 in
    let b = strip_area s (low_at m) in
    let f = source_coefficient s 0 in
    let lie = lie_in_lowest s v t m is at in
    let order = at.order in
    let width : w ≡ columns_of b = wide ∙ ap (λ n. a.x1 - n) (sym lie.left) ∙ ap (λ n. n - b.x0) (sym lie.right) in
    cut_rows b v t ((v - b.y0) * w) ((t - v) * w) f strip lie.begins (omega (arith, order)) lie.ends strips (ap (λ n. (v - b.y0) * n) width) (ap (λ n. (t - v) * n) width)
    ∙ ap (λ n. raster (record { x0 = n; y0 = v; x1 = b.x1; y1 = t }) f) lie.left
    ∙ ap (λ n. raster (record { x0 = a.x0; y0 = v; x1 = n; y1 = t }) f) lie.right
    ∙ raster_same (rows_between a v t) f (resolution_of s.region.rect s.region.levels (source_coefficient s) 0) (λ x y h. sym (resolution_lowest s.region.rect s.region.levels (source_coefficient s) x y))

-- ---- the lowest resolution between two steps

-- before its first row
pub low_new : (s : Source) (chains : PacketChains) (strip : ℕ → List ℤ) → IsSource s → AreChains s 0 chains → AreBlocksAt s 0 (taken_rows s 0 (area_at s s.region.top).y0) chains strip
low_new s chains strip is told =
    let first = low_first s is in
    record {
      chained = told;
      strips = λ behind. absurd (omega (arith, behind, first));
      fine = λ behind. absurd (omega (arith, behind, first));
    }

-- the strip that was filled before
pub low_before : (s : Source) (v : ℕ) (chains : PacketChains) (strip : List ℤ) → AreBlocksAt s 0 v chains (λ i. strip) → (area_at s 0).y0 ≤ v → v < (area_at s 0).y1 → (v ≡ (area_at s 0).y0 → ⊥) → (v % 2 ^ block_exponent s.coding 0 ≡ 0 → ⊥)
    → IsStrip s (low_at (v / 2 ^ block_exponent s.coding 0)) strip
low_before s v chains strip at from inside other within = at.strips (omega (arith, from, other)) inside within 0 (omega arith)

-- behind the rows
pub low_after : (s : Source) (v t m : ℕ) (old new : PacketChains) (before strip : List ℤ) → IsSource s → IsGiven s v t m → AreBlocksAt s 0 v old (λ i. before) → new ≡ old → IsStrip s (low_at m) strip
    → ((v ≡ (area_at s 0).y0) ⊎ (v % 2 ^ block_exponent s.coding 0 ≡ 0) → IsRowFine s (low_at m)) → AreBlocksAt s 0 t new (λ i. strip)
low_after s v t m old new before strip is at stands chains has fresh = record {
  chained = subst (AreChains s 0) (sym chains) stands.chained;
  strips = strips_stay s 0 v t m (λ i. strip) at.order at.cell at.within (λ i lt. only (λ w. IsStrip s w strip) i lt has);
  fine = fine_more s 0 v t m is (omega arith) at.from at.order at.cell at.within (λ begins i lt. only (λ w. IsRowFine s w) i lt (fresh begins)) stands.fine;
}
  where
    only : (P : BlockRow → Type 0) (i : ℕ) → i < 1 → P (low_at m) → P (record { resolution = 0; band = i; row = m })
    only P zero lt p = p
    only P (suc i) lt p = absurd (omega (arith, lt))
