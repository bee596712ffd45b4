-- The rows that strips give a level.
use Rattle.std.proofs.Common.{◌≡◌, ℕ, zero, suc, ◌+◌, ◌-◌, ◌*◌, ◌/◌, ◌%◌, ◌^◌, ◌<◌, ◌≤◌, List, length, min, max, ℤ, sym, ◌∙◌, ap, subst, add-one, arith}
use Rattle.std.specs.List.{All}
use Rattle.std.proofs.lemmas.Nat.{pow-add}
use Rattle.std.proofs.Math.Nat.{mul-le-mul_right}
use Rattle.jk_math.specs.declared.rect.Rect.{Rect}
use Rattle.jk_math.specs.Raster.{columns_of, raster}
use Rattle.jk_math.specs.Signed.{IsBelow, signed_at}
use Rattle.jk_math.proofs.Laws.{IsPlaceOf, raster_at, raster_length}
use Rattle.jk_wave.specs.Levels.{half_bound}
use Rattle.jk_wave.specs.declared.climbing.parts.GivenRows.{GivenRows}
use Rattle.jk_wave.specs.declared.climbing.level.HighRows.{HighRows}
use Rattle.jk_wave.specs.climbing.PartRows.{half_width, ArePartRows, ShowPartRows}
use Rattle.jk_wave.specs.climbing.Standing.{rows_of_band, AreHigh, ShowHigh}
use Rattle.jk_walk.specs.TilePackets.{band_number}
use Rattle.jk_tile.specs.declared.decoding.strips.BlockRow.{BlockRow}
use Rattle.jk_tile.specs.decoding.Source.{Source, IsSource, source_coefficient}
use Rattle.jk_tile.specs.decoding.Strips.{block_exponent, strip_area, IsBlockRow, IsStrip}
use Rattle.jk_tile.proofs.Laws.{strip_is, strip_small}
use Rattle.jk_rows.specs.Components.{area_at, cell_exponent}
use Rattle.jk_rows.proofs.Cells.{high_band, in_cell, doubled}

-- Rows from v up to t of resolution q + 1 stand in row m of code-blocks.
pub record IsTaken (s : Source) (q v t m : ℕ) : Type 0 where
  pub few : suc q ≤ s.region.top
  pub from : (area_at s (q + 1)).y0 ≤ v
  pub order : v < t
  pub to : t ≤ (area_at s (q + 1)).y1
  pub cell : m ≡ v / 2 ^ cell_exponent s.coding (suc q)
  pub within : t ≤ (m + 1) * 2 ^ cell_exponent s.coding (suc q)

-- the row of code-blocks of sub-band i
abbrev pub row_at : (q i m : ℕ) → BlockRow
row_at q i m = record { resolution = suc q; band = i; row = m }

-- the rectangle of the strip
strip_sides : (s : Source) (q i m : ℕ) → IsSource s → suc q ≤ s.region.top → i < 3 → strip_area s (row_at q i m) ≡ record {
  x0 = half_bound (area_at s (q + 1)).x0 ((i + 1) % 2);
  y0 = max (half_bound (area_at s (q + 1)).y0 ((i + 1) / 2)) (m * 2 ^ block_exponent s.coding (suc q));
  x1 = half_bound (area_at s (q + 1)).x1 ((i + 1) % 2);
  y1 = max (max (half_bound (area_at s (q + 1)).y0 ((i + 1) / 2)) (m * 2 ^ block_exponent s.coding (suc q))) (min (half_bound (area_at s (q + 1)).y1 ((i + 1) / 2)) ((m + 1) * 2 ^ block_exponent s.coding (suc q)));
}
strip_sides s q i m is few lt = strip_is s (row_at q i m) ∙ ap (λ (b : Rect). record {
  x0 = b.x0;
  y0 = max b.y0 (m * 2 ^ block_exponent s.coding (suc q));
  x1 = b.x1;
  y1 = max (max b.y0 (m * 2 ^ block_exponent s.coding (suc q))) (min b.y1 ((m + 1) * 2 ^ block_exponent s.coding (suc q)));
}) (high_band s q i m is few lt)

-- the rows that are taken lie in the strip
pub record LieInStrip (a b : Rect) (v t o : ℕ) : Type 0 where
  pub left : b.x0 ≡ half_bound a.x0 (o % 2)
  pub right : b.x1 ≡ half_bound a.x1 (o % 2)
  pub begins : b.y0 ≤ half_bound v (o / 2)
  pub ends : half_bound t (o / 2) ≤ b.y1

pub lie_in_strip : (s : Source) (q v t m i : ℕ) → IsSource s → i < 3 → IsTaken s q v t m → LieInStrip (area_at s (q + 1)) (strip_area s (row_at q i m)) v t (i + 1)
lie_in_strip s q v t m i is lt at =
    let e : ℕ = block_exponent s.coding (suc q) in
    let sides = strip_sides s q i m is at.few lt in
    let upper = ap (λ (b : Rect). b.y0) sides in
    let lower = ap (λ (b : Rect). b.y1) sides in
    let cell = in_cell v (e + 1) m t at.cell at.order at.within in
    let front : m * 2 ^ (e + 1) ≡ 2 * (m * 2 ^ e) = ap (λ k. m * k) (pow-add 2 e 1) ∙ doubled m (2 ^ e) in
    let back : (m + 1) * 2 ^ (e + 1) ≡ 2 * ((m + 1) * 2 ^ e) = ap (λ k. (m + 1) * k) (pow-add 2 e 1) ∙ doubled (m + 1) (2 ^ e) in
    let from = at.from in let to = at.to in let within = at.within in
    record {
      left = ap (λ (b : Rect). b.x0) sides;
      right = ap (λ (b : Rect). b.x1) sides;
      begins = omega (arith, upper, from, cell.0, front, lt);
      ends = omega (arith, lower, to, within, back, lt);
    }

-- the rows of one sub-band
pub part_rows : (s : Source) (q v t m i : ℕ) (rows : GivenRows) (strip : List ℤ) → IsSource s → i < 3 → IsTaken s q v t m → IsStrip s (row_at q i m) strip
    → rows.from ≡ (strip_area s (row_at q i m)).y0 → rows.values.now ≡ strip → ArePartRows (area_at s (q + 1)) v t (i + 1) rows
part_rows s q v t m i rows strip is lt at strips begins list =
    let a = area_at s (q + 1) in
    let b = strip_area s (row_at q i m) in
    let lie = lie_in_strip s q v t m i is lt at in
    let width : columns_of b ≡ half_width a ((i + 1) % 2) = ap (λ n. b.x1 - n) lie.left ∙ ap (λ n. n - half_bound a.x0 ((i + 1) % 2)) lie.right in
    let long : length rows.values.now ≡ (b.y1 - b.y0) * half_width a ((i + 1) % 2) = ap length (list ∙ strips) ∙ raster_length b _ ∙ ap (λ n. (b.y1 - b.y0) * n) width in
    let fits : (half_bound t ((i + 1) / 2) - rows.from) * half_width a ((i + 1) % 2) ≤ (b.y1 - b.y0) * half_width a ((i + 1) % 2) = mul-le-mul_right (half_width a ((i + 1) % 2)) (let end = lie.ends in omega (arith, begins, end)) in
    record {
      begins = (let first = lie.begins in omega (arith, begins, first));
      long = omega (arith, fits, long);
    }

pub part_shown : (s : Source) (q v t m i : ℕ) (rows : GivenRows) (strip : List ℤ) → IsSource s → i < 3 → IsTaken s q v t m → IsStrip s (row_at q i m) strip
    → rows.from ≡ (strip_area s (row_at q i m)).y0 → rows.values.now ≡ strip → ShowPartRows (area_at s (q + 1)) v t (i + 1) (source_coefficient s (3 * q + (i + 1))) rows
part_shown s q v t m i rows strip is lt at strips begins list u n inside from to =
    let a = area_at s (q + 1) in
    let b = strip_area s (row_at q i m) in
    let f = source_coefficient s (band_number (suc q) i) in
    let lie = lie_in_strip s q v t m i is lt at in
    let left = lie.left in let right = lie.right in let first = lie.begins in let last = lie.ends in
    let hl = inside.left in let hr = inside.right in
    let width : half_width a ((i + 1) % 2) ≡ columns_of b = sym (ap (λ n. b.x1 - n) lie.left ∙ ap (λ n. n - half_bound a.x0 ((i + 1) % 2)) lie.right) in
    let here : IsPlaceOf b u n = record { left = omega (arith, left, hl); right = omega (arith, right, hr); upper = omega (arith, first, from); lower = omega (arith, last, to) } in
    let index : 3 * q + 1 + i ≡ 3 * q + (i + 1) = omega arith in
    ap (λ l. signed_at l ((n - rows.from) * half_width a ((i + 1) % 2) + (u - half_bound a.x0 ((i + 1) % 2)))) (list ∙ strips)
    ∙ ap (λ k. signed_at (raster b f) ((n - k) * half_width a ((i + 1) % 2) + (u - half_bound a.x0 ((i + 1) % 2)))) begins
    ∙ ap (λ k. signed_at (raster b f) ((n - b.y0) * k + (u - half_bound a.x0 ((i + 1) % 2)))) width
    ∙ ap (λ k. signed_at (raster b f) ((n - b.y0) * columns_of b + (u - k))) (sym left)
    ∙ raster_at b f u n here ∙ ap (λ k. source_coefficient s k u n) index

-- what a level is given
pub record AreGiven (s : Source) (q m : ℕ) (h : HighRows) (strip : ℕ → List ℤ) : Type 0 where
  pub hl : h.hl.from ≡ (strip_area s (row_at q 0 m)).y0
  pub lh : h.lh.from ≡ (strip_area s (row_at q 1 m)).y0
  pub hh : h.hh.from ≡ (strip_area s (row_at q 2 m)).y0
  pub hl_list : h.hl.values.now ≡ strip 0
  pub lh_list : h.lh.values.now ≡ strip 1
  pub hh_list : h.hh.values.now ≡ strip 2

band_from : (s : Source) (q m : ℕ) (h : HighRows) (strip : ℕ → List ℤ) → AreGiven s q m h strip → (i : ℕ) → i < 3
    → ((rows_of_band h (suc i)).from ≡ (strip_area s (row_at q i m)).y0) × ((rows_of_band h (suc i)).values.now ≡ strip i)
band_from s q m h strip g zero lt = (g.hl, g.hl_list)
band_from s q m h strip g (suc zero) lt = (g.lh, g.lh_list)
band_from s q m h strip g (suc (suc zero)) lt = (g.hh, g.hh_list)
band_from s q m h strip g (suc (suc (suc i))) lt = absurd (omega (arith, lt))

pub are_high : (s : Source) (q v t m : ℕ) (h : HighRows) (strip : ℕ → List ℤ) → IsSource s → IsTaken s q v t m → m * 2 ^ block_exponent s.coding (suc q) < 2 ^ 31 → ((i : ℕ) → i < 3 → IsStrip s (row_at q i m) (strip i)) → AreGiven s q m h strip
    → AreHigh (area_at s (q + 1)) v t h
are_high s q v t m h strip is at small strips given = record {
  rows = λ o some few. by o some few;
  small = λ o some few. less o some few;
}
  where
    by : (o : ℕ) → 0 < o → o < 4 → ArePartRows (area_at s (q + 1)) v t o (rows_of_band h o)
    by zero some few = absurd (omega arith)
    by (suc i) some few =
        let three : i < 3 = omega (arith, few) in
        let g = band_from s q m h strip given i three in
        subst (λ o. ArePartRows (area_at s (q + 1)) v t o (rows_of_band h (suc i))) (add-one i) (part_rows s q v t m i (rows_of_band h (suc i)) (strip i) is three at (strips i three) g.0 g.1)

    less : (o : ℕ) → 0 < o → o < 4 → All (IsBelow (2 ^ 23)) (rows_of_band h o).values.now
    less zero some few = absurd (omega arith)
    less (suc i) some few =
        let three : i < 3 = omega (arith, few) in
        let row : IsBlockRow s (row_at q i m) = record { resolution = at.few; band = three; small = small } in
        subst (All (IsBelow (2 ^ 23))) (sym (band_from s q m h strip given i three).1) (strip_small s (row_at q i m) (strip i) is row (strips i three))

pub show_high : (s : Source) (q v t m : ℕ) (h : HighRows) (strip : ℕ → List ℤ) → IsSource s → IsTaken s q v t m → ((i : ℕ) → i < 3 → IsStrip s (row_at q i m) (strip i)) → AreGiven s q m h strip
    → ShowHigh (area_at s (q + 1)) v t (λ o. source_coefficient s (3 * q + o)) h
show_high s q v t m h strip is at strips given zero some few = absurd (omega arith)
show_high s q v t m h strip is at strips given (suc i) some few =
    let three : i < 3 = omega (arith, few) in
    let g = band_from s q m h strip given i three in
    subst (λ o. ShowPartRows (area_at s (q + 1)) v t o (source_coefficient s (3 * q + o)) (rows_of_band h (suc i))) (add-one i)
    (part_shown s q v t m i (rows_of_band h (suc i)) (strip i) is three at (strips i three) g.0 g.1)
