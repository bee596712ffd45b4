-- Rows that a level takes of its strips, and how that leaves it.
use Rattle.std.proofs.Common.{◌≡◌, ℕ, zero, suc, ◌+◌, ◌-◌, ◌*◌, ◌/◌, ◌%◌, ◌^◌, ◌<◌, ◌≤◌, ◌⊎◌, ◌++◌, inl, inr, true, false, ◌||◌, ◌==◌, List, [], ℤ, refl, sym, ◌∙◌, ap, subst, add-one, arith}
use Rattle.std.specs.List.{All}
use Rattle.std.proofs.lemmas.Bool.{or_parts}
use Rattle.std.proofs.lemmas.Bool.Decides.{eqb_tells}
use Rattle.std.proofs.lemmas.Nat.{pow_pos, pow-add, div-add-mod'}
use Rattle.std.proofs.lemmas.List.{append-nil}
use Rattle.std.proofs.lemmas.List.Elements.{All-nil}
use Rattle.jk_math.specs.declared.rect.Rect.{Rect}
use Rattle.jk_math.specs.Raster.{raster}
use Rattle.jk_math.specs.Signed.{IsBelow}
use Rattle.jk_marks.specs.declared.coding.Coding.{Coding}
use Rattle.jk_geom.proofs.Laws.{cell_to}
use Rattle.jk_wave.specs.Levels.{half_bound, unlifted_over}
use Rattle.jk_wave.specs.Resolutions.{resolution_of, woven_plane}
use Rattle.jk_wave.specs.declared.climbing.parts.GivenRows.{GivenRows}
use Rattle.jk_wave.specs.declared.climbing.level.HighRows.{HighRows}
use Rattle.jk_wave.specs.climbing.Held.{rows_between}
use Rattle.jk_wave.specs.climbing.Intervals.{rows_reached}
use Rattle.jk_wave.specs.climbing.PartRows.{half_width, ArePartRows}
use Rattle.jk_wave.specs.climbing.Standing.{rows_of_band, AreHigh, ShowHigh, IsStanding}
use Rattle.jk_wave.proofs.Laws.{resolved, no_rows}
use Rattle.jk_tile.specs.decoding.Source.{Source, IsSource, source_coefficient}
use Rattle.jk_tile.specs.decoding.Strips.{block_exponent, strip_area, IsStrip, IsRowFine}
use Rattle.jk_rows.specs.declared.level.RowLevel.{RowLevel}
use Rattle.jk_rows.specs.Components.{area_at, cell_exponent, AreChains, AreBlocksAt, strip_in, HasRow, StandsBefore}
use Rattle.jk_rows.proofs.Cells.{doubled, fine_more, strips_stay}
use Rattle.jk_rows.proofs.Strips.{IsTaken, row_at, AreGiven, are_high, show_high}

-- no row of the sub-bands
none_in : (a : Rect) (v o : ℕ) (rows : GivenRows) → rows.from ≡ half_bound v (o / 2) → ArePartRows a v v o rows
none_in a v o rows from =
    let none : half_bound v (o / 2) - rows.from ≡ 0 = omega (arith, from) in
    let nothing : (half_bound v (o / 2) - rows.from) * half_width a (o % 2) ≡ 0 = ap (λ n. n * half_width a (o % 2)) none ∙ (let z : 0 * half_width a (o % 2) ≡ 0 = omega arith in z) in
    record { begins = omega (arith, from); long = omega (arith, nothing) }

pub record AreNone (v : ℕ) (h : HighRows) : Type 0 where
  pub hl : h.hl.from ≡ v / 2 + v % 2
  pub lh : h.lh.from ≡ v / 2
  pub hh : h.hh.from ≡ v / 2
  pub hl_list : h.hl.values.now ≡ []
  pub lh_list : h.lh.values.now ≡ []
  pub hh_list : h.hh.values.now ≡ []

none_small : (xs : List ℤ) → xs ≡ [] → All (IsBelow (2 ^ 23)) xs
none_small xs is = subst (All (IsBelow (2 ^ 23))) (sym is) (All-nil (IsBelow (2 ^ 23)))

pub none_high : (a : Rect) (v : ℕ) (h : HighRows) → AreNone v h → AreHigh a v v h
none_high a v h g = record {
  rows = λ o some few. by o some few;
  small = λ o some few. less o some few;
}
  where
    by : (o : ℕ) → 0 < o → o < 4 → ArePartRows a v v o (rows_of_band h o)
    by zero some few = absurd (omega arith)
    by (suc zero) some few = none_in a v 1 h.hl (let e = g.hl in omega (arith, e))
    by (suc (suc zero)) some few = none_in a v 2 h.lh (let e = g.lh in omega (arith, e))
    by (suc (suc (suc zero))) some few = none_in a v 3 h.hh (let e = g.hh in omega (arith, e))
    by (suc (suc (suc (suc o)))) some few = absurd (omega (arith, few))

    less : (o : ℕ) → 0 < o → o < 4 → All (IsBelow (2 ^ 23)) (rows_of_band h o).values.now
    less zero some few = absurd (omega arith)
    less (suc zero) some few = none_small h.hl.values.now g.hl_list
    less (suc (suc zero)) some few = none_small h.lh.values.now g.lh_list
    less (suc (suc (suc o))) some few = none_small h.hh.values.now g.hh_list

pub none_shown : (a : Rect) (v : ℕ) (bands : ℕ → ℕ → ℕ → ℤ) (h : HighRows) → ShowHigh a v v bands h
none_shown a v bands h o some few u n inside from to = absurd (omega (arith, from, to))

-- the row of code-blocks by another name
next_row : (s : Source) (q m : ℕ) (strip : ℕ → List ℤ) → ((i : ℕ) → i < 3 → IsStrip s (record { resolution = q + 1; band = i; row = m }) (strip i)) → (i : ℕ) → i < 3 → IsStrip s (row_at q i m) (strip i)
next_row s q m strip has i lt = subst (λ r. IsStrip s (record { resolution = r; band = i; row = m }) (strip i)) (add-one q) (has i lt)

next_y : (s : Source) (q i m : ℕ) → (strip_area s (record { resolution = q + 1; band = i; row = m })).y0 ≡ (strip_area s (row_at q i m)).y0
next_y s q i m = ap (λ r. (strip_area s (record { resolution = r; band = i; row = m })).y0) (add-one q)

-- what a level is given of its strips
pub record AreOf (s : Source) (q m : ℕ) (h : HighRows) (l : RowLevel) : Type 0 where
  pub hl : h.hl.from ≡ (strip_area s (record { resolution = q + 1; band = 0; row = m })).y0
  pub lh : h.lh.from ≡ (strip_area s (record { resolution = q + 1; band = 1; row = m })).y0
  pub hh : h.hh.from ≡ (strip_area s (record { resolution = q + 1; band = 2; row = m })).y0
  pub hl_list : h.hl.values.now ≡ l.hl.items
  pub lh_list : h.lh.values.now ≡ l.lh.items
  pub hh_list : h.hh.values.now ≡ l.hh.items

are_given : (s : Source) (q m : ℕ) (h : HighRows) (l : RowLevel) → AreOf s q m h l → AreGiven s q m h (strip_in l)
are_given s q m h l g = record {
  hl = g.hl ∙ next_y s q 0 m;
  lh = g.lh ∙ next_y s q 1 m;
  hh = g.hh ∙ next_y s q 2 m;
  hl_list = g.hl_list;
  lh_list = g.lh_list;
  hh_list = g.hh_list;
}

pub high_taken : (s : Source) (q v t m : ℕ) (h : HighRows) (l : RowLevel) → IsSource s → IsTaken s q v t m → m * 2 ^ block_exponent s.coding (q + 1) < 2 ^ 31 → HasRow s q m l → AreOf s q m h l → AreHigh (area_at s (q + 1)) v t h
high_taken s q v t m h l is at small has given =
    are_high s q v t m h (strip_in l) is at (subst (λ r. m * 2 ^ block_exponent s.coding r < 2 ^ 31) (add-one q) small) (next_row s q m (strip_in l) has) (are_given s q m h l given)

pub high_shown : (s : Source) (q v t m : ℕ) (h : HighRows) (l : RowLevel) → IsSource s → IsTaken s q v t m → HasRow s q m l → AreOf s q m h l → ShowHigh (area_at s (q + 1)) v t (λ o. source_coefficient s (3 * q + o)) h
high_shown s q v t m h l is at has given = show_high s q v t m h (strip_in l) is at (next_row s q m (strip_in l) has) (are_given s q m h l given)

-- which rows are taken
pub is_taken : (s : Source) (q v t m e : ℕ) (l : RowLevel) → q < s.region.top → StandsBefore s q v l → v < t → t ≤ (area_at s (q + 1)).y1 → e ≡ block_exponent s.coding (q + 1) → m ≡ v / 2 ^ (e + 1)
    → t ≤ (v / 2 ^ cell_exponent s.coding (q + 1) + 1) * 2 ^ cell_exponent s.coding (q + 1) → IsTaken s q v t m
is_taken s q v t m e l less at order to power row within =
    let upper = ap (λ (b : Rect). b.y0) at.is in
    let place = at.place in
    let first = at.standing.upper in
    let same : m ≡ v / 2 ^ cell_exponent s.coding (suc q) = row ∙ ap (λ n. v / 2 ^ (n + 1)) (power ∙ ap (block_exponent s.coding) (add-one q)) in
    let inside = subst (λ r. t ≤ (v / 2 ^ cell_exponent s.coding r + 1) * 2 ^ cell_exponent s.coding r) (add-one q) within in
    record {
      few = omega (arith, less);
      from = omega (arith, upper, place, first);
      order = order;
      to = to;
      cell = same;
      within = subst (λ n. t ≤ (n + 1) * 2 ^ cell_exponent s.coding (suc q)) (sym same) inside;
    }

-- the strips that were filled before are those of the row
pub row_before : (s : Source) (q v t m e : ℕ) (l : RowLevel) → IsTaken s q v t m → StandsBefore s q v l → e ≡ block_exponent s.coding (q + 1) → ((area_at s (q + 1)).y0 ≡ v → ⊥) → (v % 2 ^ (e + 1) ≡ 0 → ⊥) → HasRow s q m l
row_before s q v t m e l at stands power other within i lt =
    let strips = subst (λ r. AreBlocksAt s r v l.chains (strip_in l)) (add-one q) stands.blocks in
    let from = at.from in let order = at.order in let to = at.to in
    let upper = ap (λ r. (area_at s r).y0) (add-one q) in
    let lower = ap (λ r. (area_at s r).y1) (add-one q) in
    let same : cell_exponent s.coding (suc q) ≡ e + 1 = ap (λ n. n + 1) (sym (power ∙ ap (block_exponent s.coding) (add-one q))) in
    let has = strips.strips (omega (arith, from, other, upper)) (omega (arith, order, to, lower)) (λ z. within (subst (λ n. v % 2 ^ n ≡ 0) same z)) i lt in
    subst (λ r. IsStrip s (record { resolution = r; band = i; row = m }) (strip_in l i)) (sym (add-one q))
    (subst (λ k. IsStrip s (record { resolution = suc q; band = i; row = k }) (strip_in l i)) (sym at.cell) has)

-- a level behind the rows
pub stands_after : (s : Source) (q v t m e : ℕ) (old new : RowLevel) → IsSource s → IsTaken s q v t m → StandsBefore s q v old → e ≡ block_exponent s.coding (q + 1)
    → IsStanding new.level → new.level.area ≡ old.level.area → new.level.v ≡ t → new.chains ≡ old.chains → HasRow s q m new
    → ((v ≡ (area_at s (q + 1)).y0) ⊎ (v % 2 ^ (e + 1) ≡ 0) → (i : ℕ) → i < 3 → IsRowFine s (record { resolution = q + 1; band = i; row = m }))
    → StandsBefore s q t new
stands_after s q v t m e old new is at stands power standing area place chains has fresh =
    let before = subst (λ r. AreBlocksAt s r v old.chains (strip_in old)) (add-one q) stands.blocks in
    let from = subst (λ r. (area_at s r).y0 ≤ v) (add-one q) at.from in
    let same : cell_exponent s.coding (suc q) ≡ e + 1 = ap (λ n. n + 1) (sym (power ∙ ap (block_exponent s.coding) (add-one q))) in
    record {
      standing = standing;
      is = area ∙ stands.is;
      place = place;
      blocks = subst (λ r. AreBlocksAt s r t new.chains (strip_in new)) (sym (add-one q)) (record {
        chained = subst (AreChains s (suc q)) (sym chains) before.chained;
        strips = strips_stay s (suc q) v t m (strip_in new) at.order at.cell at.within (next_row s q m (strip_in new) has);
        fine = fine_more s (suc q) v t m is at.few from at.order at.cell at.within (λ begins i lt.
            subst (λ r. IsRowFine s (record { resolution = r; band = i; row = m })) (add-one q) (fresh (renamed begins same) i lt)) before.fine;
      });
    }
  where
    renamed : (v ≡ (area_at s (suc q)).y0) ⊎ (v % 2 ^ cell_exponent s.coding (suc q) ≡ 0) → cell_exponent s.coding (suc q) ≡ e + 1 → (v ≡ (area_at s (q + 1)).y0) ⊎ (v % 2 ^ (e + 1) ≡ 0)
    renamed (inl first) same = inl (first ∙ sym (ap (λ r. (area_at s r).y0) (add-one q)))
    renamed (inr begins) same = inr (subst (λ n. v % 2 ^ n ≡ 0) same begins)

-- the rows that a level gave, as rows of its resolution
pub out_of : (s : Source) (q v t : ℕ) (a : Rect) (old new : List ℤ) → a ≡ area_at s (q + 1)
    → new ≡ old ++ raster (rows_between a (rows_reached a v) (rows_reached a t)) (unlifted_over a (woven_plane (resolution_of s.region.rect s.region.levels (source_coefficient s) q) (λ o. source_coefficient s (3 * q + o))))
    → new ≡ old ++ raster (rows_between (area_at s (q + 1)) (rows_reached (area_at s (q + 1)) v) (rows_reached (area_at s (q + 1)) t)) (resolution_of s.region.rect s.region.levels (source_coefficient s) (q + 1))
out_of s q v t a old new is e =
    let whole = woven_plane (resolution_of s.region.rect s.region.levels (source_coefficient s) q) (λ o. source_coefficient s (3 * q + o)) in
    let b = area_at s (q + 1) in
    e ∙ ap (λ (d : Rect). old ++ raster (rows_between d (rows_reached d v) (rows_reached d t)) (unlifted_over d whole)) is
    ∙ ap (λ l. old ++ l) (resolved b s.region.rect s.region.levels q (source_coefficient s) (rows_reached b v) (rows_reached b t) refl)

-- a row that isn't the first of its row of code-blocks
pub not_first : (a : Rect) (y e : ℕ) → ((y == a.y0) || (y % 2 ^ e == 0)) ≡ false → (y ≡ a.y0 → ⊥) × (y % 2 ^ e ≡ 0 → ⊥)
not_first a y e none =
    let parts = or_parts (y == a.y0) (y % 2 ^ e == 0) none in
    (differ y a.y0 parts.0, differ (y % 2 ^ e) 0 parts.1)
  where
    differ : (p q : ℕ) → (p == q) ≡ false → p ≡ q → ⊥
    differ p q none same = elim (eqb_tells p q) [ inl is ↦ let t = is.0 in let f : true ≡ false = sym t ∙ none in cc | inr other ↦ other.1 same ]

pub cell_is : (k : Coding) (q : ℕ) → cell_exponent k (q + 1) ≡ block_exponent k (q + 1) + 1
cell_is k q = subst (λ r. cell_exponent k r ≡ block_exponent k r + 1) (sym (add-one q)) refl

-- a multiple of twice a power is even
pub even_end : (t e : ℕ) → t % 2 ^ (e + 1) ≡ 0 → t % 2 ≡ 0
even_end t e none =
    let split = div-add-mod' t (2 ^ (e + 1)) in
    let twice : t / 2 ^ (e + 1) * 2 ^ (e + 1) ≡ 2 * (t / 2 ^ (e + 1) * 2 ^ e) = ap (λ n. t / 2 ^ (e + 1) * n) (pow-add 2 e 1) ∙ doubled (t / 2 ^ (e + 1)) (2 ^ e) in
    omega (arith, split, twice, none)

-- a row alone
pub one_taken : (s : Source) (q v e : ℕ) (l : RowLevel) → q < s.region.top → StandsBefore s q v l → v < (area_at s (q + 1)).y1 → e ≡ block_exponent s.coding (q + 1) → IsTaken s q v (v + 1) (v / 2 ^ (e + 1))
one_taken s q v e l less at inside power =
    let to = cell_to v (2 ^ cell_exponent s.coding (q + 1)) (pow_pos (cell_exponent s.coding (q + 1))) in
    is_taken s q v (v + 1) (v / 2 ^ (e + 1)) e l less at (omega arith) (omega (arith, inside)) power refl (omega (arith, to))

-- no row behind a list
pub none_behind : (a : Rect) (p : ℕ) (g : ℕ → ℕ → ℤ) (out : List ℤ) → out ≡ out ++ raster (rows_between a p p) g
none_behind a p g out = sym (ap (λ r. out ++ r) (no_rows a p p g (omega arith)) ∙ append-nil out)
