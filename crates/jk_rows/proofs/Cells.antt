-- The rows of code-blocks of a resolution, and which of them are fine.
use Rattle.std.proofs.Common.{◌≡◌, ◌≢◌, ℕ, zero, suc, ◌+◌, ◌*◌, ◌/◌, ◌%◌, ◌^◌, ◌<◌, ◌≤◌, ◌⊎◌, inl, inr, List, length, ℤ, refl, sym, ◌∙◌, ap, subst, add-one, arith}
use Rattle.std.proofs.lemmas.Bool.{cases_lt, cases_eq}
use Rattle.std.proofs.lemmas.Nat.{pow_pos, div-add-mod', mod_below, mod-mul-add, pow-add}
use Rattle.std.proofs.Math.Nat.{mul-le-mul_left, mul-le-mul_right}
use Rattle.std.proofs.Math.Pow.{pow_mono}
use Rattle.jk_math.specs.declared.rect.Rect.{Rect}
use Rattle.jk_math.specs.declared.orientation.Orientation.TheVariants.{LL}
use Rattle.jk_geom.specs.Rectangles.{IsWithin, resolution_area, band_area}
use Rattle.jk_geom.specs.Precincts.{precinct_number}
use Rattle.jk_geom.proofs.Laws.{cell_one, cell_to}
use Rattle.jk_walk.specs.TilePackets.{orientations}
use Rattle.jk_wave.specs.Levels.{half_area}
use Rattle.jk_wave.specs.Bands.{numbered_area}
use Rattle.jk_wave.proofs.Laws.{number_area}
use Rattle.jk_tile.specs.declared.decoding.strips.BlockRow.{BlockRow}
use Rattle.jk_tile.specs.TileBlocks.{orientation_at, block_at_place}
use Rattle.jk_tile.specs.decoding.Source.{Source, IsSource, block_count}
use Rattle.jk_tile.specs.decoding.Strips.{block_exponent, row_band, row_of_block, IsFine, IsRowFine, IsStrip}
use Rattle.jk_tile.proofs.Laws.{block_place, numbered_band, block_row_is}
use Rattle.jk_rows.specs.Components.{area_at, cell_exponent, IsFineAbove, HasStrips}

-- LL is the lowest resolution
low_is : (a : Rect) (levels : ℕ) → band_area a levels 0 LL ≡ resolution_area a levels 0
unfolding band_area
low_is a levels = refl

pub lowest_band : (s : Source) (i m : ℕ) → IsSource s → i < 1 → row_band s (record { resolution = 0; band = i; row = m }) ≡ area_at s 0
lowest_band s zero m is lt = low_is s.region.rect s.coding.levels ∙ ap (λ n. resolution_area s.region.rect n 0) (sym is.levels)
lowest_band s (suc i) m is lt = absurd (omega (arith, lt))

-- and each other sub-band a part of the level
pub high_band : (s : Source) (q i m : ℕ) → IsSource s → suc q ≤ s.region.top → i < 3 → row_band s (record { resolution = suc q; band = i; row = m }) ≡ half_area (area_at s (q + 1)) (i + 1)
high_band s q i m is few lt =
    let index : 3 * q + 1 + i ≡ 3 * q + (i + 1) = omega arith in
    ap (λ n. band_area s.region.rect n (suc q) (orientation_at (suc q) i)) (sym is.levels) ∙ sym (numbered_band s.region.rect s.region.levels (suc q) i lt)
    ∙ ap (numbered_area s.region.rect s.region.levels) index ∙ number_area s.region.rect s.region.levels q (i + 1) (let top = is.region.top in omega (arith, few, top)) (omega arith) (omega (arith, lt))

-- a place of a cell
pub in_cell : (v c m t : ℕ) → m ≡ v / 2 ^ c → v < t → t ≤ (m + 1) * 2 ^ c → (m * 2 ^ c ≤ v) × (v < (m + 1) * 2 ^ c)
in_cell v c m t is less to =
    let split = div-add-mod' v (2 ^ c) in
    let part = mod_below v (2 ^ c) (pow_pos c) in
    let whole : m * 2 ^ c ≡ v / 2 ^ c * 2 ^ c = ap (λ n. n * 2 ^ c) is in (omega (arith, split, part, whole), omega (arith, less, to))

-- the end of a cell is no further than the next one's
pub cell_far : (v c : ℕ) → c ≤ 11 → v < 2 ^ 31 → (v / 2 ^ c + 1) * 2 ^ c < 2 ^ 32
cell_far v c few small =
    let split = div-add-mod' v (2 ^ c) in
    let one : (v / 2 ^ c + 1) * 2 ^ c ≡ v / 2 ^ c * 2 ^ c + 2 ^ c = omega arith in
    let power : 2 ^ c ≤ 2 ^ 11 = pow_mono few in
    omega (arith, split, one, power, small)

-- and is a multiple
pub multiple : (n p : ℕ) → 0 < p → n * p % p ≡ 0
multiple n p some = let e : n * p + 0 ≡ n * p = omega arith in ap (λ k. k % p) (sym e) ∙ mod-mul-add n p 0 some

-- half as many rows of a sub-band
pub half_small : (v e : ℕ) → v < 2 ^ 31 → v / 2 ^ (e + 1) * 2 ^ e < 2 ^ 31
half_small v e small =
    let split = div-add-mod' v (2 ^ (e + 1)) in
    let more : 2 ^ e ≤ 2 ^ (e + 1) = pow_mono (omega arith) in
    let less : v / 2 ^ (e + 1) * 2 ^ e ≤ v / 2 ^ (e + 1) * 2 ^ (e + 1) = mul-le-mul_left (v / 2 ^ (e + 1)) more in
    omega (arith, split, less, small)

pub doubled : (m p : ℕ) → m * (p * 2) ≡ 2 * (m * p)
doubled m p = grind arith

-- in the same cell
pub same_cell : (v c m t : ℕ) → m ≡ v / 2 ^ c → v < t → t ≤ (m + 1) * 2 ^ c → t % 2 ^ c ≢ 0 → m ≡ t / 2 ^ c
same_cell v c m t is less to inside = elim (cases_eq t ((m + 1) * 2 ^ c)) [
  | inl end ↦ absurd (inside (ap (λ n. n % 2 ^ c) end ∙ multiple (m + 1) (2 ^ c) (pow_pos c)))
  | inr other ↦
      let at = in_cell v c m t is less to in
      cell_one m t (2 ^ c) (pow_pos c) (omega (arith, at.0, less)) (omega (arith, to, other))
]

-- where a code-block of a resolution stands: its row of cells has a row of the resolution
pub record IsInCell (s : Source) (r q : ℕ) : Type 0 where
  pub first : (area_at s r).y0 < (q + 1) * 2 ^ cell_exponent s.coding r
  pub last : q * 2 ^ cell_exponent s.coding r < (area_at s r).y1
  pub some : (area_at s r).y0 < (area_at s r).y1

-- the row of a sub-band's place is that of the resolution's
half_rows : (s : Source) (q i y : ℕ) → i < 3 → IsSource s → suc q ≤ s.region.top → (row_band s (record { resolution = suc q; band = i; row = 0 })).y0 ≤ y → y < (row_band s (record { resolution = suc q; band = i; row = 0 })).y1
    → ((area_at s (suc q)).y0 ≤ 2 * y + (i + 1) / 2) × (2 * y + (i + 1) / 2 < (area_at s (suc q)).y1)
half_rows s q i y lt is few from to =
    let same = high_band s q i 0 is few lt ∙ ap (λ r. half_area (area_at s r) (i + 1)) (add-one q) in
    let upper = ap (λ (b : Rect). b.y0) same in
    let lower = ap (λ (b : Rect). b.y1) same in
    (omega (arith, upper, lower, from, to, lt), omega (arith, upper, lower, from, to, lt))

pub block_cell : (s : Source) (r n i j : ℕ) → IsSource s → r ≤ s.region.top → i < length (orientations r) → j < block_count s r n i → IsInCell s r (row_of_block s r n i j)
block_cell s r n i j is few lt block =
    let p = block_place s.region.rect s.coding r n i j block in
    let b = block_at_place s.region.rect s.coding r n i j in
    let wide = p.wide in let high = p.high in
    let here : IsWithin b b.x0 b.y0 = record { left = omega arith; right = wide; upper = omega arith; lower = high } in
    let row = block_row_is s r n i j b.x0 b.y0 here in
    let e : ℕ = block_exponent s.coding r in
    let cell = in_cell b.y0 e (row_of_block s r n i j) (b.y0 + 1) row (omega arith) (let to = cell_to b.y0 (2 ^ e) (pow_pos e) in subst (λ m. b.y0 + 1 ≤ (m + 1) * 2 ^ e) (sym row) (omega (arith, to))) in
    by r refl (row_of_block s r n i j) cell p.upper (omega (arith, high, p.lower))
  where
    by : (t : ℕ) → r ≡ t → (m : ℕ) → (m * 2 ^ block_exponent s.coding r ≤ (block_at_place s.region.rect s.coding r n i j).y0) × ((block_at_place s.region.rect s.coding r n i j).y0 < (m + 1) * 2 ^ block_exponent s.coding r)
        → (row_band s (record { resolution = r; band = i; row = 0 })).y0 ≤ (block_at_place s.region.rect s.coding r n i j).y0 → (block_at_place s.region.rect s.coding r n i j).y0 < (row_band s (record { resolution = r; band = i; row = 0 })).y1 → IsInCell s r m
    by zero same m cell from to =
        let y : ℕ = (block_at_place s.region.rect s.coding r n i j).y0 in
        let low : row_band s (record { resolution = r; band = i; row = 0 }) ≡ area_at s r =
        ap (λ (w : BlockRow). row_band s w) (ap (λ t. record { resolution = t; band = i; row = 0 }) same)
        ∙ lowest_band s i 0 is (subst (λ t. i < length (orientations t)) same lt) ∙ sym (ap (area_at s) same) in
        let upper = ap (λ (b : Rect). b.y0) low in
        let lower = ap (λ (b : Rect). b.y1) low in
        let power : cell_exponent s.coding r ≡ block_exponent s.coding r = ap (cell_exponent s.coding) same ∙ sym (ap (block_exponent s.coding) same) in
        let front : m * 2 ^ cell_exponent s.coding r ≡ m * 2 ^ block_exponent s.coding r = ap (λ k. m * 2 ^ k) power in
        let back : (m + 1) * 2 ^ cell_exponent s.coding r ≡ (m + 1) * 2 ^ block_exponent s.coding r = ap (λ k. (m + 1) * 2 ^ k) power in
        record { first = omega (arith, upper, from, cell.1, back); last = omega (arith, lower, to, cell.0, front); some = omega (arith, upper, lower, from, to) }
    by (suc q) same m cell from to =
        let y : ℕ = (block_at_place s.region.rect s.coding r n i j).y0 in
        let three : i < 3 = subst (λ t. i < length (orientations t)) same lt in
        let rows = half_rows s q i y three is (subst (λ t. t ≤ s.region.top) same few) (subst (λ t. (row_band s (record { resolution = t; band = i; row = 0 })).y0 ≤ y) same from) (subst (λ t. y < (row_band s (record { resolution = t; band = i; row = 0 })).y1) same to) in
        let upper = ap (λ t. (area_at s t).y0) same in
        let lower = ap (λ t. (area_at s t).y1) same in
        let power : cell_exponent s.coding r ≡ block_exponent s.coding r + 1 = ap (cell_exponent s.coding) same ∙ sym (ap (λ t. block_exponent s.coding t + 1) same) in
        let twice : 2 ^ cell_exponent s.coding r ≡ 2 ^ block_exponent s.coding r * 2 = ap (λ k. 2 ^ k) power ∙ pow-add 2 (block_exponent s.coding r) 1 in
        let front : m * 2 ^ cell_exponent s.coding r ≡ 2 * (m * 2 ^ block_exponent s.coding r) = ap (λ k. m * k) twice ∙ doubled m (2 ^ block_exponent s.coding r) in
        let back : (m + 1) * 2 ^ cell_exponent s.coding r ≡ 2 * ((m + 1) * 2 ^ block_exponent s.coding r) = ap (λ k. (m + 1) * k) twice ∙ doubled (m + 1) (2 ^ block_exponent s.coding r) in
        record { first = omega (arith, upper, rows.0, cell.1, back, three); last = omega (arith, lower, rows.1, cell.0, front); some = omega (arith, upper, lower, rows.0, rows.1) }

-- the code-blocks of rows that begin above one row, and then above another
pub fine_more : (s : Source) (r v t m : ℕ) → IsSource s → r ≤ s.region.top → (area_at s r).y0 ≤ v → v < t → m ≡ v / 2 ^ cell_exponent s.coding r → t ≤ (m + 1) * 2 ^ cell_exponent s.coding r
    → ((v ≡ (area_at s r).y0) ⊎ (v % 2 ^ cell_exponent s.coding r ≡ 0) → (i : ℕ) → i < length (orientations r) → IsRowFine s (record { resolution = r; band = i; row = m }))
    → IsFineAbove s r v → IsFineAbove s r t
fine_more s r v t m is few from less cell to fresh old behind n i j precinct band block above =
    let c : ℕ = cell_exponent s.coding r in
    let q : ℕ = row_of_block s r n i j in
    let at = in_cell v c m t cell less to in
    let inside = block_cell s r n i j is few band block in
    elim (cases_lt q m) [
      | inl lower ↦
          let under : (q + 1) * 2 ^ c ≤ m * 2 ^ c = mul-le-mul_right (2 ^ c) (omega (arith, lower)) in
          let one : (q + 1) * 2 ^ c ≡ q * 2 ^ c + 2 ^ c = omega arith in
          let some = pow_pos c in
          elim (cases_eq v (area_at s r).y0) [
            | inl first ↦ absurd (let f = inside.first in omega (arith, f, under, at.0, first))
            | inr other ↦ old (omega (arith, from, other)) n i j precinct band block (omega (arith, under, one, some, at.0))
          ]
      | inr more ↦
          let least : q < m + 1 = below q (m + 1) (2 ^ c) (omega (arith, above, to)) in
          let same : q ≡ m = omega (arith, least, more) in
          elim (cases_eq v (area_at s r).y0) [
            | inl first ↦ fresh (inl first) i band n precinct j block same
            | inr other ↦ elim (cases_eq (v % 2 ^ c) 0) [
              | inl begins ↦ fresh (inr begins) i band n precinct j block same
              | inr within ↦
                  let split = div-add-mod' v (2 ^ c) in
                  let whole : m * 2 ^ c ≡ v / 2 ^ c * 2 ^ c = ap (λ k. k * 2 ^ c) cell in
                  let here : q * 2 ^ c ≡ m * 2 ^ c = ap (λ k. k * 2 ^ c) same in
                  old (omega (arith, from, other)) n i j precinct band block (omega (arith, here, whole, split, within))
            ]
          ]
    ]
  where
    below : (a b p : ℕ) → a * p < b * p → a < b
    below a b p lt = elim (cases_lt a b) [ inl less ↦ less | inr more ↦ absurd (let up : b * p ≤ a * p = mul-le-mul_right p more in omega (arith, up, lt)) ]

-- all code-blocks, where the last row is behind
pub fine_all : (s : Source) (r n i j : ℕ) → IsSource s → r ≤ s.region.top → IsFineAbove s r (area_at s r).y1 → n < precinct_number s.region.rect s.coding r → i < length (orientations r) → j < block_count s r n i → IsFine s r n i j
fine_all s r n i j is few old precinct band block =
    let inside = block_cell s r n i j is few band block in
    old inside.some n i j precinct band block inside.last

-- strips of the row of code-blocks in which a row stands have that of the next one too, or it is a first one
pub strips_stay : (s : Source) (r v t m : ℕ) (strip : ℕ → List ℤ) → v < t → m ≡ v / 2 ^ cell_exponent s.coding r → t ≤ (m + 1) * 2 ^ cell_exponent s.coding r
    → ((i : ℕ) → i < length (orientations r) → IsStrip s (record { resolution = r; band = i; row = m }) (strip i)) → HasStrips s r t strip
strips_stay s r v t m strip less cell to has behind short inside i band =
    subst (λ q. IsStrip s (record { resolution = r; band = i; row = q }) (strip i)) (same_cell v (cell_exponent s.coding r) m t cell less to inside) (has i band)
