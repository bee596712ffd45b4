-- Code-blocks one by one: what each of them means is gathered to coefficients, and code-blocks with the same bodies have the same
-- coefficients.
use Rattle.std.proofs.Common.{◌≡◌, ℕ, ◌+◌, ◌-◌, ◌<◌, ◌≤◌, List, [], length, ℤ, pos, refl, sym, ◌∙◌, arith}
use Rattle.jk_math.specs.declared.rect.Rect.{Rect}
use Rattle.jk_marks.specs.declared.coding.Coding.{Coding}
use Rattle.jk_marks.specs.Coding.{IsCoding}
use Rattle.jk_geom.specs.Rectangles.{IsWithin, band_area}
use Rattle.jk_geom.specs.Precincts.{precinct_number, precinct_area}
use Rattle.jk_geom.specs.Partitions.{block_number, precinct_of}
use Rattle.jk_geom.proofs.Laws.{precinct_found}
use Rattle.jk_scan.specs.Neighbours.{Field}
use Rattle.jk_block.specs.Meaning.{IsBlockMeaning, truncated, values_of as block_list}
use Rattle.jk_block.proofs.Laws.{block_only, none_means}
use Rattle.jk_walk.specs.TilePackets.{Body, orientations, band_number, planes_of}
use Rattle.jk_tile.specs.TileBlocks.{orientation_at, grid_at, block_shape, block_bodies, block_bytes, passes_in, zeros_in}
use Rattle.jk_tile.specs.TileMeaning.{IsBlockAt}
use Rattle.jk_tile.specs.decoding.TileReading.{block_with, coefficient_at}
use Rattle.jk_tile.proofs.Places.{is_band, block_found as block_with_place}
use Rattle.jk_tile.proofs.TileLaws.{values_by, block_means, block_coefficients}

-- ---- meanings

-- the bodies of a precinct mean some coefficients of code-block j of sub-band i
abbrev pub IsMeant : Rect → Coding → List Body → (r n i j : ℕ) → Type 0
IsMeant a k bodies r n i j =
    (values : Field ℤ) × IsBlockMeaning (block_shape a k r n i j) (planes_of k (band_number r i) - zeros_in (block_bodies i j bodies)) (passes_in (block_bodies i j bodies)) (block_bytes (block_bodies i j bodies)) values

pub meant_at : (a : Rect) (k : Coding) (bodies : List Body) (coefficients : ℕ → ℕ → ℕ → ℤ) (r n i j : ℕ) → IsBlockAt a k bodies coefficients r n i j → IsMeant a k bodies r n i j
meant_at a k bodies coefficients r n i j is = (is.values, is.means)

-- so do no bodies
pub none_meant : (a : Rect) (k : Coding) (r n i j : ℕ) → IsMeant a k [] r n i j
none_meant a k r n i j =
    let s = block_shape a k r n i j in
    let planes = planes_of k (band_number r i) - zeros_in (block_bodies i j []) in
    (truncated s planes 0 (λ x y. pos 0), none_means s planes [] (λ x y. pos 0))

-- Coefficients that code-blocks mean one by one, gathered for all code-blocks that are asked for.
pub gathered : (a : Rect) (k : Coding) (d : ℕ) (mine : ℕ → ℕ → List Body) → IsCoding k
    → ((r n i j : ℕ) → r + d ≤ k.levels → n < precinct_number a k r → i < length (orientations r) → j < block_number (grid_at a k r n i) → IsMeant a k (mine r n) r n i j)
    → (r n i j : ℕ) → r + d ≤ k.levels → n < precinct_number a k r → i < length (orientations r) → j < block_number (grid_at a k r n i) → IsBlockAt a k (mine r n) (coefficient_at a k mine) r n i j
gathered a k d mine coding meant r n i j few precinct band block =
    let bodies = mine r n in
    let m = meant r n i j few precinct band block in
    block_means a k mine bodies r n i j (block_list (block_shape a k r n i j) m.0) coding (omega (arith, few)) band precinct block refl
    (values_by (block_shape a k r n i j) (planes_of k (band_number r i)) (block_bodies i j bodies) ∙ block_only (block_shape a k r n i j) _ _ _ m.0 m.1)

-- ---- places

-- Coefficients at a place agree where the bodies of the precinct that has it are the same.
pub place_agrees : (a : Rect) (k : Coding) (mine theirs : ℕ → ℕ → List Body) (p q : ℕ → ℕ → ℕ → ℤ) (r i x y : ℕ) → IsCoding k → r ≤ k.levels → i < length (orientations r) → IsWithin (band_area a k.levels r (orientation_at r i)) x y
    → ((n j : ℕ) → n < precinct_number a k r → j < block_number (grid_at a k r n i) → IsBlockAt a k (mine r n) p r n i j × IsBlockAt a k (theirs r n) q r n i j)
    → ((n : ℕ) → n < precinct_number a k r → IsWithin (precinct_area a k r n (orientation_at r i)) x y → mine r n ≡ theirs r n) → p (band_number r i) x y ≡ q (band_number r i) x y
place_agrees a k mine theirs p q r i x y coding few lt h blocks same =
    let n = precinct_of a k r x y in
    let j = block_with a k r n i x y in
    let found = precinct_found a k r (orientation_at r i) x y coding few (is_band r i lt) h in
    let holds = block_with_place a k r i x y coding few lt h in
    let both = blocks n j holds.precinct holds.block in
    sym (block_coefficients a k (mine r n) p r n i j (theirs r n) (same n found.0 found.1) both.0 x y holds.place) ∙ block_coefficients a k (theirs r n) q r n i j (theirs r n) refl both.1 x y holds.place
