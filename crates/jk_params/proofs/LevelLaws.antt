-- What headers say of levels.
use Rattle.std.proofs.Common.{◌≡◌, ℕ, zero, suc, ◌<◌, ◌≤◌, true, leb, List, [], ◌∷◌, length, refl, arith}
use Rattle.std.specs.List.{AllByRecursion, list_all}
use Rattle.std.proofs.lemmas.Bool.{leb-true, le-leb, and_parts, and_from}
use Rattle.jk_marks.specs.declared.coding.Coding.{Coding}
use Rattle.jk_marks.specs.Siz.{tile_count}
use Rattle.jk_geom.specs.TileShapes.{coding_of}
use Rattle.jk_geom.proofs.Laws.{some_tile}
use Rattle.jk_params.specs.Headers.{Headers, TileFields, tile_in, AreHeaders}
use Rattle.jk_params.specs.Levels.{has_levels, holds_below}
use Rattle.jk_params.proofs.Below.{below_at, below_from}

-- ---- levels

levels_at : (d : ℕ) (ks : List Coding) → list_all (λ (k : Coding). leb d k.levels) ks ≡ true → (c : ℕ) → c < length ks → d ≤ (coding_of ks c).levels
levels_at d [] e c lt = absurd (omega (arith, lt))
levels_at d (k ∷ ks) e zero lt = leb-true d k.levels (and_parts (leb d k.levels) (list_all (λ (k : Coding). leb d k.levels) ks) e).0
levels_at d (k ∷ ks) e (suc c) lt = levels_at d ks (and_parts (leb d k.levels) (list_all (λ (k : Coding). leb d k.levels) ks) e).1 c (omega (arith, lt))

-- no more levels are taken than a coding has
pub few_levels : (size d : ℕ) (h : Headers) → AreHeaders size h → holds_below (λ t. has_levels d (tile_in h.tiles t)) (tile_count h.siz) ≡ true → d ≤ 10
few_levels size d h is e =
    let some = some_tile h.siz is.siz in
    let first = below_at (λ t. has_levels d (tile_in h.tiles t)) (tile_count h.siz) 0 e some in
    let codings = (is.each 0 some).codings in
    let one = codings.some in
    let le = levels_at d (tile_in h.tiles 0).codings first 0 (omega (arith, one)) in
    let most = (codings.each 0 (omega (arith, one))).levels in
    omega (arith, le, most)

all_levels : (d : ℕ) (ks : List Coding) → list_all (λ (k : Coding). leb d k.levels) ks ≡ true → AllByRecursion (λ (k : Coding). d ≤ k.levels) ks
all_levels d [] e = tt
all_levels d (k ∷ ks) e =
    let both = and_parts (leb d k.levels) (list_all (λ (k : Coding). leb d k.levels) ks) e in
    (leb-true d k.levels both.0, all_levels d ks both.1)

levels_all : (d : ℕ) (ks : List Coding) → AllByRecursion (λ (k : Coding). d ≤ k.levels) ks → list_all (λ (k : Coding). leb d k.levels) ks ≡ true
levels_all d [] h = refl
levels_all d (k ∷ ks) h = and_from (leb d k.levels) _ (le-leb d k.levels h.0) (levels_all d ks h.1)

tiles_all : (d : ℕ) (tiles : List TileFields) → ((t : ℕ) → t < length tiles → has_levels d (tile_in tiles t) ≡ true) → AllByRecursion (λ (f : TileFields). AllByRecursion (λ (k : Coding). d ≤ k.levels) f.codings) tiles
tiles_all d [] h = tt
tiles_all d (f ∷ tiles) h = (all_levels d f.codings (h 0 (omega arith)), tiles_all d tiles (λ t lt. h (suc t) (omega (arith, lt))))

all_tiles : (d : ℕ) (tiles : List TileFields) → AllByRecursion (λ (f : TileFields). AllByRecursion (λ (k : Coding). d ≤ k.levels) f.codings) tiles → (t : ℕ) → t < length tiles → has_levels d (tile_in tiles t) ≡ true
all_tiles d [] h t lt = absurd (omega (arith, lt))
all_tiles d (f ∷ tiles) h zero lt = levels_all d f.codings h.0
all_tiles d (f ∷ tiles) h (suc t) lt = all_tiles d tiles h.1 t (omega (arith, lt))

-- The levels of all tiles, by the test and by what it says.
pub levels_found : (d n : ℕ) (tiles : List TileFields) → length tiles ≡ n → holds_below (λ t. has_levels d (tile_in tiles t)) n ≡ true → AllByRecursion (λ (f : TileFields). AllByRecursion (λ (k : Coding). d ≤ k.levels) f.codings) tiles
levels_found d n tiles long e = tiles_all d tiles (λ t lt. below_at (λ t. has_levels d (tile_in tiles t)) n t e (omega (arith, lt, long)))

pub levels_only : (d n : ℕ) (tiles : List TileFields) → length tiles ≡ n → AllByRecursion (λ (f : TileFields). AllByRecursion (λ (k : Coding). d ≤ k.levels) f.codings) tiles → holds_below (λ t. has_levels d (tile_in tiles t)) n ≡ true
levels_only d n tiles long h = below_from (λ t. has_levels d (tile_in tiles t)) n (λ t lt. all_tiles d tiles h t (omega (arith, lt, long)))
