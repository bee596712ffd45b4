-- How often an image can be halved: the decomposition levels that all of its tile-components have.
use Rattle.std.specs.Prelude.{ℕ, zero, suc, ◌≤◌, Bool, true, ◌&&◌, nat_le, min, List, length}
use Rattle.std.specs.List.{list_all, AllByRecursion}
use Rattle.jk_marks.specs.declared.coding.Coding.{Coding}
use Rattle.jk_marks.specs.Siz.{tile_count}
use Rattle.jk_geom.specs.TileShapes.{coding_of}
use Rattle.jk_params.specs.Headers.{Headers, TileFields, tile_in}

-- each tile-component has d decomposition levels
abbrev pub HaveLevels : Headers → ℕ → Type 0
HaveLevels h d = AllByRecursion (λ (f : TileFields). AllByRecursion (λ (k : Coding). d ≤ k.levels) f.codings) h.tiles

-- whether a test holds of the numbers below n
unfoldable pub holds_below : (ℕ → Bool) → ℕ → Bool
holds_below f zero = true
holds_below f (suc n) = holds_below f n && f n

-- whether each component of a tile has d decomposition levels
abbrev pub has_levels : ℕ → TileFields → Bool
has_levels d f = list_all (λ k. nat_le d k.levels) f.codings

-- whether each component of each tile has
abbrev pub have_levels : Headers → ℕ → Bool
have_levels h d = holds_below (λ t. has_levels d (tile_in h.tiles t)) (tile_count h.siz)

-- the least number of decomposition levels of the first n components, and of the components of the
-- first n tiles; 10 where there are none
unfoldable pub least_in : List Coding → ℕ → ℕ
least_in codings zero = 10
least_in codings (suc n) = min (least_in codings n) (coding_of codings n).levels

unfoldable pub least_levels : List TileFields → ℕ → ℕ
least_levels tiles zero = 10
least_levels tiles (suc n) =
    min (least_levels tiles n) (least_in (tile_in tiles n).codings (length (tile_in tiles n).codings))
