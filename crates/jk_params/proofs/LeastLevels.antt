-- The least number of levels, one component and one tile more.
use Rattle.std.proofs.Common.{◌≡◌, ℕ, ◌+◌, min, List, length, add-one, refl, ap, ◌∙◌}
use Rattle.jk_marks.specs.declared.coding.Coding.{Coding}
use Rattle.jk_geom.specs.TileShapes.{coding_of}
use Rattle.jk_params.specs.Headers.{TileFields, tile_in}
use Rattle.jk_params.specs.Levels.{least_in, least_levels}

pub least_none : (ks : List Coding) → 10 ≡ least_in ks 0
unfolding least_in
least_none ks = refl

pub least_more : (ks : List Coding) (n : ℕ) → least_in ks (n + 1) ≡ min (least_in ks n) (coding_of ks n).levels
unfolding least_in
least_more ks n = ap (least_in ks) (add-one n) ∙ refl

pub levels_none : (tiles : List TileFields) → 10 ≡ least_levels tiles 0
unfolding least_levels
levels_none tiles = refl

pub levels_more : (tiles : List TileFields) (n : ℕ) → least_levels tiles (n + 1) ≡ min (least_levels tiles n) (least_in (tile_in tiles n).codings (length (tile_in tiles n).codings))
unfolding least_levels
levels_more tiles n = ap (least_levels tiles) (add-one n) ∙ refl
