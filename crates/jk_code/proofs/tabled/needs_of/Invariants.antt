use Rattle.std.proofs.Common.{◌≡◌, ◌<◌, ℕ, get_or}
use Rattle.std.specs.Prelude.{slice_index}
use Rattle.jk_math.specs.Picture.{Picture}
use Rattle.jk_params.specs.Coding.{band_count}
use Rattle.jk_tile.specs.encoding.Needs.{most, tile_need}
use Rattle.jk_params.specs.PictureFrames.{frame_of}
use Rattle.jk_tile.specs.encoding.FallenTiles.{HasTileRoom}
use Rattle.jk_tile.specs.declared.encoding.fallen_tile.FallenTile.{FallenTile}
use Rattle.jk_code.specs.ComingRows.{component_of, tiles_coming, AreCoded}
use Rattle.jk_code.proofs.tabled.needs_of.Given as goal

-- what the tiles before need
abbrev pub invariant-loop-t : goal.invariant-loop-t
invariant-loop-t l = record {
  needs : (p : Picture) → frame_of p ≡ l.coming.frame → AreCoded l.coming (tiles_coming l.coming) p l.tiles
      → (b : ℕ) → b < band_count l.coming.parameters.now.levels → slice_index l.needs b ≡ most (λ t. tile_need p l.coming.parameters.now t b) l.t;
  room : (t : ℕ) (other : FallenTile) → t < l.t → HasTileRoom (component_of l.coming t) (slice_index l.needs) (get_or l.tiles t other);
}
