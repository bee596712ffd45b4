use Rattle.std.proofs.Common.{◌≡◌, ◌<◌, ℕ}
use Rattle.std.specs.Prelude.{slice_index}
use Rattle.jk_params.specs.Coding.{band_count}
use Rattle.jk_tile.specs.encoding.Needs.{most, tile_need}
use Rattle.jk_code.proofs.image_tiles.needs_of_image.Given as goal

-- what the tiles before need
abbrev pub invariant-loop-number : goal.invariant-loop-number
invariant-loop-number l = (b : ℕ) → b < band_count l.coming.parameters.now.levels
    → slice_index l.needs b ≡ most (λ t. tile_need l.image l.coming.parameters.now t b) l.number
