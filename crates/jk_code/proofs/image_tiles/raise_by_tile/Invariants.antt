use Rattle.std.proofs.Common.{◌≡◌, ◌<◌, ℕ, max}
use Rattle.std.specs.Prelude.{slice_index}
use Rattle.jk_params.specs.Coding.{band_count}
use Rattle.jk_tile.specs.encoding.Forward.{tile_value}
use Rattle.jk_tile.specs.encoding.Needs.{most}
use Rattle.jk_tile.specs.encoding.FallenTiles.{band_need}
use Rattle.jk_code.specs.ComingRows.{component_of}
use Rattle.jk_code.proofs.image_tiles.raise_by_tile.Given as goal

-- raised by the components before
abbrev pub invariant-loop-c : goal.invariant-loop-c
invariant-loop-c l = (b : ℕ) → b < band_count l.coming.parameters.now.levels
    → slice_index l.needs b ≡ max (slice_index l.fn.needs b) (most (λ i. band_need (component_of l.coming l.number) (tile_value l.image l.coming.parameters.now.colour i) b) l.c)
