-- The tiling that parameters ask for: tiles of a given side lie on the multiples of it, and without
-- one there is a single tile.
use Rattle.std.specs.Prelude.{ℕ, ◌+◌, ◌-◌, ◌*◌, ◌/◌, Option, Some, None}

-- where the first tile begins: XTOsiz or YTOsiz
abbrev pub first_tile : Option ℕ → ℕ → ℕ
first_tile None start = 0
first_tile (Some side) start = side * (start / side)

-- the side of a tile: XTsiz or YTsiz
abbrev pub tile_side : Option ℕ → ℕ → ℕ
tile_side None end = end
tile_side (Some side) end = side

-- how many tiles lie between the start of the first one and the end of the image (B.3, equation
-- B-5)
abbrev pub tiles_between : Option ℕ → ℕ → ℕ → ℕ
tiles_between side start end = (end - first_tile side start + tile_side side end - 1) / tile_side side end
