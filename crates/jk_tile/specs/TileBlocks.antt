-- The code-blocks of a tile-component, and what its packets have of them (T.800 B.7, B.10).
use Rattle.std.specs.Prelude.{ℕ, zero, suc, ◌+◌, ◌*◌, ◌≤◌, ◌/◌, ◌%◌, ◌&&◌, ◌==◌, List, [], ◌∷◌, filter, sum_by}
use Rattle.std.specs.Prelude.{slice_index_or}
use Rattle.std.specs.List.{flat_map}
use Rattle.jk_math.specs.declared.rect.Rect.{Rect}
use Rattle.jk_math.specs.Raster.{columns_of, rows_of}
use Rattle.jk_marks.specs.declared.coding.Coding.{Coding}
use Rattle.jk_math.specs.declared.orientation.Orientation.{Orientation}
use Rattle.jk_math.specs.declared.orientation.Orientation.TheVariants.{LL}
use Rattle.jk_math.specs.declared.style.Style.{Style}
use Rattle.jk_geom.specs.declared.grid.BlockGrid.{BlockGrid}
use Rattle.jk_geom.specs.Blocks.{block_grid, block_area}
use Rattle.jk_scan.specs.declared.shape.BlockShape.{BlockShape}
use Rattle.jk_walk.specs.TilePackets.{Body, orientations}

-- sub-band i of a resolution, in the order of its packets
abbrev pub orientation_at : (r i : ℕ) → Orientation
orientation_at r i = slice_index_or (orientations r) i LL

-- the code-blocks of sub-band i in precinct n of resolution r
abbrev pub grid_at : Rect → Coding → (r n i : ℕ) → BlockGrid
grid_at a k r n i = block_grid a k r n (orientation_at r i)

-- the place of code-block j among them, and its shape
abbrev pub block_at_place : Rect → Coding → (r n i j : ℕ) → Rect
block_at_place a k r n i j = block_area (grid_at a k r n i) j

abbrev pub shape_of_area : Rect → Orientation → Style → BlockShape
shape_of_area b orientation style =
    record { width = columns_of b; height = rows_of b; orientation = orientation; style = style }

-- the shape of a code-block of the profile
pub record IsBlockShape (s : BlockShape) : Type 0 where
  pub wide : 1 ≤ s.width
  pub narrow : s.width ≤ 1024
  pub high : 1 ≤ s.height
  pub low : s.height ≤ 1024
  pub area : s.width * s.height ≤ 4096

abbrev pub block_shape : Rect → Coding → (r n i j : ℕ) → BlockShape
block_shape a k r n i j = shape_of_area (block_at_place a k r n i j) (orientation_at r i) k.style

-- what packets have of code-block j of sub-band i
abbrev pub block_bodies : (i j : ℕ) → List Body → List Body
block_bodies i j bodies = filter (λ b. (b.part.band == i) && (b.part.block == j)) bodies

-- Its segment, the bodies one behind another (B.10.7.1); its coding passes; its zero bit-planes,
-- which the first packet that has something of it tells (B.10.5).
abbrev pub block_bytes : List Body → List ℕ
block_bytes bodies = flat_map (λ b. b.bytes) bodies

abbrev pub passes_in : List Body → ℕ
passes_in bodies = sum_by (λ b. b.part.passes) bodies

abbrev pub zeros_in : List Body → ℕ
zeros_in [] = 0
zeros_in (b ∷ bodies) = b.part.zero_planes

-- the resolution of a sub-band by its number in QCD, and which of the resolution's it is
abbrev pub band_resolution : ℕ → ℕ
band_resolution zero = 0
band_resolution (suc b) = b / 3 + 1

abbrev pub band_index : ℕ → ℕ
band_index zero = 0
band_index (suc b) = b % 3
