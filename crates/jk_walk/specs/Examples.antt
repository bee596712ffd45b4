-- Examples: the sub-bands of the image of T.800 J.10, one column of nine rows with one level.
use Rattle.std.specs.Prelude.{◌≡◌, ℕ, refl, [], ◌∷◌}
use Rattle.jk_math.specs.Styles.{plain_style}
use Rattle.jk_math.specs.declared.rect.Rect.{Rect}
use Rattle.jk_marks.specs.declared.coding.Coding.{Coding}
use Rattle.jk_packet.specs.declared.shape.BandShape.{BandShape}
use Rattle.jk_geom.specs.Rectangles.{resolution_area, band_area}
use Rattle.jk_geom.specs.Precincts.{precincts_across, precinct_column, precinct_row, precinct_area}
use Rattle.jk_geom.specs.Blocks.{grid_of, block_grid}
use Rattle.jk_walk.specs.TilePackets.{bands_at, band_number}

abbrev column : Rect
column = record { x0 = 0; y0 = 0; x1 = 1; y1 = 9 }

abbrev coding : Coding
coding = record {
  levels = 1;
  xcb = 6;
  ycb = 6;
  precincts = (15, 15) ∷ (15, 15) ∷ [];
  style = plain_style;
  guard = 2;
  exponents = 8 ∷ 9 ∷ 9 ∷ 10 ∷ [];
}

abbrev shape : (across down planes : ℕ) → BandShape
shape across down planes = record { across = across; down = down; planes = planes }

-- the five rows of the lower resolution: one code-block of nine bit-planes
lower : bands_at column coding 0 0 ≡ shape 1 1 9 ∷ []
unfolding block_grid grid_of precinct_area precinct_column precinct_row precincts_across resolution_area band_area
lower = refl

-- The four rows of the higher one are those of LH; HL and HH have no code-block.
higher : bands_at column coding 1 0 ≡ shape 0 0 10 ∷ shape 1 1 10 ∷ shape 0 0 11 ∷ []
unfolding block_grid grid_of precinct_area precinct_column precinct_row precincts_across resolution_area band_area
higher = refl

-- sub-band HH of the second resolution in QCD
numbered : band_number 2 2 ≡ 6
numbered = refl
