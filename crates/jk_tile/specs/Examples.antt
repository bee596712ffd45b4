-- Examples: the level shift and the component transform, tiles of a few code-blocks that are read,
-- with what these mean given, what is written of a pixel and of a code-block in layers, and where
-- rows of code-blocks end.
use Rattle.std.specs.Prelude.{◌≡◌, ℕ, Bool, true, false, List, [], ◌∷◌, ◌++◌, map, None, refl, ℤ, pos, negsuc, Ok, Err}
use Rattle.std.specs.Global.{Vec}
use Rattle.jk_math.specs.declared.fault.Fault.TheVariants.{TooManyPasses}
use Rattle.jk_math.specs.declared.orientation.Orientation.{Orientation}
use Rattle.jk_math.specs.declared.rect.Rect.{Rect}
use Rattle.jk_math.specs.declared.orientation.Orientation.TheVariants.{LL, HL, LH, HH}
use Rattle.jk_math.specs.Styles.{plain_style}
use Rattle.jk_math.specs.BitLength.{digits, bit_length}
use Rattle.jk_math.specs.Picture.{Picture}
use Rattle.jk_math.specs.Raster.{raster}
use Rattle.jk_math.specs.Signed.{signed_at}
use Rattle.jk_marks.specs.declared.siz.Siz.{Siz}
use Rattle.jk_marks.specs.declared.coding.Coding.{Coding}
use Rattle.jk_marks.specs.declared.segments.Cod.{Cod}
use Rattle.jk_marks.specs.declared.segments.Order.TheVariants.{Lrcp}
use Rattle.jk_geom.specs.Rectangles.{tile_area, resolution_area, band_area}
use Rattle.jk_geom.specs.Precincts.{precincts_across, precincts_down, precinct_column, precinct_row, precinct_area}
use Rattle.jk_geom.specs.Blocks.{grid_of, block_grid, block_area}
use Rattle.jk_packet.specs.declared.header.BlockContribution.{BlockContribution}
use Rattle.jk_params.specs.declared.parameters.Parameters.{Parameters}
use Rattle.jk_params.specs.declared.parameters.Container.TheVariants.{Raw}
use Rattle.jk_params.specs.Headers.{Headers}
use Rattle.jk_block.specs.BlockWritten.{Coded}
use Rattle.jk_block.specs.Layers.{passes_upto, without_ff, bytes_upto}
use Rattle.jk_scan.specs.declared.shape.BlockShape.{BlockShape}
use Rattle.jk_block.specs.Reading.{block_at}
use Rattle.jk_wave.specs.Analysis.{reduced, analysed}
use Rattle.jk_wave.specs.Bands.{numbered_area}
use Rattle.jk_wave.specs.Resolutions.{resolution_of}
use Rattle.jk_walk.specs.declared.places.PacketPlace.{PacketPlace}
use Rattle.jk_walk.specs.TilePackets.{Body}
use Rattle.jk_tile.specs.Samples.{clamped, sample_of}
use Rattle.jk_tile.specs.Pixels.{uncoloured, tile_sample}
use Rattle.jk_tile.specs.TileBlocks.{orientation_at, block_bodies, block_bytes, passes_in, zeros_in, band_resolution}
use Rattle.jk_tile.specs.TileBlocks.{band_index}
use Rattle.jk_tile.specs.decoding.TileReading.{bodies_of, each, bodies_values, band_tested, precinct_tested}
use Rattle.jk_tile.specs.decoding.TileReading.{resolution_tested}
use Rattle.jk_tile.specs.decoding.TileReading.{component_tested, coefficient_at, tile_planes_at}
use Rattle.jk_tile.specs.encoding.Forward.{coloured, tile_value}
use Rattle.jk_tile.specs.encoding.Needs.{written_band, need, gain, exponents_for}
use Rattle.jk_tile.specs.encoding.PacketsWritten.{layer_part, coded_table}
use Rattle.jk_tile.specs.encoding.Layered.{layered, table_with}
use Rattle.jk_tile.specs.encoding.Strips.{row_end, blocks_above}

-- ---- samples

-- the nearest sample of 8 bits
nearest : map (clamped 8 false) (negsuc 0 ∷ pos 0 ∷ pos 255 ∷ pos 256 ∷ []) ≡ pos 0 ∷ pos 0 ∷ pos 255 ∷ pos 255 ∷ []
nearest = refl

abbrev siz : (components : ℕ) → (signed : Bool) → (x1 y1 : ℕ) → Siz
siz components signed x1 y1 = record {
  rsiz = 0;
  x1 = x1;
  y1 = y1;
  x0 = 0;
  y0 = 0;
  tile_width = x1;
  tile_height = y1;
  tile_x0 = 0;
  tile_y0 = 0;
  components = components;
  depth = 8;
  signed = signed;
}

-- the values -129, -128, 0, 127 and 128 as samples of 8 bits, without a sign and with one
shifted : map (sample_of (siz 1 false 1 1)) (negsuc 128 ∷ negsuc 127 ∷ pos 0 ∷ pos 127 ∷ pos 128 ∷ [])
    ≡ pos 0 ∷ pos 0 ∷ pos 128 ∷ pos 255 ∷ pos 255 ∷ []
shifted = refl

not_shifted : map (sample_of (siz 1 true 1 1)) (negsuc 128 ∷ negsuc 127 ∷ pos 0 ∷ pos 127 ∷ pos 128 ∷ [])
    ≡ negsuc 127 ∷ negsuc 127 ∷ pos 0 ∷ pos 127 ∷ pos 127 ∷ []
not_shifted = refl

-- The pixel 200, 100, 50 behind the level shift, and a fourth component, which goes through no
-- transform: there and back.
abbrev pixel : ℕ → ℤ
pixel c = signed_at (pos 72 ∷ negsuc 27 ∷ negsuc 77 ∷ pos 7 ∷ []) c

forth : map (coloured pixel) (0 ∷ 1 ∷ 2 ∷ 3 ∷ []) ≡ negsuc 15 ∷ negsuc 49 ∷ pos 100 ∷ pos 7 ∷ []
unfolding coloured
forth = refl

back : map (uncoloured (coloured pixel)) (0 ∷ 1 ∷ 2 ∷ 3 ∷ []) ≡ pos 72 ∷ negsuc 27 ∷ negsuc 77 ∷ pos 7 ∷ []
unfolding coloured uncoloured
back = refl

-- ---- sub-bands by their numbers

resolutions : map band_resolution (0 ∷ 1 ∷ 3 ∷ 4 ∷ 6 ∷ 15 ∷ []) ≡ 0 ∷ 1 ∷ 1 ∷ 2 ∷ 2 ∷ 5 ∷ []
resolutions = refl

orientations_are : orientation_at 0 0 ∷ orientation_at 2 0 ∷ orientation_at 2 1 ∷ orientation_at 2 2 ∷ []
    ≡ LL ∷ HL ∷ LH ∷ HH ∷ []
orientations_are = refl

indices : map band_index (0 ∷ 4 ∷ 5 ∷ 6 ∷ []) ≡ 0 ∷ 0 ∷ 1 ∷ 2 ∷ []
indices = refl

-- Table E.1
gains : map gain (0 ∷ 1 ∷ 2 ∷ 3 ∷ 4 ∷ 5 ∷ 6 ∷ []) ≡ 0 ∷ 1 ∷ 1 ∷ 2 ∷ 1 ∷ 1 ∷ 2 ∷ []
gains = refl

-- ---- the bodies of code-blocks

abbrev contribution : (band block zero_planes passes length : ℕ) → BlockContribution
contribution band block zero_planes passes length =
    record { band = band; block = block; zero_planes = zero_planes; passes = passes; length = length }

abbrev body : BlockContribution → List ℕ → Body
body part bytes = record { part = part; bytes = bytes }

-- Two packets with something of two code-blocks: the segment of one is its bodies, its passes are
-- their sum, and its zero bit-planes stand in the first.
abbrev bodies : List Body
bodies = body (contribution 1 0 3 4 2) (1 ∷ 2 ∷ [])
    ∷ body (contribution 1 1 5 1 1) (3 ∷ [])
    ∷ body (contribution 1 0 3 2 1) (4 ∷ [])
    ∷ []

segment : block_bytes (block_bodies 1 0 bodies) ≡ 1 ∷ 2 ∷ 4 ∷ []
segment = refl

passes : passes_in (block_bodies 1 0 bodies) ≡ 6
passes = refl

zeros : zeros_in (block_bodies 1 1 bodies) ∷ zeros_in (block_bodies 0 0 bodies) ∷ [] ≡ 5 ∷ 0 ∷ []
zeros = refl

-- ---- a tile that is read

-- Six by five samples with no level and code-blocks of 4 by 4: four code-blocks, row by row.
abbrev in_blocks : Coding
in_blocks = record {
  levels = 0;
  xcb = 2;
  ycb = 2;
  precincts = (15, 15) ∷ [];
  style = plain_style;
  guard = 2;
  exponents = 8 ∷ [];
}

abbrev cod : (levels : ℕ) → Cod
cod levels = record {
  sop = false;
  eph = false;
  order = Lrcp;
  layers = 1;
  colour = false;
  style = record { levels = levels; xcb = 6; ycb = 6; style = plain_style; precincts = [] };
}

abbrev of_six_by_five : Headers
of_six_by_five =
    record {
      siz = siz 1 false 6 5;
      tiles = record { cod = cod 0; codings = in_blocks ∷ []; data_places = (0, 4) ∷ [] } ∷ [];
    }

abbrev shape : (width height : ℕ) → Orientation → BlockShape
shape width height orientation =
    record { width = width; height = height; orientation = orientation; style = plain_style }

-- The segments of the four as they are coded, in the body of the only packet.
abbrev first_segment : List ℕ
first_segment =
    0x1E ∷ 0xD0 ∷ 0x6A ∷ 0x9C ∷ 0x45 ∷ 0x9C ∷ 0xE1 ∷ 0x46 ∷ 0xE5 ∷ 0x74 ∷ 0xB8 ∷ 0x3F ∷ []

abbrev second_segment : List ℕ
second_segment =
    0x03 ∷ 0x4F ∷ 0xB1 ∷ 0x5B ∷ 0x74 ∷ 0x3C ∷ 0xAF ∷ []

abbrev third_segment : List ℕ
third_segment =
    0x02 ∷ 0x7F ∷ 0xDD ∷ 0x57 ∷ []

abbrev fourth_segment : List ℕ
fourth_segment =
    0x02 ∷ 0x4B ∷ 0x1F ∷ []

abbrev one_packet : List PacketPlace
one_packet = record {
  name = record { layer = 0; resolution = 0; component = 0; precinct = 0 };
  start = 0;
  body = 0;
  parts = contribution 0 0 3 16 12 ∷ contribution 0 1 3 16 7
      ∷ contribution 0 2 3 16 4 ∷ contribution 0 3 3 16 3 ∷ [];
} ∷ []

-- Each means the coefficient 10y + x at column x and row y of the tile.
row_by_row : block_at (shape 4 4 LL) 6 16 first_segment
    ≡ Ok (map pos (0 ∷ 1 ∷ 2 ∷ 3 ∷ 10 ∷ 11 ∷ 12 ∷ 13 ∷ 20 ∷ 21 ∷ 22 ∷ 23 ∷ 30 ∷ 31 ∷ 32 ∷ 33 ∷ []))
    → block_at (shape 2 4 LL) 6 16 second_segment ≡ Ok (map pos (4 ∷ 5 ∷ 14 ∷ 15 ∷ 24 ∷ 25 ∷ 34 ∷ 35 ∷ []))
    → block_at (shape 4 1 LL) 6 16 third_segment ≡ Ok (map pos (40 ∷ 41 ∷ 42 ∷ 43 ∷ []))
    → block_at (shape 2 1 LL) 6 16 fourth_segment ≡ Ok (map pos (44 ∷ 45 ∷ []))
    → tile_planes_at (first_segment ++ second_segment ++ third_segment ++ fourth_segment) of_six_by_five 0 0 one_packet
    ≡ Ok (map pos (128 ∷ 129 ∷ 130 ∷ 131 ∷ 132 ∷ 133 ∷ 138 ∷ 139 ∷ 140 ∷ 141 ∷ 142 ∷ 143 ∷ 148 ∷ 149 ∷ 150 ∷ 151
    ∷ 152 ∷ 153 ∷ 158 ∷ 159 ∷ 160 ∷ 161 ∷ 162 ∷ 163 ∷ 168 ∷ 169 ∷ 170 ∷ 171 ∷ 172 ∷ 173 ∷ []) ∷ [])
unfolding resolution_of tile_area resolution_area band_area precincts_across precincts_down precinct_column precinct_row
    precinct_area grid_of block_grid block_area raster bodies_of each bodies_values band_tested precinct_tested
    resolution_tested component_tested coefficient_at tile_sample tile_planes_at
row_by_row first second third fourth = rw (first, second, third, fourth) refl

-- Two by two samples with one level: LL 1, HL 1, LH 0 and HH -1, each of one bit-plane.
abbrev coding : Coding
coding = record {
  levels = 1;
  xcb = 6;
  ycb = 6;
  precincts = (15, 15) ∷ (15, 15) ∷ [];
  style = plain_style;
  guard = 2;
  exponents = 8 ∷ 9 ∷ 9 ∷ 10 ∷ [];
}

abbrev headers : Headers
headers = record {
  siz = siz 1 false 2 2;
  tiles = record {
    cod = cod 1;
    codings = coding ∷ [];
    data_places = (0, 10) ∷ [];
  } ∷ [];
}

-- its two packets, and the places of their bodies
abbrev packets : List ℕ
packets = 0xC0 ∷ 0x21 ∷ 0x03 ∷ 0xC0 ∷ 0x10 ∷ 0xA0 ∷ 0x04 ∷ 0x20 ∷ 0x03 ∷ 0x07 ∷ []

abbrev places_with : (passes : ℕ) → List PacketPlace
places_with passes = record {
  name = record { layer = 0; resolution = 0; component = 0; precinct = 0 };
  start = 0;
  body = 2;
  parts = contribution 0 0 8 1 1 ∷ [];
} ∷ record {
  name = record { layer = 0; resolution = 1; component = 0; precinct = 0 };
  start = 3;
  body = 8;
  parts = contribution 0 0 9 1 1 ∷ contribution 2 0 10 passes 1 ∷ [];
} ∷ []

-- Reduced by one level it is LL, and the code-blocks of the other packet aren't looked at.
reduced_square : block_at (shape 1 1 LL) 1 1 (0x03 ∷ []) ≡ Ok (pos 1 ∷ [])
    → tile_planes_at packets headers 0 1 (places_with 2) ≡ Ok ((pos 129 ∷ []) ∷ [])
unfolding resolution_of tile_area resolution_area band_area precincts_across
    precincts_down precinct_column precinct_row precinct_area grid_of block_grid block_area raster bodies_of each
    bodies_values band_tested precinct_tested resolution_tested component_tested coefficient_at tile_sample
    tile_planes_at
reduced_square ll = rw ll refl

-- Not reduced, the fault of one of these is answered.
second_pass : block_at (shape 1 1 LL) 1 1 (0x03 ∷ []) ≡ Ok (pos 1 ∷ []) → block_at (shape 1 1 HL) 1 1 (0x03 ∷ [])
    ≡ Ok (pos 1 ∷ [])
    → block_at (shape 1 1 LH) 10 0 [] ≡ Ok (pos 0 ∷ []) → block_at (shape 1 1 HH) 1 2 (0x07 ∷ []) ≡ Err TooManyPasses
    → tile_planes_at packets headers 0 0 (places_with 2) ≡ Err TooManyPasses
unfolding tile_area resolution_area band_area precincts_across precincts_down precinct_column precinct_row precinct_area
    grid_of block_grid block_area bodies_of each bodies_values band_tested precinct_tested resolution_tested
    component_tested tile_planes_at
second_pass ll hl lh hh = rw (ll, hl, lh, hh) refl

-- ---- a tile that is written

-- One pixel of 8 bits: red 200, green 100 and blue 50.
abbrev pixel_picture : (depth red green blue : ℕ) → Picture
pixel_picture depth red green blue = record {
  x0 = 0;
  y0 = 0;
  width = 1;
  height = 1;
  depth = depth;
  signed = false;
  planes = (pos red ∷ []) ∷ (pos green ∷ []) ∷ (pos blue ∷ []) ∷ [];
}

abbrev in_colour : (colour : Bool) → Vec (ℕ × ℕ) → Parameters
in_colour colour precincts = record {
  levels = 0;
  layers = 1;
  order = Lrcp;
  tile = None;
  xcb = 6;
  ycb = 6;
  style = plain_style;
  precincts = precincts;
  colour = colour;
  sop = false;
  eph = false;
  container = Raw;
}

-- what is coded of its components, with the component transform and without
coefficients : (precincts : Vec (ℕ × ℕ))
    → map (λ c. written_band (pixel_picture 8 200 100 50) (in_colour true precincts) 0 c 0) (0 ∷ 1 ∷ 2 ∷ [])
    ≡ (negsuc 15 ∷ []) ∷ (negsuc 49 ∷ []) ∷ (pos 100 ∷ []) ∷ []
unfolding raster numbered_area band_area tile_area resolution_area reduced analysed coloured tile_value
coefficients precincts = refl

without_transform : (precincts : Vec (ℕ × ℕ))
    → map (λ c. written_band (pixel_picture 8 200 100 50) (in_colour false precincts) 0 c 0) (0 ∷ 1 ∷ 2 ∷ [])
    ≡ (pos 72 ∷ []) ∷ (negsuc 27 ∷ []) ∷ (negsuc 77 ∷ []) ∷ []
unfolding raster numbered_area band_area tile_area resolution_area reduced analysed coloured tile_value
without_transform precincts = refl

-- The exponent of LL is the depth; the pixel 65535, 0, 65535 of 16 bits needs 16 bit-planes, and
-- has 17.
exponents : (precincts : Vec (ℕ × ℕ)) → exponents_for (pixel_picture 16 65535 0 65535) (in_colour true precincts)
    ≡ 16 ∷ []
unfolding raster numbered_area band_area tile_area resolution_area reduced analysed coloured tile_value digits
    bit_length need
exponents precincts = refl

needed : (precincts : Vec (ℕ × ℕ)) → need (pixel_picture 16 65535 0 65535) (in_colour true precincts) 0 ≡ 16
unfolding raster numbered_area band_area tile_area resolution_area reduced analysed coloured tile_value digits
    bit_length need
needed precincts = refl

-- The second code-block of the image of T.800 J.10, 1 5 1 0, as it is coded, cut into layers. Of
-- two layers the second has the lowest bit-plane, whose passes need no further byte; of four the
-- first has nothing.
abbrev block : Coded
block = record {
  planes = 3;
  passes = 7;
  bytes = 0x0F ∷ 0xB1 ∷ 0x7F ∷ [];
  marks = 0 ∷ 0 ∷ 0 ∷ 0 ∷ 1 ∷ 1 ∷ 1 ∷ [];
}

in_two_layers : coded_table 2 10 block ≡ record { zero_planes = 7; parts = (4, 0x0F ∷ 0xB1 ∷ 0x7F ∷ []) ∷ (3, []) ∷ [] }
unfolding passes_upto without_ff bytes_upto coded_table
in_two_layers = refl

in_four_layers : map (layer_part 4 block) (0 ∷ 1 ∷ 2 ∷ 3 ∷ [])
    ≡ (0, []) ∷ (1, 0x0F ∷ 0xB1 ∷ 0x7F ∷ []) ∷ (3, []) ∷ (3, []) ∷ []
unfolding passes_upto without_ff bytes_upto
in_four_layers = refl

-- It is cut into layers before the bit-planes of its sub-band are known, and is written in one of
-- ten.
filled_in_late : table_with 10 (layered 2 block) ≡ coded_table 2 10 block
unfolding passes_upto without_ff bytes_upto coded_table
filled_in_late = refl

-- ---- rows of code-blocks

-- The rows of code-blocks of 4 by 4 in a sub-band of rows 5 to 10 end with rows 7 and 10.
abbrev rows_of_band : Rect
rows_of_band = record { x0 = 3; y0 = 5; x1 = 9; y1 = 11 }

ends : map (row_end rows_of_band 2) (5 ∷ 6 ∷ 8 ∷ 10 ∷ []) ≡ 8 ∷ 8 ∷ 11 ∷ 11 ∷ []
ends = refl

-- Each has three code-blocks: column 3, columns 4 to 7, and column 8.
counted : map (blocks_above (grid_of rows_of_band 2 2)) (5 ∷ 8 ∷ 11 ∷ []) ≡ 0 ∷ 3 ∷ 6 ∷ []
unfolding grid_of
counted = refl

-- a part of it that ends with row 7 has all of its code-blocks above row 8
counted_above : map (blocks_above (grid_of (record { x0 = 3; y0 = 5; x1 = 9; y1 = 8 }) 2 2)) (5 ∷ 8 ∷ 11 ∷ [])
    ≡ 0 ∷ 3 ∷ 3 ∷ []
unfolding grid_of
counted_above = refl

-- and one that begins with row 8 has none
counted_below : map (blocks_above (grid_of (record { x0 = 3; y0 = 8; x1 = 9; y1 = 11 }) 2 2)) (5 ∷ 8 ∷ 11 ∷ [])
    ≡ 0 ∷ 0 ∷ 3 ∷ []
unfolding grid_of
counted_below = refl
