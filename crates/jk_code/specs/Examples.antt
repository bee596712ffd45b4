-- Examples: samples of small tiles, by the definitions alone.
use Rattle.std.specs.Prelude.{◌≡◌, ℕ, ◌+◌, ◌-◌, true, List, [], ◌∷◌, false, ℤ, pos, negsuc, ◌+ℤ◌, refl}
use Rattle.std.specs.Prelude.{map, slice_index_or, None, Ok}
use Rattle.std.specs.Global.{Vec}
use Rattle.jk_math.specs.declared.orientation.Orientation.TheVariants.{LL, HL, LH, HH}
use Rattle.jk_math.specs.declared.rect.Rect.{Rect}
use Rattle.jk_math.specs.BitLength.{digits, bit_length}
use Rattle.jk_math.specs.Division.{reflected}
use Rattle.jk_math.specs.Picture.{Picture}
use Rattle.jk_math.specs.Raster.{raster}
use Rattle.jk_math.specs.Signed.{signed_at}
use Rattle.jk_math.specs.Styles.{plain_style}
use Rattle.jk_marks.specs.declared.siz.Siz.{Siz}
use Rattle.jk_marks.specs.declared.segments.Cod.{Cod}
use Rattle.jk_marks.specs.declared.segments.Order.TheVariants.{Lrcp}
use Rattle.jk_marks.specs.Codestream.{no_coding}
use Rattle.jk_geom.specs.Rectangles.{tile_area, resolution_area, band_area}
use Rattle.jk_geom.specs.Precincts.{precincts_across, precincts_down, precinct_column, precinct_row, precinct_area}
use Rattle.jk_geom.specs.Blocks.{grid_of, block_grid, block_area}
use Rattle.jk_params.specs.declared.parameters.Parameters.{Parameters}
use Rattle.jk_params.specs.declared.parameters.Container.TheVariants.{Raw}
use Rattle.jk_params.specs.Headers.{Headers}
use Rattle.jk_lift.specs.Lifting.{high_at, lifted, unlifted, even_at}
use Rattle.jk_wave.specs.Analysis.{reduced, analysed}
use Rattle.jk_wave.specs.Bands.{numbered_area}
use Rattle.jk_wave.specs.Resolutions.{woven_plane, resolution_of}
use Rattle.jk_walk.specs.declared.places.PacketPlace.{PacketPlace}
use Rattle.jk_walk.specs.TilePackets.{Body}
use Rattle.jk_tile.specs.Pixels.{uncoloured, tile_sample}
use Rattle.jk_tile.specs.TileBlocks.{shape_of_area}
use Rattle.jk_tile.specs.decoding.TileReading.{bodies_of, each, bodies_values, band_tested, precinct_tested}
use Rattle.jk_tile.specs.decoding.TileReading.{resolution_tested, component_tested, coefficient_at, tile_planes_at}
use Rattle.jk_tile.specs.encoding.Forward.{tile_value}
use Rattle.jk_tile.specs.encoding.Fronts.{without_planes}
use Rattle.jk_tile.specs.encoding.Needs.{written_band, need, exponents_for}

-- sub-bands of one row each, by number
abbrev rows_of : List (List ℤ) → ℕ → ℕ → ℕ → ℤ
rows_of rows b x y = signed_at (slice_index_or rows b []) x

-- Two levels over the columns 1 to 6 of row 2. Its row of resolution 1 stands at an odd place,
-- alone, so LH and HH of that resolution are halved there, and LL is empty.
abbrev wide : Rect
wide = record { x0 = 1; y0 = 2; x1 = 7; y1 = 3 }

abbrev wide_rows : List (List ℤ)
wide_rows = []
    ∷ ([] ∷ ((pos 0 ∷ (negsuc 0 ∷ [])) ∷ ((pos 2 ∷ (pos 7 ∷ [])) ∷ ((negsuc 8 ∷ (pos 5 ∷ (negsuc 1 ∷ []))) ∷ []))))

row_two_levels : map (λ x. resolution_of wide 2 (rows_of wide_rows) 2 x 2) (1 ∷ (2 ∷ (3 ∷ (4 ∷ (5 ∷ (6 ∷ []))))))
    ≡ negsuc 8 ∷ (pos 0 ∷ (pos 3 ∷ (negsuc 2 ∷ (negsuc 1 ∷ (pos 3 ∷ [])))))
unfolding resolution_of woven_plane resolution_area unlifted even_at reflected
row_two_levels = refl

-- the same, reduced by one level
row_reduced : map (λ x. resolution_of wide 2 (rows_of wide_rows) 1 x 1) (1 ∷ (2 ∷ (3 ∷ [])))
    ≡ negsuc 0 ∷ (negsuc 1 ∷ (pos 2 ∷ []))
unfolding resolution_of woven_plane resolution_area unlifted even_at reflected
row_reduced = refl

-- Column 0, rows 0 to 8, one level: LL -26 -22 -30 -32 -19 and LH 1 5 1 0.
abbrev high : Rect
high = record { x0 = 0; y0 = 0; x1 = 1; y1 = 9 }

abbrev high_columns : ℕ → ℕ → ℕ → ℤ
high_columns b x y =
    signed_at (slice_index_or
    ((negsuc 25 ∷ (negsuc 21 ∷ (negsuc 29 ∷ (negsuc 31 ∷ (negsuc 18 ∷ [])))))
    ∷ ([] ∷ ((pos 1 ∷ (pos 5 ∷ (pos 1 ∷ (pos 0 ∷ [])))) ∷ []))) b []) y

row_column : map (λ y. resolution_of high 1 high_columns 1 0 y) (0 ∷ (1 ∷ (2 ∷ (3 ∷ (4 ∷ (5 ∷ (6 ∷ (7 ∷ (8 ∷ [])))))))))
    ≡ negsuc 26 ∷ (negsuc 24
    ∷ (negsuc 23 ∷ (negsuc 22 ∷ (negsuc 31 ∷ (negsuc 30 ∷ (negsuc 31 ∷ (negsuc 25 ∷ (negsuc 18 ∷ []))))))))
unfolding resolution_of woven_plane resolution_area unlifted even_at reflected
row_column = refl

-- Two by two samples: LL 1, HL 1, LH 0 and HH -1. With HL and LH exchanged, or columns before rows,
-- they would be others.
abbrev square : Rect
square = record { x0 = 0; y0 = 0; x1 = 2; y1 = 2 }

abbrev square_bands : ℕ → ℕ → ℕ → ℤ
square_bands b x y = signed_at (pos 1 ∷ (pos 1 ∷ (pos 0 ∷ (negsuc 0 ∷ [])))) b

row_square : map (λ i. resolution_of square 1 square_bands 1 (i + 0) 0) (0 ∷ (1 ∷ [])) ≡ pos 0 ∷ (pos 1 ∷ [])
unfolding resolution_of woven_plane resolution_area unlifted even_at reflected
row_square = refl

row_square_below : map (λ i. resolution_of square 1 square_bands 1 (i + 0) 1) (0 ∷ (1 ∷ [])) ≡ pos 0 ∷ (pos 0 ∷ [])
unfolding resolution_of woven_plane resolution_area unlifted even_at reflected
row_square_below = refl

-- A single sample at an odd column stands in HL, doubled.
row_single : resolution_of (record { x0 = 1; y0 = 0; x1 = 2; y1 = 1 }) 1
    (λ b x y. signed_at (pos 9 ∷ (pos 2 ∷ (pos 9 ∷ (pos 9 ∷ [])))) b) 1 1 0 ≡ pos 1
unfolding resolution_of woven_plane resolution_area unlifted even_at reflected
row_single = refl

-- A pixel of which -1, 65535 and 65535 are left after the component transform, at 16 bits.
row_colour : map (uncoloured (λ c. signed_at (negsuc 0 ∷ (pos 65535 ∷ (pos 65535 ∷ (pos 7 ∷ [])))) c))
    (0 ∷ (1 ∷ (2 ∷ (3 ∷ [])))) ≡ pos 32767 ∷ (negsuc 32767 ∷ (pos 32767 ∷ (pos 7 ∷ [])))
unfolding uncoloured
row_colour = refl

row_sample : (cod : Cod) (siz : Siz) → cod.colour ≡ true → siz.depth ≡ 16 → siz.signed ≡ false
    → map (tile_sample cod siz (λ c. signed_at (negsuc 0 ∷ (pos 65535 ∷ (pos 65535 ∷ []))) c)) (0 ∷ (1 ∷ (2 ∷ [])))
    ≡ pos 65535 ∷ (pos 0 ∷ (pos 65535 ∷ []))
unfolding uncoloured tile_sample
row_sample cod siz colour depth signed = rw (colour, depth, signed) refl

-- Of eight layers the first four leave out the four lowest bit-planes: of one sample of 8 bits, 255
-- becomes 240, 1 becomes 16, and 0 stays.
row_front : map (λ v. without_planes (8 - 4) v +ℤ pos 128) (pos 127 ∷ (negsuc 126 ∷ (negsuc 127 ∷ [])))
    ≡ pos 240 ∷ (pos 16 ∷ (pos 0 ∷ []))
row_front = refl

-- Of one bit-plane more than there are nothing is left.
row_front_none : map (without_planes 7) (pos 127 ∷ (negsuc 126 ∷ [])) ≡ pos 0 ∷ (pos 0 ∷ [])
row_front_none = refl

-- ---- tiles that are read and written

-- Two by two samples of 8 bits with one level, whose packets have bodies of LL, HL and HH, each of
-- one bit-plane.
abbrev siz : (x1 y1 : ℕ) → Siz
siz x1 y1 = record {
  rsiz = 0;
  x1 = x1;
  y1 = y1;
  x0 = 0;
  y0 = 0;
  tile_width = x1;
  tile_height = y1;
  tile_x0 = 0;
  tile_y0 = 0;
  components = 1;
  depth = 8;
  signed = false;
}

abbrev headers : Headers
headers = record {
  siz = siz 2 2;
  tiles = record {
    cod = no_coding;
    codings = record {
      levels = 1;
      xcb = 6;
      ycb = 6;
      precincts = (15, 15) ∷ (15, 15) ∷ [];
      style = plain_style;
      guard = 2;
      exponents = 8 ∷ 9 ∷ 9 ∷ 10 ∷ [];
    } ∷ [];
    data_places = (0, 10) ∷ [];
  } ∷ [];
}

abbrev body : (band zero_planes : ℕ) → List ℕ → Body
body band zero_planes bytes =
    record {
      part = record { band = band; block = 0; zero_planes = zero_planes; passes = 1; length = 1 };
      bytes = bytes;
    }

abbrev in_ll : Body
in_ll = body 0 8 (0x03 ∷ [])

abbrev in_hl : Body
in_hl = body 0 9 (0x03 ∷ [])

abbrev in_hh : Body
in_hh = body 2 10 (0x07 ∷ [])

abbrev packets : List PacketPlace
packets = record {
  name = record { layer = 0; resolution = 0; component = 0; precinct = 0 };
  start = 0;
  body = 2;
  parts = in_ll.part ∷ [];
} ∷ record {
  name = record { layer = 0; resolution = 1; component = 0; precinct = 0 };
  start = 3;
  body = 8;
  parts = in_hl.part ∷ in_hh.part ∷ [];
} ∷ []

abbrev one : Rect
one = record { x0 = 0; y0 = 0; x1 = 1; y1 = 1 }

-- Where the bodies mean 1, 1 and -1, and no body 0, the rows are 128 129 and 128 128.
row_tile : bodies_values (shape_of_area one LL plain_style) 9 (in_ll ∷ []) ≡ Ok (pos 1 ∷ [])
    → bodies_values (shape_of_area one HL plain_style) 10 (in_hl ∷ []) ≡ Ok (pos 1 ∷ [])
    → bodies_values (shape_of_area one LH plain_style) 10 [] ≡ Ok (pos 0 ∷ [])
    → bodies_values (shape_of_area one HH plain_style) 11 (in_hh ∷ []) ≡ Ok (negsuc 0 ∷ [])
    → tile_planes_at (0xC0 ∷ 0x21 ∷ 0x03 ∷ 0xC0 ∷ 0x10 ∷ 0xA0 ∷ 0x04 ∷ 0x20 ∷ 0x03 ∷ 0x07 ∷ []) headers 0 0 packets
    ≡ Ok ((pos 128 ∷ pos 129 ∷ pos 128 ∷ pos 128 ∷ []) ∷ [])
unfolding reflected even_at unlifted woven_plane resolution_of tile_area resolution_area band_area precincts_across
    precincts_down precinct_column precinct_row precinct_area grid_of block_grid block_area raster bodies_of each
    band_tested precinct_tested resolution_tested component_tested coefficient_at tile_sample tile_planes_at
row_tile ll hl lh hh = rw (ll, hl, lh, hh) refl

-- The column of nine samples of T.800 J.10, and what is written of it: LL, HL, LH and HH, and the
-- exponents.
abbrev column : Picture
column = record {
  x0 = 0;
  y0 = 0;
  width = 1;
  height = 9;
  depth = 8;
  signed = false;
  planes = (pos 101 ∷ pos 103 ∷ pos 104 ∷ pos 105 ∷ pos 96 ∷ pos 97 ∷ pos 96 ∷ pos 102 ∷ pos 109 ∷ []) ∷ [];
}

abbrev one_level : Vec (ℕ × ℕ) → Parameters
one_level precincts = record {
  levels = 1;
  layers = 1;
  order = Lrcp;
  tile = None;
  xcb = 6;
  ycb = 6;
  style = plain_style;
  precincts = precincts;
  colour = false;
  sop = false;
  eph = false;
  container = Raw;
}

row_coefficients : (precincts : Vec (ℕ × ℕ)) → map (written_band column (one_level precincts) 0 0) (0 ∷ 1 ∷ 2 ∷ 3 ∷ [])
    ≡ (negsuc 25 ∷ negsuc 21 ∷ negsuc 29 ∷ negsuc 31 ∷ negsuc 18 ∷ []) ∷ [] ∷ (pos 1 ∷ pos 5 ∷ pos 1 ∷ pos 0 ∷ [])
    ∷ [] ∷ []
unfolding raster numbered_area band_area tile_area resolution_area reduced analysed reflected high_at lifted tile_value
row_coefficients precincts = refl

row_exponents : (precincts : Vec (ℕ × ℕ)) → exponents_for column (one_level precincts) ≡ 8 ∷ 9 ∷ 9 ∷ 10 ∷ []
unfolding raster numbered_area band_area tile_area resolution_area reduced analysed reflected high_at lifted tile_value
    digits bit_length need
row_exponents precincts = refl
