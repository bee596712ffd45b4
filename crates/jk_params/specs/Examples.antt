-- Examples: which COD, COC, QCD and QCC count (T.800 A.6), where the data of tile-parts stand, and
-- the tiling of an image of 17 by 13 at (3, 5).
use Rattle.std.specs.Prelude.{◌≡◌, ℕ, true, false, List, [], ◌∷◌, map, Option, Some, None, refl}
use Rattle.std.specs.Prelude.{Ok, Err}
use Rattle.std.specs.Global.{Vec}
use Rattle.jk_math.specs.declared.fault.Fault.TheVariants.{BadValue, Limit}
use Rattle.jk_math.specs.Styles.{plain_style}
use Rattle.jk_math.specs.Picture.{Picture}
use Rattle.jk_marks.specs.declared.siz.Siz.{Siz}
use Rattle.jk_marks.specs.declared.coding.Coding.{Coding}
use Rattle.jk_marks.specs.declared.segments.Cod.{Cod}
use Rattle.jk_marks.specs.declared.segments.CodingStyle.{CodingStyle}
use Rattle.jk_marks.specs.declared.segments.Order.TheVariants.{Lrcp, Rpcl}
use Rattle.jk_marks.specs.Siz.{siz_text}
use Rattle.jk_marks.specs.Segments.{Segment, CodSegment, CocSegment, QcdSegment, QccSegment, Passed, style_text}
use Rattle.jk_marks.specs.Segments.{contents}
use Rattle.jk_marks.specs.Segments.{segment_body}
use Rattle.jk_marks.specs.Codestream.{CodestreamPart, Tree, main_text}
use Rattle.jk_geom.specs.Rectangles.{tile_area, resolution_area}
use Rattle.jk_geom.specs.Precincts.{precincts_across, precincts_down}
use Rattle.jk_geom.specs.Counts.{precincts_below, packet_number}
use Rattle.jk_params.specs.declared.parameters.Parameters.{Parameters}
use Rattle.jk_params.specs.declared.parameters.Container.TheVariants.{Raw, Jp2}
use Rattle.jk_params.specs.Coding.{style_for, quantisation_for, coding_of, band_count}
use Rattle.jk_params.specs.CodingReading.{planes_at}
use Rattle.jk_params.specs.Headers.{Headers, tile_data_places, cod_for, total}
use Rattle.jk_params.specs.Levels.{holds_below, have_levels}
use Rattle.jk_params.specs.Profile.{siz_of, are_sizes, are_precincts, is_tile, is_contained, tiles_of, packets_for}
use Rattle.jk_params.specs.Tiling.{first_tile, tiles_between}

-- ---- which segments go before others

abbrev style : ℕ → CodingStyle
style levels = record { levels = levels; xcb = 6; ycb = 6; style = plain_style; precincts = [] }

abbrev cod : (layers levels : ℕ) → Cod
cod layers levels =
    record { sop = false; eph = false; order = Lrcp; layers = layers; colour = false; style = style levels }

-- The main header: COD with one level, COC of component 1 with two, QCD with one guard bit and QCC
-- of component 1 with two.
abbrev main : List Segment
main = CodSegment (cod 1 1)
    ∷ CocSegment 1 (style 2)
    ∷ QcdSegment (record { guard = 1; bytes = 0x40 ∷ 0x48 ∷ 0x48 ∷ 0x50 ∷ 0x58 ∷ [] })
    ∷ QccSegment 1 (record { guard = 2; bytes = 0x40 ∷ 0x48 ∷ 0x48 ∷ 0x50 ∷ 0x48 ∷ 0x48 ∷ 0x50 ∷ [] })
    ∷ []

-- what the header of a tile may say: COD with three levels and two layers, COC of component 1 with
-- four levels, QCD with three guard bits, QCC of component 1 with four
abbrev own_cod : Segment
own_cod = CodSegment (cod 2 3)

abbrev own_coc : Segment
own_coc = CocSegment 1 (style 4)

abbrev own_qcd : Segment
own_qcd = QcdSegment (record { guard = 3; bytes = 0x40 ∷ [] })

abbrev own_qcc : Segment
own_qcc = QccSegment 1 (record { guard = 4; bytes = 0x40 ∷ [] })

-- how many levels components 0 and 1 have, and how many guard bits
abbrev levels : List Segment → List ℕ
levels head = (style_for main head 0).levels ∷ (style_for main head 1).levels ∷ []

abbrev guards : List Segment → List ℕ
guards head = (quantisation_for main head 0).guard ∷ (quantisation_for main head 1).guard ∷ []

by_the_main_header : levels [] ≡ 1 ∷ 2 ∷ []
by_the_main_header = refl

-- the tile's COD goes before the COC of the main header
by_the_tiles_cod : levels (own_cod ∷ []) ≡ 3 ∷ 3 ∷ []
by_the_tiles_cod = refl

by_the_tiles_coc : levels (own_coc ∷ []) ≡ 1 ∷ 4 ∷ []
by_the_tiles_coc = refl

by_both : levels (own_coc ∷ own_cod ∷ []) ≡ 3 ∷ 4 ∷ []
by_both = refl

guards_by_the_main_header : guards [] ≡ 1 ∷ 2 ∷ []
guards_by_the_main_header = refl

guards_by_the_tiles_qcd : guards (own_qcd ∷ []) ≡ 3 ∷ 3 ∷ []
guards_by_the_tiles_qcd = refl

guards_by_the_tiles_qcc : guards (own_qcc ∷ own_qcd ∷ []) ≡ 3 ∷ 4 ∷ []
guards_by_the_tiles_qcc = refl

-- layers, order and the use of the colour transform stand in COD alone
layers_of_the_tile : (cod_for main []).layers ∷ (cod_for main (own_coc ∷ own_cod ∷ [])).layers ∷ [] ≡ 1 ∷ 2 ∷ []
layers_of_the_tile = refl

-- ---- the coding of a tile-component

-- Of component 0: exponents of as many sub-bands as there are, and the greatest precincts at both
-- resolutions.
whole_coding : coding_of main [] 0
    ≡ record {
      levels = 1;
      xcb = 6;
      ycb = 6;
      precincts = (15, 15) ∷ (15, 15) ∷ [];
      style = plain_style;
      guard = 1;
      exponents = 8 ∷ 9 ∷ 9 ∷ 10 ∷ [];
    }
whole_coding = refl

bands : band_count 0 ∷ band_count 1 ∷ band_count 5 ∷ [] ≡ 1 ∷ 4 ∷ 16 ∷ []
bands = refl

-- A coding of no level with these guard bits and exponents: it has one exponent, and 0 to 23
-- magnitude planes.
abbrev coded : (guard : ℕ) → (exponents : List ℕ) → Coding
coded guard exponents = record {
  levels = 0;
  xcb = 6;
  ycb = 6;
  precincts = (15, 15) ∷ [];
  style = plain_style;
  guard = guard;
  exponents = exponents;
}

no_exponent : planes_at (coded 2 []) ≡ Err BadValue
unfolding planes_at
no_exponent = refl

fewer_than_none : planes_at (coded 0 (0 ∷ [])) ≡ Err BadValue
unfolding planes_at
fewer_than_none = refl

none : planes_at (coded 0 (1 ∷ [])) ≡ Ok (coded 0 (1 ∷ []))
unfolding planes_at
none = refl

most : planes_at (coded 2 (22 ∷ [])) ≡ Ok (coded 2 (22 ∷ []))
unfolding planes_at
most = refl

too_many : planes_at (coded 2 (23 ∷ [])) ≡ Err Limit
unfolding planes_at
too_many = refl

-- Of two tile-components one has two levels and one has one: the image can be halved once.
abbrev two_components : Siz → Headers
two_components siz =
    record {
      siz = siz;
      tiles = record {
        cod = cod 1 2;
        codings = record (coded 2 []) { levels = 2 } ∷ record (coded 2 []) { levels = 1 } ∷ [];
        data_places = [];
      }
          ∷ [];
    }

abbrev one_tile : Siz
one_tile = record {
  rsiz = 0;
  x1 = 2;
  y1 = 1;
  x0 = 0;
  y0 = 0;
  tile_width = 2;
  tile_height = 1;
  tile_x0 = 0;
  tile_y0 = 0;
  components = 2;
  depth = 8;
  signed = false;
}

halved : map (have_levels (two_components one_tile)) (0 ∷ 1 ∷ 2 ∷ []) ≡ true ∷ true ∷ false ∷ []
unfolding holds_below
halved = refl

-- ---- the data of tile-parts

-- Two tiles of one sample each. The parts are the first of tile 0, that of tile 1, which is empty,
-- and the second of tile 0, whose header has a PLT of six bytes.
abbrev parts : List CodestreamPart
parts = record { tile = 0; is_open = false; number = 0; total = 2; segments = []; content = 1 ∷ 2 ∷ 3 ∷ [] }
    ∷ record { tile = 1; is_open = false; number = 0; total = 1; segments = []; content = [] }
    ∷ record {
      tile = 0;
      is_open = false;
      number = 1;
      total = 2;
      segments = Passed 0xFF58 (0 ∷ 1 ∷ []) ∷ [];
      content = 4 ∷ [];
    }
    ∷ []

abbrev tree : Tree
tree = record {
  siz = record one_tile { tile_width = 1; components = 1 };
  segments = CodSegment (cod 1 0) ∷ QcdSegment (record { guard = 2; bytes = 0x40 ∷ [] }) ∷ [];
  parts = parts;
}

-- Behind a main header of 65 bytes each part begins with the 14 bytes of SOT and SOD.
data_of_tile_0 : tile_data_places tree 0 ≡ (79, 82) ∷ (116, 117) ∷ []
unfolding main_text siz_text contents segment_body style_text
data_of_tile_0 = refl

data_of_tile_1 : tile_data_places tree 1 ≡ (96, 96) ∷ []
unfolding main_text siz_text contents segment_body style_text
data_of_tile_1 = refl

-- ---- what is written

-- tiles of side 8: the first begins at a multiple of 8
first_tiles : map (first_tile (Some 8)) (0 ∷ 7 ∷ 8 ∷ 13 ∷ []) ≡ 0 ∷ 0 ∷ 8 ∷ 8 ∷ []
first_tiles = refl

-- from 3 to 20, from 9 to 16 and to 17, and where no side is given
between : tiles_between (Some 8) 3 20 ∷ tiles_between (Some 8) 9 16 ∷ tiles_between (Some 8) 9 17
    ∷ tiles_between None 3 20 ∷ []
    ≡ 3 ∷ 1 ∷ 2 ∷ 1 ∷ []
between = refl

abbrev picture : Picture
picture = record { x0 = 3; y0 = 5; width = 17; height = 13; depth = 8; signed = false; planes = [] ∷ [] }

abbrev parameters : Option (ℕ × ℕ) → (levels layers xcb ycb : ℕ) → Vec (ℕ × ℕ) → Parameters
parameters tile levels layers xcb ycb precincts = record {
  levels = levels;
  layers = layers;
  order = Rpcl;
  tile = tile;
  xcb = xcb;
  ycb = ycb;
  style = plain_style;
  precincts = precincts;
  colour = false;
  sop = false;
  eph = false;
  container = Raw;
}

in_tiles : (precincts : Vec (ℕ × ℕ)) → siz_of picture (parameters (Some (8, 8)) 1 1 6 6 precincts)
    ≡ record {
      rsiz = 0;
      x1 = 20;
      y1 = 18;
      x0 = 3;
      y0 = 5;
      tile_width = 8;
      tile_height = 8;
      tile_x0 = 0;
      tile_y0 = 0;
      components = 1;
      depth = 8;
      signed = false;
    }
in_tiles precincts = refl

-- without tiles there is one, which begins at the origin of the reference grid
in_one_tile : (precincts : Vec (ℕ × ℕ)) → siz_of picture (parameters None 1 1 6 6 precincts)
    ≡ record {
      rsiz = 0;
      x1 = 20;
      y1 = 18;
      x0 = 3;
      y0 = 5;
      tile_width = 20;
      tile_height = 18;
      tile_x0 = 0;
      tile_y0 = 0;
      components = 1;
      depth = 8;
      signed = false;
    }
in_one_tile precincts = refl

-- its packets, where precincts are of 2 by 2 and of 4 by 4
packets : (precincts : Vec (ℕ × ℕ)) → precincts.items ≡ (1, 1) ∷ (2, 2) ∷ []
    → packets_for (parameters (Some (8, 8)) 1 1 6 6 precincts) picture ≡ 36
unfolding total tile_area resolution_area precincts_across precincts_down precincts_below packet_number
packets precincts items = rw items refl

-- levels up to 5, 1 to 32 layers, code-blocks of sides from 4 on and of at most 4096 coefficients
written_sizes : (precincts : Vec (ℕ × ℕ)) → are_sizes (parameters None 5 32 6 6 precincts)
    ∷ are_sizes (parameters None 0 1 10 2 precincts) ∷ [] ≡ true ∷ true ∷ []
written_sizes precincts = refl

other_sizes : (precincts : Vec (ℕ × ℕ)) → are_sizes (parameters None 6 1 6 6 precincts)
    ∷ are_sizes (parameters None 5 0 6 6 precincts)
    ∷ are_sizes (parameters None 5 33 6 6 precincts)
    ∷ are_sizes (parameters None 5 1 7 6 precincts)
    ∷ are_sizes (parameters None 5 1 1 6 precincts) ∷ []
    ≡ false ∷ false ∷ false ∷ false ∷ false ∷ []
other_sizes precincts = refl

-- precincts of one coefficient stand at the lowest resolution alone, and there are none or one size
-- for each resolution
written_precincts : are_precincts 1 [] ∷ are_precincts 1 ((0, 0) ∷ (1, 15) ∷ []) ∷ [] ≡ true ∷ true ∷ []
written_precincts = refl

other_precincts : are_precincts 1 ((1, 1) ∷ (0, 1) ∷ []) ∷ are_precincts 1 ((1, 1) ∷ [])
    ∷ are_precincts 1 ((1, 1) ∷ (1, 16) ∷ []) ∷ []
    ≡ false ∷ false ∷ false ∷ []
other_precincts = refl

tiles : is_tile (Some (1, 2147483647)) ∷ is_tile (Some (0, 8)) ∷ is_tile (Some (8, 2147483648)) ∷ []
    ≡ true ∷ false ∷ false ∷ []
tiles = refl

-- 17 by 13 tiles of one sample each
many_tiles : tiles_of (Some (1, 1)) picture ≡ 221
many_tiles = refl

contained : is_contained Jp2 3 false ∷ is_contained Jp2 2 false ∷ is_contained Jp2 1 true ∷ is_contained Raw 2 true ∷ []
    ≡ true ∷ false ∷ false ∷ true ∷ []
contained = refl
