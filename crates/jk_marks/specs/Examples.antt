-- Examples: the marker segments of the codestream of T.800 J.10, and bytes of their tables.
use Rattle.std.specs.Prelude.{◌≡◌, false, true, List, [], ◌∷◌, ℕ, refl}
use Rattle.jk_math.specs.declared.style.Style.{Style}
use Rattle.jk_marks.specs.declared.siz.Siz.{Siz}
use Rattle.jk_marks.specs.declared.segments.Cod.{Cod}
use Rattle.jk_marks.specs.declared.segments.CodingStyle.{CodingStyle}
use Rattle.jk_marks.specs.declared.segments.Order.TheVariants.{Lrcp, Cprl}
use Rattle.jk_marks.specs.Siz.{siz_text, tiles_across, tiles_down, tile_count}
use Rattle.jk_marks.specs.BlockStyle.{style_byte, style_of}
use Rattle.jk_marks.specs.OrderCode.{order_code}
use Rattle.jk_marks.specs.Exponents.{exponents_of}
use Rattle.jk_marks.specs.Segments.{Segment, CodSegment, QcdSegment, style_text, contents, segment_body, segment_text}

-- one column of nine samples of 8 bits, in one tile
image : Siz
image = record {
  rsiz = 0;
  x1 = 1;
  y1 = 9;
  x0 = 0;
  y0 = 0;
  tile_width = 1;
  tile_height = 9;
  tile_x0 = 0;
  tile_y0 = 0;
  components = 1;
  depth = 8;
  signed = false;
}

row_siz : siz_text image ≡ 0xFF ∷ 0x51 ∷ 0 ∷ 0x29 ∷ 0 ∷ 0
    ∷ 0 ∷ 0 ∷ 0 ∷ 1 ∷ 0 ∷ 0 ∷ 0 ∷ 9 ∷ 0 ∷ 0 ∷ 0 ∷ 0 ∷ 0 ∷ 0 ∷ 0 ∷ 0
    ∷ 0 ∷ 0 ∷ 0 ∷ 1 ∷ 0 ∷ 0 ∷ 0 ∷ 9 ∷ 0 ∷ 0 ∷ 0 ∷ 0 ∷ 0 ∷ 0 ∷ 0 ∷ 0
    ∷ 0 ∷ 1 ∷ 7 ∷ 1 ∷ 1 ∷ []
unfolding siz_text image
row_siz = refl

-- no segmentation symbols, no context reset and no vertically causal contexts
plain : Style
plain = record { reset = false; causal = false; segments = false }

-- one level, code-blocks of 64 by 64, no precinct sizes
coded : CodingStyle
coded = record { levels = 1; xcb = 6; ycb = 6; style = plain; precincts = [] }

row_cod : segment_text (CodSegment (record { sop = false; eph = false; order = Lrcp; layers = 1; colour = false; style = coded }))
    ≡ 0xFF ∷ 0x52 ∷ 0 ∷ 12 ∷ 0 ∷ 0 ∷ 0 ∷ 1 ∷ 0 ∷ 1 ∷ 4 ∷ 4 ∷ 0 ∷ 1 ∷ []
unfolding segment_body contents style_text coded plain
row_cod = refl

-- two guard bits, and the exponents 8, 9, 9 and 10 of LL, HL, LH and HH
row_qcd : segment_text (QcdSegment (record { guard = 2; bytes = 0x40 ∷ 0x48 ∷ 0x48 ∷ 0x50 ∷ [] }))
    ≡ 0xFF ∷ 0x5C ∷ 0 ∷ 7 ∷ 0x40 ∷ 0x40 ∷ 0x48 ∷ 0x48 ∷ 0x50 ∷ []
unfolding segment_body contents
row_qcd = refl

row_exponents : exponents_of (0x40 ∷ 0x48 ∷ 0x48 ∷ 0x50 ∷ []) ≡ 8 ∷ 9 ∷ 9 ∷ 10 ∷ []
row_exponents = refl

-- Tiles of 8 by 4 from (2, 1) on, over columns 5 to 20 and rows 3 to 12: three across, three down.
tiled : Siz
tiled = record image { x0 = 5; y0 = 3; x1 = 21; y1 = 13; tile_width = 8; tile_height = 4; tile_x0 = 2; tile_y0 = 1 }

row_tiles : tile_count tiled ≡ 9
unfolding tiled image
row_tiles = refl

-- Table A.19: context reset is bit 1, vertically causal contexts bit 3, segmentation symbols bit 5.
row_styles : style_byte (record { reset = true; causal = true; segments = true }) ≡ 0x2A
row_styles = refl

row_style : style_of 0x28 ≡ record { reset = false; causal = true; segments = true }
row_style = refl

-- Table A.16: component, position, resolution, layer is the last.
row_order : order_code Cprl ≡ 4
row_order = refl
