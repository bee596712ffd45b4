-- The images and parameters that are written.
use Rattle.std.specs.Prelude.{◌≡◌, ℕ, ◌+◌, ◌*◌, ◌^◌, ◌≤◌, Bool, true, not, ◌&&◌, ◌||◌, ◌==◌, nat_lt, nat_le, List, []}
use Rattle.std.specs.Prelude.{length, drop, replicate, Option, Some, None, option_map}
use Rattle.std.specs.List.{list_all}
use Rattle.jk_math.specs.Picture.{Picture, is_grey_or_rgb}
use Rattle.jk_marks.specs.declared.siz.Siz.{Siz}
use Rattle.jk_marks.specs.declared.segments.Cod.{Cod}
use Rattle.jk_marks.specs.declared.coding.Coding.{Coding}
use Rattle.jk_marks.specs.Siz.{IsSiz}
use Rattle.jk_marks.specs.Coding.{IsCoding}
use Rattle.jk_marks.specs.Segments.{IsCod}
use Rattle.jk_params.specs.declared.parameters.Parameters.{Parameters}
use Rattle.jk_params.specs.declared.parameters.Container.{Container}
use Rattle.jk_params.specs.declared.parameters.Container.TheVariants.{Raw, Jp2}
use Rattle.jk_params.specs.declared.picture_frame.PictureFrame.{PictureFrame}
use Rattle.jk_params.specs.PictureFrames.{frame_of}
use Rattle.jk_params.specs.Tiling.{first_tile, tile_side, tiles_between}
use Rattle.jk_params.specs.Coding.{coding_with}
use Rattle.jk_params.specs.Headers.{packets_alike, most_packets}

-- the width and the height of a tile, where they are given
abbrev pub tile_width : Parameters → Option ℕ
tile_width q = option_map (λ t. t.0) q.tile

abbrev pub tile_height : Parameters → Option ℕ
tile_height q = option_map (λ t. t.1) q.tile

-- the image and tile size segment that is written of an image with this frame (T.800 A.5.1)
abbrev pub siz_for : PictureFrame → Parameters → Siz
siz_for f q = record {
  rsiz = 0;
  x1 = f.x0 + f.width;
  y1 = f.y0 + f.height;
  x0 = f.x0;
  y0 = f.y0;
  tile_width = tile_side (tile_width q) (f.x0 + f.width);
  tile_height = tile_side (tile_height q) (f.y0 + f.height);
  tile_x0 = first_tile (tile_width q) f.x0;
  tile_y0 = first_tile (tile_height q) f.y0;
  components = f.components;
  depth = f.depth;
  signed = f.signed;
}

-- that of an image
abbrev pub siz_of : Picture → Parameters → Siz
siz_of p q = siz_for (frame_of p) q

-- the coding style segment that is written (A.6.1)
abbrev pub cod_of : Parameters → Cod
cod_of q = record {
  sop = q.sop;
  eph = q.eph;
  order = q.order;
  layers = q.layers;
  colour = q.colour;
  style = record { levels = q.levels; xcb = q.xcb; ycb = q.ycb; style = q.style; precincts = q.precincts.items };
}

-- 1 to 32 layers, up to 5 levels, code-blocks of at most 4096 coefficients
abbrev pub are_sizes : Parameters → Bool
are_sizes q =
    nat_le q.levels 5 && nat_le 1 q.layers && nat_le q.layers 32
    && nat_le 2 q.xcb && nat_le q.xcb 10 && nat_le 2 q.ycb && nat_le q.ycb 10 && nat_le (q.xcb + q.ycb) 12

-- no precinct sizes, or one for each resolution, with 0 only at the lowest
abbrev pub are_precincts : ℕ → List (ℕ × ℕ) → Bool
are_precincts levels sizes =
    (length sizes == 0)
    || ((length sizes == levels + 1) && list_all (λ s. nat_le s.0 15 && nat_le s.1 15) sizes
    && list_all (λ s. nat_lt 0 s.0 && nat_lt 0 s.1) (drop 1 sizes))

-- sides from 1 to 2^31 - 1
abbrev pub is_tile : Option (ℕ × ℕ) → Bool
is_tile None = true
is_tile (Some t) = nat_le 1 t.0 && nat_lt t.0 (2 ^ 31) && nat_le 1 t.1 && nat_lt t.1 (2 ^ 31)

-- JP2 holds one or three unsigned components
abbrev pub is_contained : Container → ℕ → Bool → Bool
is_contained Raw components signed = true
is_contained Jp2 components signed = is_grey_or_rgb components signed

-- how many tiles that makes
abbrev pub tiles_for : Option (ℕ × ℕ) → PictureFrame → ℕ
tiles_for t f =
    tiles_between (option_map (λ s. s.0) t) f.x0 (f.x0 + f.width)
    * tiles_between (option_map (λ s. s.1) t) f.y0 (f.y0 + f.height)

abbrev pub tiles_of : Option (ℕ × ℕ) → Picture → ℕ
tiles_of t p = tiles_for t (frame_of p)

-- how each component is coded; the exponents say nothing of the packets
abbrev pub coding_for : Parameters → Coding
coding_for q = coding_with (cod_of q).style record { guard = 2; exponents = [] }

-- how many packets that makes
abbrev pub frame_packets : Parameters → PictureFrame → ℕ
frame_packets q f = packets_alike (siz_for f q) q.layers (replicate f.components (coding_for q))

abbrev pub packets_for : Parameters → Picture → ℕ
packets_for q p = frame_packets q (frame_of p)

-- whether an image with this frame is written with the parameters
unfoldable pub is_profile_for : Parameters → PictureFrame → Bool
is_profile_for q f =
    are_sizes q && are_precincts q.levels q.precincts.items && is_tile q.tile
    && (not q.colour || nat_le 3 f.components)
    && is_contained q.container f.components f.signed
    && nat_le (tiles_for q.tile f) 65535
    && nat_le (frame_packets q f) most_packets

-- whether the image is: its samples say nothing of it
unfoldable pub is_profile : Parameters → Picture → Bool
is_profile q p = is_profile_for q (frame_of p)

-- What is written has a size, a coding that can be counted, and not too many packets.
pub record IsWrittenFor (q : Parameters) (f : PictureFrame) : Type 0 where
  pub sizes : are_sizes q ≡ true
  pub precincts : are_precincts q.levels q.precincts.items ≡ true
  pub siz : IsSiz (siz_for f q)
  pub cod : IsCod f.components (cod_of q)
  pub coding : IsCoding (coding_for q)
  pub few : frame_packets q f ≤ most_packets
  pub tile : is_tile q.tile ≡ true
  pub tiles : nat_le (tiles_for q.tile f) 65535 ≡ true
  pub contained : is_contained q.container f.components f.signed ≡ true
  pub levels : q.levels ≤ 5
  pub layers : (1 ≤ q.layers) × (q.layers ≤ 32)

-- The same of an image.
pub record IsWrittenBy (q : Parameters) (p : Picture) : Type 0 where
  pub sizes : are_sizes q ≡ true
  pub precincts : are_precincts q.levels q.precincts.items ≡ true
  pub siz : IsSiz (siz_of p q)
  pub cod : IsCod (length p.planes) (cod_of q)
  pub coding : IsCoding (coding_for q)
  pub few : packets_for q p ≤ most_packets
  pub tile : is_tile q.tile ≡ true
  pub tiles : nat_le (tiles_of q.tile p) 65535 ≡ true
  pub contained : is_contained q.container (length p.planes) p.signed ≡ true
  pub levels : q.levels ≤ 5
  pub layers : (1 ≤ q.layers) × (q.layers ≤ 32)
