-- What the headers of a codestream say (T.800 A.6): the image and tile size, and for each tile its
-- coding and where its data stand.
use Rattle.std.specs.Prelude.{◌≡◌, ℕ, zero, suc, ◌+◌, ◌^◌, ◌<◌, ◌≤◌, true, false, List, [], ◌∷◌, ◌++◌, length, map}
use Rattle.std.specs.Prelude.{take, filter, sum_by, slice_index_or, ◌==◌}
use Rattle.std.specs.List.{range_with_len, AllByRecursion}
use Rattle.jk_marks.specs.declared.siz.Siz.{Siz}
use Rattle.jk_marks.specs.declared.segments.Cod.{Cod}
use Rattle.jk_marks.specs.declared.coding.Coding.{Coding}
use Rattle.jk_marks.specs.Siz.{IsSiz, tile_count}
use Rattle.jk_marks.specs.Segments.{Segment, cods}
use Rattle.jk_marks.specs.Codestream.{CodestreamPart, Tree, main_text, data_start, part_length, of_tile, no_coding, first_given}
use Rattle.jk_marks.specs.Codestream.{IsCodestream}
use Rattle.jk_geom.specs.Rectangles.{tile_area}
use Rattle.jk_geom.specs.TileShapes.{AreCodings}
use Rattle.jk_geom.specs.Counts.{packet_number}
use Rattle.jk_params.specs.Coding.{coding_of, codings_of, HasPlanes}

-- a tile: its COD, the codings of its components, and the places of the data of its parts in the
-- codestream
pub record TileFields : Type 0 where
  pub cod : Cod
  pub codings : List Coding
  pub data_places : List (ℕ × ℕ)

pub record Headers : Type 0 where
  pub siz : Siz
  pub tiles : List TileFields

-- stands where a part isn't
abbrev pub no_part : CodestreamPart
no_part = record { tile = 0; is_open = false; number = 0; total = 0; segments = []; content = [] }

-- part number i, where all parts are counted
abbrev pub part_in : Tree → ℕ → CodestreamPart
part_in tree i = slice_index_or tree.parts i no_part

-- where it begins: behind the main header and the parts before it
abbrev pub part_start : Tree → ℕ → ℕ
part_start tree i = length (main_text tree.siz tree.segments) + sum_by part_length (take i tree.parts)

-- where its data stand
abbrev pub data_place : Tree → ℕ → ℕ × ℕ
data_place tree i = (part_start tree i + data_start (part_in tree i), part_start tree i + part_length (part_in tree i))

-- where the data of the parts of tile t stand
abbrev pub tile_data_places : Tree → ℕ → List (ℕ × ℕ)
tile_data_places tree t =
    map (data_place tree) (filter (λ i. (part_in tree i).tile == t) (range_with_len 0 (length tree.parts)))

-- the segments of the first part of a tile
abbrev pub head_segments : List CodestreamPart → List Segment
head_segments [] = []
head_segments (p ∷ parts) = p.segments

-- the COD of a tile: its own before that of the main header
abbrev pub cod_for : (main head : List Segment) → Cod
cod_for main head = first_given no_coding (cods head ++ cods main)

-- the fields of a tile
unfoldable pub fields_of : Tree → ℕ → TileFields
fields_of tree t = record {
  cod = cod_for tree.segments (head_segments (of_tile t tree.parts));
  codings = codings_of tree.siz.components tree.segments (head_segments (of_tile t tree.parts));
  data_places = tile_data_places tree t;
}

unfoldable pub headers_of : Tree → Headers
headers_of tree = record { siz = tree.siz; tiles = map (fields_of tree) (range_with_len 0 (tile_count tree.siz)) }

-- stands where a tile isn't
abbrev pub no_fields : TileFields
no_fields = record { cod = no_coding; codings = []; data_places = [] }

-- the fields of tile t
abbrev pub tile_in : List TileFields → ℕ → TileFields
tile_in tiles t = slice_index_or tiles t no_fields

-- the sum of f over the numbers below n
unfoldable pub total : (ℕ → ℕ) → ℕ → ℕ
total f zero = 0
total f (suc n) = total f n + f n

-- how many packets the tiles of an image have where all have these layers and codings
abbrev pub packets_alike : Siz → (layers : ℕ) → List Coding → ℕ
packets_alike siz layers codings = total (λ t. packet_number (tile_area siz t) layers codings) (tile_count siz)

-- how many packets the tiles of these fields have
abbrev pub packets_of : Siz → List TileFields → ℕ
packets_of siz tiles =
    total (λ t. packet_number (tile_area siz t) (tile_in tiles t).cod.layers (tile_in tiles t).codings) (tile_count siz)

-- how many packets a codestream may have
abbrev pub most_packets : ℕ
most_packets = 2 ^ 24

-- The headers of a codestream: each coding has magnitude planes, and there aren't too many packets,
-- neither by the main header alone nor by the tiles' own headers.
pub record IsHeaders (bytes : List ℕ) (h : Headers) : Type 0 where
  pub tree : Tree
  pub spelled : IsCodestream bytes tree
  pub says : h ≡ headers_of tree
  pub main_planes : (c : ℕ) → c < tree.siz.components → HasPlanes (coding_of tree.segments [] c)
  pub main_few : packets_alike tree.siz (cod_for tree.segments []).layers
      (codings_of tree.siz.components tree.segments []) ≤ most_packets
  pub planes : (t c : ℕ) → t < tile_count tree.siz → c < tree.siz.components
      → HasPlanes (coding_of tree.segments (head_segments (of_tile t tree.parts)) c)
  pub few : packets_of h.siz h.tiles ≤ most_packets

-- the fields of a tile in a codestream of a size
pub record AreFields (components size : ℕ) (f : TileFields) : Type 0 where
  pub some_layers : 1 ≤ f.cod.layers
  pub few_layers : f.cod.layers < 2 ^ 16
  pub colour : f.cod.colour ≡ true → 3 ≤ components
  pub codings : AreCodings f.codings
  pub all : length f.codings ≡ components
  pub planes : AllByRecursion HasPlanes f.codings
  pub places : AllByRecursion (λ p. (p.0 ≤ p.1) × (p.1 ≤ size)) f.data_places

-- What holds of the headers of a codestream of a size.
pub record AreHeaders (size : ℕ) (h : Headers) : Type 0 where
  pub siz : IsSiz h.siz
  pub tiles : length h.tiles ≡ tile_count h.siz
  pub each : (t : ℕ) → t < tile_count h.siz → AreFields h.siz.components size (tile_in h.tiles t)
  pub few : packets_of h.siz h.tiles ≤ most_packets
