-- The packets of a tile that is written: its coded code-blocks cut into layers, and packets in the
-- order of the tile (T.800 B.8 to B.12).
use Rattle.std.specs.Prelude.{◌≡◌, ℕ, zero, suc, ◌+◌, ◌-◌, ◌*◌, ◌^◌, ◌<◌, ◌≤◌, Bool, List, [], ◌∷◌, length, map, take}
use Rattle.std.specs.Prelude.{drop, replicate, ℤ}
use Rattle.std.specs.List.{flat_map, range_with_len}
use Rattle.jk_math.specs.declared.rect.Rect.{Rect}
use Rattle.jk_math.specs.Picture.{Picture}
use Rattle.jk_marks.specs.declared.coding.Coding.{Coding}
use Rattle.jk_geom.specs.declared.shape.TileShape.{TileShape}
use Rattle.jk_geom.specs.declared.shape.PacketName.{PacketName}
use Rattle.jk_geom.specs.Rectangles.{tile_area}
use Rattle.jk_geom.specs.Partitions.{block_number}
use Rattle.jk_geom.specs.TileShapes.{coding_of}
use Rattle.jk_order.specs.PacketOrder.{order}
use Rattle.jk_packet.specs.declared.header.BlockContribution.{BlockContribution}
use Rattle.jk_packet.specs.declared.table.LayerPart.{LayerPart}
use Rattle.jk_packet.specs.Written.{Table, layer_in, bits_in, bodies_in, packet_in}
use Rattle.jk_params.specs.declared.parameters.Parameters.{Parameters}
use Rattle.jk_params.specs.Coding.{coding_with}
use Rattle.jk_params.specs.Profile.{siz_of, cod_of}
use Rattle.jk_scan.specs.declared.shape.BlockShape.{BlockShape}
use Rattle.jk_block.specs.declared.encoding.CodedBlock.{CodedBlock}
use Rattle.jk_block.specs.CodedBlocks.{contents}
use Rattle.jk_block.specs.BlockWritten.{Coded, coded}
use Rattle.jk_block.specs.Layers.{passes_upto, bytes_upto}
use Rattle.jk_walk.specs.TilePackets.{Body, Packet, orientations, band_number, planes_of, bands_at}
use Rattle.jk_tile.specs.TileBlocks.{grid_at}
use Rattle.jk_tile.specs.encoding.Needs.{written_coefficient, exponents_for}
use Rattle.jk_tile.specs.encoding.TileWritten.{coded_at}

-- ---- layers

-- how many passes, and bytes, of a block stand in the layers before l
abbrev pub passes_before : (layers planes l : ℕ) → ℕ
passes_before layers planes zero = 0
passes_before layers planes (suc l) = passes_upto layers planes l

abbrev pub bytes_before : (layers : ℕ) → Coded → (l : ℕ) → ℕ
bytes_before layers k zero = 0
bytes_before layers k (suc l) = bytes_upto layers k l

-- what layer l adds: its coding passes, and the bytes from the end of the layer before to its own
abbrev pub layer_part : (layers : ℕ) → Coded → (l : ℕ) → ℕ × List ℕ
layer_part layers k l = (
  passes_upto layers k.planes l
      - passes_before layers k.planes l,
  take (bytes_upto layers k l - bytes_before layers k l)
      (drop (bytes_before layers k l) k.bytes),
)

-- what is written of a coded block in a sub-band of so many bit-planes
unfoldable pub coded_table : (layers planes : ℕ) → Coded → Table
coded_table layers planes k =
    record { zero_planes = planes - k.planes; parts = map (layer_part layers k) (range_with_len 0 layers) }

-- the same by where the bytes end
abbrev pub parts_for : (layers : ℕ) → Coded → List LayerPart
parts_for layers k =
    map (λ l. record {
      passes = passes_upto layers k.planes l - passes_before layers k.planes l;
      end = bytes_upto layers k l;
    }) (range_with_len 0 layers)

-- A block as it was coded.
pub record IsCodedBlock (k : CodedBlock) : Type 0 where
  pub shape : BlockShape
  pub values : List ℤ
  pub is : contents k ≡ coded shape values
  pub few : k.planes ≤ 23
  pub marks : length k.marks.items ≡ 3 * k.planes - 2
  pub short : length k.bytes.items < 2 ^ 25

-- ---- precincts

-- the tables of sub-band i in precinct n of resolution r, block by block, where f gives the
-- coefficients by sub-band, column and row
abbrev pub band_tables_at : (layers : ℕ) → Rect → Coding → (ℕ → ℕ → ℕ → ℤ) → (r n i : ℕ) → List Table
band_tables_at layers a k f r n i =
    map (λ j. coded_table layers (planes_of k (band_number r i)) (coded_at a k f r n i j))
    (range_with_len 0 (block_number (grid_at a k r n i)))

-- those of all sub-bands
unfoldable pub precinct_tables : (layers : ℕ) → Rect → Coding → (ℕ → ℕ → ℕ → ℤ) → (r n : ℕ) → List (List Table)
precinct_tables layers a k f r n = map (band_tables_at layers a k f r n) (range_with_len 0 (length (orientations r)))

-- ---- packets

-- tables by component, resolution and precinct
abbrev pub Tables : Type 0
Tables = ℕ → ℕ → ℕ → List (List Table)

abbrev pub body_from : BlockContribution × List ℕ → Body
body_from b = record { part = b.0; bytes = b.1 }

-- the packet of a name, which is the i-th of its tile
unfoldable pub written_packet : TileShape → (sop eph : Bool) → Tables → (i : ℕ) → PacketName → Packet
written_packet s sop eph tables i n =
    let shapes = bands_at s.rect (coding_of s.codings n.component) n.resolution n.precinct in
    let ts = tables n.component n.resolution n.precinct in
    record {
      name = n;
      layer = layer_in ts n.layer;
      bits = bits_in shapes ts n.layer;
      bodies = map body_from (bodies_in ts n.layer);
      text = packet_in shapes sop eph ts n.layer i;
    }

-- the packets of these names, of which the first is the i-th of the tile
abbrev pub written_packets : TileShape → (sop eph : Bool) → Tables → (i : ℕ) → List PacketName → List Packet
written_packets s sop eph tables i [] = []
written_packets s sop eph tables i (n ∷ names) = written_packet s sop eph tables i n
    ∷ written_packets s sop eph tables (i + 1) names

-- their texts
abbrev pub written_text : TileShape → (sop eph : Bool) → Tables → (i : ℕ) → List PacketName → List ℕ
written_text s sop eph tables i names = flat_map (λ p. p.text) (written_packets s sop eph tables i names)

-- ---- a tile of an image

-- how each component is coded
abbrev pub written_coding : Picture → Parameters → Coding
written_coding p q = coding_with (cod_of q).style record { guard = 2; exponents = exponents_for p q }

abbrev pub written_shape : Picture → Parameters → ℕ → TileShape
written_shape p q t =
    record {
      rect = tile_area (siz_of p q) t;
      layers = q.layers;
      order = q.order;
      codings = replicate (length p.planes) (written_coding p q);
    }

abbrev pub tile_tables : Picture → Parameters → ℕ → Tables
tile_tables p q t =
    λ c r n. precinct_tables q.layers (tile_area (siz_of p q) t) (written_coding p q) (written_coefficient p q t c) r n

-- the packets of tile t, and the data of its only part
abbrev pub tile_packets : Picture → Parameters → ℕ → List Packet
tile_packets p q t =
    written_packets (written_shape p q t) q.sop q.eph (tile_tables p q t) 0 (order (written_shape p q t))

unfoldable pub tile_text : Picture → Parameters → ℕ → List ℕ
tile_text p q t = written_text (written_shape p q t) q.sop q.eph (tile_tables p q t) 0 (order (written_shape p q t))
