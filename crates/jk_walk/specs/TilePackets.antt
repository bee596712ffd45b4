-- The packets of a tile, and how its tile-parts hold them (T.800 B.9 to B.12).
use Rattle.std.specs.Prelude.{◌≡◌, ℕ, zero, suc, ◌+◌, ◌-◌, ◌*◌, Bool, List, [], ◌∷◌, ◌++◌, length, map, take, drop}
use Rattle.std.specs.Prelude.{filter, slice_index, slice_index_or}
use Rattle.std.specs.List.{AllByRecursion, flat_map, range_with_len}
use Rattle.jk_math.specs.declared.rect.Rect.{Rect}
use Rattle.jk_marks.specs.declared.siz.Siz.{Siz}
use Rattle.jk_marks.specs.declared.coding.Coding.{Coding}
use Rattle.jk_math.specs.declared.orientation.Orientation.{Orientation}
use Rattle.jk_math.specs.declared.orientation.Orientation.TheVariants.{LL, HL, LH, HH}
use Rattle.jk_geom.specs.declared.shape.TileShape.{TileShape}
use Rattle.jk_geom.specs.declared.shape.PacketName.{PacketName}
use Rattle.jk_geom.specs.Rectangles.{tile_area}
use Rattle.jk_geom.specs.Blocks.{block_grid}
use Rattle.jk_geom.specs.TileShapes.{coding_of}
use Rattle.jk_order.specs.PacketOrder.{IsPacketOrder, IsPrecinct, is_of}
use Rattle.jk_packet.specs.declared.shape.BandShape.{BandShape}
use Rattle.jk_packet.specs.declared.header.BlockContribution.{BlockContribution}
use Rattle.jk_packet.specs.PacketText.{Layer, Trees, IsHeaderText, parts_of}
use Rattle.jk_packet.specs.Standing.{AreTrees, TellsLayers}
use Rattle.jk_params.specs.Headers.{TileFields}

-- the bytes of a place
abbrev pub slice_of : List ℕ → ℕ × ℕ → List ℕ
slice_of bytes place = take (place.1 - place.0) (drop place.0 bytes)

-- what the packets of tile t depend on
abbrev pub shape_in : Siz → TileFields → ℕ → TileShape
shape_in siz f t = record { rect = tile_area siz t; layers = f.cod.layers; order = f.cod.order; codings = f.codings }

-- What a packet has of a code-block: its part, and the bytes.
pub record Body : Type 0 where
  pub part : BlockContribution
  pub bytes : List ℕ

-- A packet: whose it is, what it has of its precinct, the bits of its header, the bodies of its
-- parts, and its text.
pub record Packet : Type 0 where
  pub name : PacketName
  pub layer : Layer
  pub bits : List Bool
  pub bodies : List Body
  pub text : List ℕ

-- A packet where SOP may stand and EPH must: a header, and behind it a body for each part, as long
-- as the header says.
pub record IsPacket (sop eph : Bool) (p : Packet) : Type 0 where
  pub header : List ℕ
  pub is_header : IsHeaderText sop eph p.bits header
  pub parts : map (λ b. b.part) p.bodies ≡ parts_of p.layer
  pub lengths : AllByRecursion (λ b. length b.bytes ≡ b.part.length) p.bodies
  pub joins : p.text ≡ header ++ flat_map (λ b. b.bytes) p.bodies

-- the sub-bands of a resolution, in the order of the packet (B.9)
abbrev pub orientations : ℕ → List Orientation
orientations zero = LL ∷ []
orientations (suc r) = HL ∷ LH ∷ HH ∷ []

-- the number in QCD of sub-band i of a resolution (A.6.4)
abbrev pub band_number : (r i : ℕ) → ℕ
band_number zero i = 0
band_number (suc r) i = 3 * r + 1 + i

-- Mb, how many magnitude bit-planes a sub-band has (equation E-2)
abbrev pub planes_of : Coding → ℕ → ℕ
planes_of k b = k.guard + slice_index k.exponents b - 1

-- the part of a sub-band that lies in precinct n of resolution r; b is its number in QCD
abbrev pub band_part : Rect → Coding → (r n : ℕ) → Orientation → (b : ℕ) → BandShape
band_part a k r n o b = let g =
    block_grid a k r n o in record { across = g.across; down = g.down; planes = planes_of k b }

-- the same of sub-band i of the resolution
abbrev pub band_at : Rect → Coding → (r n i : ℕ) → BandShape
band_at a k r n i = band_part a k r n (slice_index_or (orientations r) i LL) (band_number r i)

-- the sub-bands of precinct n of resolution r
abbrev pub bands_at : Rect → Coding → (r n : ℕ) → List BandShape
bands_at a k r n = map (band_at a k r n) (range_with_len 0 (length (orientations r)))

-- the packets of a precinct
abbrev pub of_precinct : (c r k : ℕ) → List Packet → List Packet
of_precinct c r k packets = filter (λ p. is_of c r k p.name) packets

-- Tag trees tell the packets of a precinct, one after another.
pub record IsToldPrecinct (shapes : List BandShape) (packets : List Packet) : Type 0 where
  pub trees : Trees
  pub are : AreTrees shapes trees
  pub told : TellsLayers shapes trees (map (λ p. p.layer) packets) (map (λ p. p.bits) packets)

-- The packets of a tile in their order: the headers of each precinct are told layer by layer, and
-- the data of the tile's parts are the texts, cut into one run for each part.
pub record IsTile (s : TileShape) (sop eph : Bool) (packets : List Packet) (parts : List (List ℕ)) : Type 0 where
  pub order : IsPacketOrder s (map (λ p. p.name) packets)
  pub texts : AllByRecursion (IsPacket sop eph) packets
  pub told : (c r k : ℕ) → IsPrecinct s c r k
      → IsToldPrecinct (bands_at s.rect (coding_of s.codings c) r k) (of_precinct c r k packets)
  pub runs : List (List Packet)
  pub whole : flat_map (λ run. run) runs ≡ packets
  pub cut : map (λ run. flat_map (λ p. p.text) run) runs ≡ parts
