-- The packets that are written of a precinct (T.800 B.9, B.10): what each layer has of each
-- code-block, the tag trees by it, the bits of the headers, and the texts.
use Rattle.std.specs.Prelude.{◌≡◌, ℕ, zero, suc, ◌+◌, ◌-◌, ◌*◌, ◌^◌, ◌<◌, ◌≤◌, ◌/◌, ◌%◌, Bool, true, false, not, ◌&&◌}
use Rattle.std.specs.Prelude.{◌==◌, if◌then◌else◌, List, [], ◌∷◌, ◌++◌, length, map, take, drop, replicate, sum_by}
use Rattle.std.specs.Prelude.{slice_index_or, Option, Some, None}
use Rattle.std.specs.List.{AllByRecursion, filter, flat_map, list_any, range_with_len}
use Rattle.jk_math.specs.BitLength.{bit_length}
use Rattle.jk_bits.specs.Stuffing.{stuffed}
use Rattle.jk_tree.specs.Telling.{written}
use Rattle.jk_packet.specs.declared.shape.BandShape.{BandShape}
use Rattle.jk_packet.specs.declared.header.BlockContribution.{BlockContribution}
use Rattle.jk_packet.specs.declared.table.LayerPart.{LayerPart}
use Rattle.jk_packet.specs.declared.words.Addition.{Addition}
use Rattle.jk_packet.specs.Words.{floor_log2, most_passes}
use Rattle.jk_packet.specs.Reading.{part_of}
use Rattle.jk_packet.specs.PacketText.{PacketContribution, option_list, BandTrees, Layer, Trees, band_shape, leaves}
use Rattle.jk_packet.specs.PacketText.{bands_bits, header_bits, eph_text}

-- an SOP marker segment with a counter below 2^16 (A.8.1), or none
abbrev pub sop_text : Bool → ℕ → List ℕ
sop_text true counter = 0xFF ∷ 0x91 ∷ 0x00 ∷ 0x04 ∷ counter / 256 ∷ counter % 256 ∷ []
sop_text false counter = []

-- What is written of a code-block: how many of its bit-planes are zero, and for each layer the
-- number of coding passes that it adds, with their bytes.
pub record Table : Type 0 where
  pub zero_planes : ℕ
  pub parts : List (ℕ × List ℕ)

-- what layer l has of the block
abbrev pub part_in : Table → ℕ → ℕ × List ℕ
part_in t l = slice_index_or t.parts l (0, [])

-- By how much Lblock grows before the length of so many passes: the least that makes room for it
-- (B.10.7.1).
unfoldable pub least_growth : (lblock passes size : ℕ) → ℕ
least_growth lblock passes size = bit_length size - (lblock + floor_log2 passes)

-- Lblock before layer l: 3 at first, and more by the growths in the layers that have passes of the
-- block
unfoldable pub lblock_at : Table → ℕ → ℕ
lblock_at t zero = 3
lblock_at t (suc l) = lblock_at t l
    + (if (part_in t l).0 == 0 then 0 else least_growth (lblock_at t l) (part_in t l).0 (length (part_in t l).1))

-- the piece that layer l adds, where it has passes
abbrev pub piece_in : Table → ℕ → Addition
piece_in t l = record {
  passes = (part_in t l).0;
  growth = least_growth (lblock_at t l) (part_in t l).0 (length (part_in t l).1);
  length = length (part_in t l).1;
}

-- what the packet of layer l has of the block
unfoldable pub contribution_in : Table → ℕ → Option PacketContribution
contribution_in t l = if (part_in t l).0 == 0 then None
    else Some record { zero_planes = t.zero_planes; piece = piece_in t l }

-- the first layer that has passes of the block, or the number of layers where none has
abbrev pub first_in : List (ℕ × List ℕ) → ℕ
first_in [] = 0
first_in (p ∷ parts) = if p.0 == 0 then 1 + first_in parts else 0

-- the tables of sub-band i, in raster order, and block j of them
abbrev pub band_tables : List (List Table) → ℕ → List Table
band_tables tables i = slice_index_or tables i []

abbrev pub table_at : List Table → ℕ → Table
table_at ts j = slice_index_or ts j record { zero_planes = 0; parts = [] }

-- layer l has passes of the block, and of any block
abbrev pub has_passes : ℕ → Table → Bool
has_passes l t = not ((part_in t l).0 == 0)

abbrev pub is_full : List (List Table) → ℕ → Bool
is_full tables l = list_any (list_any (has_passes l)) tables

-- what layer l has of a sub-band
abbrev pub band_layer : List Table → ℕ → List (Option PacketContribution)
band_layer ts l = map (λ t. contribution_in t l) ts

-- What layer l has of the precinct: nothing where it has no passes of any block, so that its packet
-- is empty (B.10.3).
unfoldable pub layer_in : List (List Table) → ℕ → Layer
layer_in tables l = if is_full tables l then Some (map (λ ts. band_layer ts l) tables) else None

-- the layers before l
abbrev pub layers_before : List (List Table) → ℕ → List Layer
layers_before tables l = map (layer_in tables) (range_with_len 0 l)

-- The tag trees of a sub-band: of the first layers that include the blocks, and of their zero
-- bit-planes (B.10.4, B.10.5).
abbrev pub band_trees : BandShape → List Table → BandTrees
band_trees b ts =
    record {
      inclusion = written (leaves b) (map (λ t. first_in t.parts) ts);
      zeros = written (leaves b) (map (λ t. t.zero_planes) ts);
    }

abbrev pub trees_in : List BandShape → List (List Table) → Trees
trees_in shapes tables = λ i. band_trees (band_shape shapes i) (band_tables tables i)

-- what the header of layer l's packet has of the sub-bands, where it isn't empty
unfoldable pub full_bits : List BandShape → List (List Table) → ℕ → List Bool
full_bits shapes tables l =
    bands_bits shapes (trees_in shapes tables) (layers_before tables l) 0 (map (λ ts. band_layer ts l) tables)

-- the bits of the header of layer l's packet
unfoldable pub bits_in : List BandShape → List (List Table) → ℕ → List Bool
bits_in shapes tables l = header_bits shapes (trees_in shapes tables) (layers_before tables l) (layer_in tables l)

-- The header of layer l's packet, which is packet `number` of its tile, counted from 0: SOP counts
-- to 2^16 (A.8.1).
unfoldable pub header_in : List BandShape → (sop eph : Bool) → List (List Table) → (l number : ℕ) → List ℕ
header_in shapes sop eph tables l number = sop_text sop (number % 65536)
    ++ (stuffed (bits_in shapes tables l) ++ eph_text eph)

-- what follows the header: the bytes of the blocks, sub-band by sub-band
unfoldable pub bodies_text : List (List Table) → ℕ → List ℕ
bodies_text tables l = flat_map (λ ts. flat_map (λ t. (part_in t l).1) ts) tables

-- the packet of layer l
abbrev pub packet_in : List BandShape → (sop eph : Bool) → List (List Table) → (l number : ℕ) → List ℕ
packet_in shapes sop eph tables l number = header_in shapes sop eph tables l number ++ bodies_text tables l

-- what layer l has of block j of sub-band i: the part of the header, and the bytes
abbrev pub body_in : (i j l : ℕ) → Table → List (BlockContribution × List ℕ)
body_in i j l t = map (λ c. (part_of i j c.zero_planes c.piece, (part_in t l).1)) (option_list (contribution_in t l))

-- the same of the blocks of sub-band i, the first of which is the j-th, and of sub-bands, the first
-- of which is the i-th
unfoldable pub band_bodies : (i j l : ℕ) → List Table → List (BlockContribution × List ℕ)
band_bodies i j l [] = []
band_bodies i j l (t ∷ ts) = body_in i j l t ++ band_bodies i (j + 1) l ts

unfoldable pub bands_bodies : (i l : ℕ) → List (List Table) → List (BlockContribution × List ℕ)
bands_bodies i l [] = []
bands_bodies i l (ts ∷ tables) = band_bodies i 0 l ts ++ bands_bodies (i + 1) l tables

-- the bodies of layer l's packet
abbrev pub bodies_in : List (List Table) → ℕ → List (BlockContribution × List ℕ)
bodies_in tables l = bands_bodies 0 l tables

-- What packets have of a block is all that its table has: the coding passes and the bytes, each
-- part with its zero bit-planes.
pub record HasBlock (t : Table) (bodies : List (BlockContribution × List ℕ)) : Type 0 where
  pub zeros : AllByRecursion (λ b. b.0.zero_planes ≡ t.zero_planes) bodies
  pub passes : sum_by (λ b. b.0.passes) bodies ≡ sum_by (λ p. p.0) t.parts
  pub bytes : flat_map (λ b. b.1) bodies ≡ flat_map (λ p. p.1) t.parts

-- the bodies of block j of sub-band i
abbrev pub bodies_of : (i j : ℕ) → List (BlockContribution × List ℕ) → List (BlockContribution × List ℕ)
bodies_of i j bodies = filter (λ b. (b.0.band == i) && (b.0.block == j)) bodies

-- The table of a block of so many bit-planes, for so many layers. A layer adds no more passes than
-- a header can tell, and no byte without a pass; the passes are no more than the bit-planes have,
-- and the bytes so few that each length can be told.
pub record IsTable (layers planes : ℕ) (t : Table) : Type 0 where
  pub long : length t.parts ≡ layers
  pub zeros : t.zero_planes ≤ planes
  pub few : (l : ℕ) → l < layers → (part_in t l).0 ≤ 164
  pub bare : (l : ℕ) → l < layers → (part_in t l).0 ≡ 0 → (part_in t l).1 ≡ []
  pub passes : sum_by (λ p. p.0) t.parts ≤ most_passes planes t.zero_planes
  pub size : sum_by (λ p. length p.1) t.parts < 2 ^ 25

-- The tables of the blocks of a sub-band.
pub record AreBandTables (b : BandShape) (layers : ℕ) (ts : List Table) : Type 0 where
  pub long : length ts ≡ b.across * b.down
  pub planes : b.planes < 2 ^ 8
  pub each : (j : ℕ) → j < b.across * b.down → IsTable layers b.planes (table_at ts j)

-- The tables of the blocks of a precinct.
pub record AreTables (shapes : List BandShape) (layers : ℕ) (tables : List (List Table)) : Type 0 where
  pub long : length tables ≡ length shapes
  pub few : layers < 2 ^ 16
  pub each : (i : ℕ) → i < length shapes → AreBandTables (band_shape shapes i) layers (band_tables tables i)

-- the parts of a block's bytes that end at these places, the first of which begins at `from`
abbrev pub cut_parts : (from : ℕ) → List LayerPart → List ℕ → List (ℕ × List ℕ)
cut_parts from [] bytes = []
cut_parts from (p ∷ parts) bytes = (p.passes, take (p.end - from) (drop from bytes)) ∷ cut_parts p.end parts bytes

-- the places don't fall, and lie within so many bytes
abbrev pub AreEnds : (from : ℕ) → List LayerPart → (size : ℕ) → Type 0
AreEnds from [] size = Unit {0}
AreEnds from (p ∷ parts) size = (from ≤ p.end) × (p.end ≤ size) × AreEnds p.end parts size

-- a table whose first layers have nothing of the block
abbrev pub table_of : (zero_planes skipped : ℕ) → List LayerPart → List ℕ → Table
table_of zero_planes skipped parts bytes =
    record { zero_planes = zero_planes; parts = replicate skipped (0, []) ++ cut_parts 0 parts bytes }

-- how many blocks sub-bands have
abbrev pub block_count : List BandShape → ℕ
block_count shapes = sum_by (λ b. b.across * b.down) shapes

-- tables that stand one behind another, sub-band by sub-band
abbrev pub banded : List BandShape → List Table → List (List Table)
banded [] tables = []
banded (b ∷ shapes) tables = take (b.across * b.down) tables ∷ banded shapes (drop (b.across * b.down) tables)

-- A precinct that is written: its sub-bands and markers, its tables for so many layers, how many of
-- these are written, and whether memory was refused.
pub record PrecinctTables : Type 0 where
  pub shapes : List BandShape
  pub sop : Bool
  pub eph : Bool
  pub layers : ℕ
  pub tables : List (List Table)
  pub written : ℕ
  pub failed : Bool
