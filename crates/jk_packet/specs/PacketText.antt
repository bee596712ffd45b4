-- What the packet headers of a precinct say, and the bits that say it (T.800 B.9, B.10).
use Rattle.std.specs.Prelude.{◌≡◌, ℕ, ◌+◌, ◌*◌, ◌≤◌, Bool, true, false, nat_lt, if◌then◌else◌, List, [], ◌∷◌, ◌++◌}
use Rattle.std.specs.Prelude.{length, map, take, sum_by, slice_index_or, Option, Some, None, is_some, IfSome, ◌⊎◌}
use Rattle.std.specs.List.{flat_map, range_with_len}
use Rattle.jk_bits.specs.Stuffing.{Packs}
use Rattle.jk_tree.specs.TagTree.{Shape, shape_of, Values, Query, query_of, leaf_of, told}
use Rattle.jk_packet.specs.declared.shape.BandShape.{BandShape}
use Rattle.jk_packet.specs.declared.header.BlockContribution.{BlockContribution}
use Rattle.jk_packet.specs.declared.words.Addition.{Addition}
use Rattle.jk_packet.specs.Words.{piece_bits, IsAddition, most_passes}
use Rattle.jk_packet.specs.Reading.{part_of}

-- What a packet has of a code-block: the block's number of zero bit-planes, and the piece that the
-- packet adds.
pub record PacketContribution : Type 0 where
  pub zero_planes : ℕ
  pub piece : Addition

-- What a packet has of a sub-band: nothing where it is empty, and else a contribution or none for
-- each block, in raster order.
abbrev pub BandLayer : Type 0
BandLayer = Option (List (Option PacketContribution))

-- of one block
abbrev pub given : BandLayer → ℕ → Option PacketContribution
given None i = None
given (Some blocks) i = slice_index_or blocks i None

abbrev pub option_list : {A : Type 0} → Option A → List A
option_list None = []
option_list (Some x) = x ∷ []

-- the contributions to a block, layer by layer
unfoldable pub contributions : List BandLayer → ℕ → List PacketContribution
contributions [] i = []
contributions (layer ∷ layers) i = option_list (given layer i) ++ contributions layers i

-- a block with these contributions is included
abbrev pub has_any : List PacketContribution → Bool
has_any [] = false
has_any (c ∷ cs) = true

abbrev pub is_included : List BandLayer → ℕ → Bool
is_included layers i = has_any (contributions layers i)

-- the zero bit-planes, which the first contribution tells
abbrev pub zeros_of : List PacketContribution → ℕ
zeros_of [] = 0
zeros_of (c ∷ cs) = c.zero_planes

abbrev pub passes_of : List PacketContribution → ℕ
passes_of cs = sum_by (λ c. c.piece.passes) cs

-- Lblock is 3 at first, and grows (B.10.7.1)
abbrev pub lblock_of : List PacketContribution → ℕ
lblock_of cs = 3 + sum_by (λ c. c.piece.growth) cs

-- the queries for the blocks of a packet, the first of which is the i-th
unfoldable pub queries_in : (ℕ → Option PacketContribution → List Query) → ℕ → List (Option PacketContribution) → List Query
queries_in ask i [] = []
queries_in ask i (c ∷ cs) = ask i c ++ queries_in ask (i + 1) cs

-- the queries of a packet; an empty one has none
abbrev pub queries_at : (ℕ → Option PacketContribution → List Query) → BandLayer → List Query
queries_at ask None = []
queries_at ask (Some cs) = queries_in ask 0 cs

-- the queries of layers, where `ask` tells those for a block once the layers before are known
unfoldable pub queries_of : (List BandLayer → ℕ → Option PacketContribution → List Query) → List BandLayer → List BandLayer
    → List Query
queries_of ask before [] = []
queries_of ask before (layer ∷ layers) = queries_at (ask before) layer ++ queries_of ask (before ++ layer ∷ []) layers

-- The inclusion tree is asked for each block that no packet before included, whether its value is
-- at most the layer (B.10.4).
abbrev pub asks_inclusion : List BandLayer → ℕ → Option PacketContribution → List Query
asks_inclusion before i c = if is_included before i then [] else query_of i (length before + 1) ∷ []

-- The tree of zero bit-planes is asked for each block with its first contribution, up to its value
-- (B.10.5).
abbrev pub asks_zeros : List BandLayer → ℕ → Option PacketContribution → List Query
asks_zeros before i None = []
asks_zeros before i (Some c) = if is_included before i then [] else query_of i (c.zero_planes + 1) ∷ []

-- all queries before a block of the packet behind the layers, where the blocks before it have these
-- contributions
abbrev pub queries_before : (List BandLayer → ℕ → Option PacketContribution → List Query) → List BandLayer
    → List (Option PacketContribution) → List Query
queries_before ask layers before = queries_of ask [] layers ++ queries_in (ask layers) 0 before

-- The two tag trees of a sub-band in a precinct.
pub record BandTrees : Type 0 where
  pub inclusion : Values
  pub zeros : Values

-- whether block i has a contribution: a bit, or the inclusion tree (B.10.4)
unfoldable pub inclusion_bits : Shape → Values → List BandLayer → (before : List (Option PacketContribution)) → ℕ → Bool
    → List Bool
inclusion_bits s v layers before i taken =
    if is_included layers i then taken ∷ []
    else told s v (queries_before asks_inclusion layers before) (query_of i (length layers + 1))

-- the zero bit-planes of block i, with its first contribution (B.10.5)
unfoldable pub zeros_bits : Shape → Values → List BandLayer → (before : List (Option PacketContribution)) → ℕ → ℕ → List Bool
zeros_bits s v layers before i zero_planes =
    if is_included layers i then []
    else told s v (queries_before asks_zeros layers before) (query_of i (zero_planes + 1))

-- what follows for a block that has a contribution
abbrev pub taken_bits : Shape → Values → List BandLayer → (before : List (Option PacketContribution)) → ℕ
    → Option PacketContribution → List Bool
taken_bits s v layers before i None = []
taken_bits s v layers before i (Some c) = zeros_bits s v layers before i c.zero_planes
    ++ piece_bits (lblock_of (contributions layers i)) c.piece

-- the bits of block i
abbrev pub block_bits : Shape → BandTrees → List BandLayer → (before : List (Option PacketContribution)) → ℕ
    → Option PacketContribution → List Bool
block_bits s t layers before i c = inclusion_bits s t.inclusion layers before i (is_some c)
    ++ taken_bits s t.zeros layers before i c

-- the bits of a sub-band, block by block
unfoldable pub band_bits : Shape → BandTrees → List BandLayer → List (Option PacketContribution) → List Bool
band_bits s t layers blocks =
    flat_map (λ i. block_bits s t layers (take i blocks) i (slice_index_or blocks i None))
    (range_with_len 0 (length blocks))

-- A contribution to block i behind the layers.
pub record IsContribution (s : Shape) (planes : ℕ) (zeros : Values) (layers : List BandLayer) (i : ℕ)
    (c : PacketContribution) : Type 0 where
  pub first : is_included layers i ≡ false → (c.zero_planes ≡ leaf_of s zeros i) × (c.zero_planes ≤ planes)
  pub later : is_included layers i ≡ true → c.zero_planes ≡ zeros_of (contributions layers i)
  pub piece : IsAddition (lblock_of (contributions layers i)) c.piece
  pub kept : passes_of (contributions layers i) + c.piece.passes ≤ most_passes planes c.zero_planes

-- Block i behind the layers. It is first included in the first packet that isn't empty from its
-- leaf's value on.
pub record IsBlock (s : Shape) (planes : ℕ) (t : BandTrees) (layers : List BandLayer) (i : ℕ)
    (c : Option PacketContribution) : Type 0 where
  pub first : is_included layers i ≡ false → is_some c ≡ nat_lt (leaf_of s t.inclusion i) (length layers + 1)
  pub taken : IfSome c (IsContribution s planes t.zeros layers i)

-- the blocks from the i-th on
abbrev pub AreBlocks : Shape → ℕ → BandTrees → List BandLayer → ℕ → List (Option PacketContribution) → Type 0
AreBlocks s planes t layers i [] = Unit {0}
AreBlocks s planes t layers i (c ∷ cs) = IsBlock s planes t layers i c × AreBlocks s planes t layers (i + 1) cs

-- What a packet has of a precinct: nothing where it is empty, and else what it has of each
-- sub-band.
abbrev pub Layer : Type 0
Layer = Option (List (List (Option PacketContribution)))

abbrev pub of_band : ℕ → Layer → BandLayer
of_band number None = None
of_band number (Some bands) = Some (slice_index_or bands number [])

-- the layers of a sub-band
abbrev pub band_layers : ℕ → List Layer → List BandLayer
band_layers number layers = map (of_band number) layers

-- the trees of each sub-band
abbrev pub Trees : Type 0
Trees = ℕ → BandTrees

abbrev pub band_shape : List BandShape → ℕ → BandShape
band_shape shapes number = slice_index_or shapes number record { across = 0; down = 0; planes = 0 }

abbrev pub leaves : BandShape → Shape
leaves b = shape_of b.across b.down

-- the bits of the sub-bands, of which the first is that of a number
unfoldable pub bands_bits : List BandShape → Trees → List Layer → ℕ → List (List (Option PacketContribution)) → List Bool
bands_bits shapes trees layers number [] = []
bands_bits shapes trees layers number (cs ∷ bands) =
    band_bits (leaves (band_shape shapes number)) (trees number) (band_layers number layers) cs
    ++ bands_bits shapes trees layers (number + 1) bands

-- The bits of the header of the packet behind the layers: 0 for an empty packet, and 1 before what
-- it has of the sub-bands (B.10.3).
abbrev pub header_bits : List BandShape → Trees → List Layer → Layer → List Bool
header_bits shapes trees layers None = false ∷ []
header_bits shapes trees layers (Some bands) = true ∷ bands_bits shapes trees layers 0 bands

-- the sub-bands of a packet that isn't empty
abbrev pub ArePacketBands : List BandShape → Trees → List Layer → ℕ → List (List (Option PacketContribution)) → Type 0
ArePacketBands shapes trees layers number [] = Unit {0}
ArePacketBands shapes trees layers number (cs ∷ bands) =
    (length cs ≡ (band_shape shapes number).across * (band_shape shapes number).down)
    × AreBlocks (leaves (band_shape shapes number)) (band_shape shapes number).planes (trees number)
    (band_layers number layers) 0 cs
    × ArePacketBands shapes trees layers (number + 1) bands

-- A layer behind others.
abbrev pub IsLayer : List BandShape → Trees → List Layer → Layer → Type 0
IsLayer shapes trees layers None = Unit {0}
IsLayer shapes trees layers (Some bands) = (length bands ≡ length shapes) × ArePacketBands shapes trees layers 0 bands

-- what is told of the blocks of a sub-band, the first of which is the i-th
abbrev pub block_parts : (number i : ℕ) → Option PacketContribution → List BlockContribution
block_parts number i None = []
block_parts number i (Some c) = part_of number i c.zero_planes c.piece ∷ []

unfoldable pub band_parts : (number i : ℕ) → List (Option PacketContribution) → List BlockContribution
band_parts number i [] = []
band_parts number i (c ∷ cs) = block_parts number i c ++ band_parts number (i + 1) cs

unfoldable pub bands_parts : ℕ → List (List (Option PacketContribution)) → List BlockContribution
bands_parts number [] = []
bands_parts number (cs ∷ bands) = band_parts number 0 cs ++ bands_parts (number + 1) bands

-- The parts of a layer, in the order in which their bodies stand.
abbrev pub parts_of : Layer → List BlockContribution
parts_of None = []
parts_of (Some bands) = bands_parts 0 bands

-- An SOP marker segment, or none (A.8.1): the marker, the length 4, and a counter that is free.
abbrev pub IsSop : Bool → List ℕ → Type 0
IsSop allowed sop = (sop ≡ [])
    ⊎ ((allowed ≡ true) × (high : ℕ) × (low : ℕ) × (sop ≡ 0xFF ∷ 0x91 ∷ 0x00 ∷ 0x04 ∷ high ∷ low ∷ []))

-- the EPH marker (A.8.2)
abbrev pub eph_text : Bool → List ℕ
eph_text true = 0xFF ∷ 0x92 ∷ []
eph_text false = []

-- The text of the header of a packet whose header has these bits.
pub record IsHeaderText (sop eph : Bool) (bits : List Bool) (text : List ℕ) : Type 0 where
  pub sop_text : List ℕ
  pub header : List ℕ
  pub is_sop : IsSop sop sop_text
  pub packs : Packs false bits header
  pub joins : text ≡ sop_text ++ (header ++ eph_text eph)
