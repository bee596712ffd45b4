-- Which layers a precinct has told.
use Rattle.std.specs.Prelude.{◌≡◌, ℕ, ◌*◌, ◌<◌, ◌≤◌, Bool, List, [], ◌∷◌, ◌++◌, length, take, slice_index_or, Option}
use Rattle.std.specs.Prelude.{None}
use Rattle.jk_tree.specs.TagTree.{IsTree}
use Rattle.jk_tree.specs.Asking.{IsOpen, AreTold}
use Rattle.jk_packet.specs.declared.shape.BandShape.{BandShape}
use Rattle.jk_packet.specs.declared.block.Block.{Block}
use Rattle.jk_packet.specs.Reading.{BandState, HeaderText, PrecinctState, block_in, band_in}
use Rattle.jk_packet.specs.PacketText.{PacketContribution, BandLayer, option_list, contributions, has_any, zeros_of}
use Rattle.jk_packet.specs.PacketText.{passes_of, lblock_of, asks_inclusion, asks_zeros, queries_before, BandTrees}
use Rattle.jk_packet.specs.PacketText.{Layer, band_layers, Trees, band_shape, leaves, header_bits, IsLayer}
use Rattle.jk_packet.specs.PacketText.{IsHeaderText, parts_of}

-- a block with these contributions
abbrev pub block_of : List PacketContribution → Block
block_of cs =
    record { included = has_any cs; zero_planes = zeros_of cs; passes = passes_of cs; length_bits = lblock_of cs }

-- the contributions to a block, with that of the packet in hand
abbrev pub so_far : List BandLayer → List (Option PacketContribution) → ℕ → List PacketContribution
so_far layers front j = contributions layers j ++ option_list (slice_index_or front j None)

-- The blocks of a sub-band after the layers, and after the first blocks of the packet in hand.
pub record HoldsBlocks (b : BandShape) (layers : List BandLayer) (front : List (Option PacketContribution))
    (state : BandState) : Type 0 where
  pub shape : state.shape ≡ leaves b
  pub planes : state.planes ≡ b.planes
  pub long : length state.blocks ≡ b.across * b.down
  pub blocks : (j : ℕ) → j < b.across * b.down → block_in state.blocks j ≡ block_of (so_far layers front j)
  pub inclusion : IsOpen (leaves b) state.inclusion
  pub zeros : IsOpen (leaves b) state.zeros

-- The same with trees, which would have told all that was read.
pub record BandStands (b : BandShape) (t : BandTrees) (layers : List BandLayer) (front : List (Option PacketContribution))
    (state : BandState) : Type 0 where
  pub holds : HoldsBlocks b layers front state
  pub inclusion : AreTold (leaves b) t.inclusion (queries_before asks_inclusion layers front) state.inclusion.nodes
  pub zeros : AreTold (leaves b) t.zeros (queries_before asks_zeros layers front) state.zeros.nodes

-- trees for each sub-band
abbrev pub AreTrees : List BandShape → Trees → Type 0
AreTrees shapes trees = (number : ℕ) → number < length shapes
    → IsTree (leaves (band_shape shapes number)) (trees number).inclusion
    × IsTree (leaves (band_shape shapes number)) (trees number).zeros

-- The precinct is what these layers leave it, told by these trees.
pub record PrecinctStands (shapes : List BandShape) (trees : Trees) (layers : List Layer)
    (s : PrecinctState) : Type 0 where
  pub count : length s.bands ≡ length shapes
  pub read : s.layers ≡ length layers
  pub sound : s.failed ≡ None
  pub bands : (number : ℕ) → number < length shapes
      → BandStands (band_shape shapes number) (trees number) (band_layers number layers) [] (band_in s.bands number)

-- The trees tell these layers by these bits.
abbrev pub TellsLayers : List BandShape → Trees → List Layer → List (List Bool) → Type 0
TellsLayers shapes trees layers bits = (length bits ≡ length layers)
    × ((i : ℕ) → i < length layers
    → (slice_index_or bits i [] ≡ header_bits shapes trees (take i layers) (slice_index_or layers i None))
    × IsLayer shapes trees (take i layers) (slice_index_or layers i None))

-- The precinct has read these layers from headers of these bits: some trees tell them, and the
-- trees that stand are exactly those that do.
pub record PrecinctReached (shapes : List BandShape) (layers : List Layer) (bits : List (List Bool))
    (s : PrecinctState) : Type 0 where
  pub some : (trees : Trees) × AreTrees shapes trees × TellsLayers shapes trees layers bits
  pub stand : (trees : Trees) → AreTrees shapes trees → TellsLayers shapes trees layers bits
      → PrecinctStands shapes trees layers s
  pub told : (trees : Trees) → PrecinctStands shapes trees layers s
      → AreTrees shapes trees × TellsLayers shapes trees layers bits

-- The header that stands at the front of the bytes, of a layer behind others: its bits, its text,
-- its parts, and the precinct after it.
pub record ReadsLayer (shapes : List BandShape) (layers : List Layer) (bits : List (List Bool))
    (old new : PrecinctState) (bytes : List ℕ) (header : HeaderText) : Type 0 where
  pub layer : Layer
  pub header_bits : List Bool
  pub within : header.length ≤ length bytes
  pub text : IsHeaderText old.sop old.eph header_bits (take header.length bytes)
  pub parts : header.parts ≡ parts_of layer
  pub reached : PrecinctReached shapes (layers ++ layer ∷ []) (bits ++ header_bits ∷ []) new

-- A header is read: its length, its parts, and the precinct after it.
pub record IsRead (shapes : List BandShape) (trees : Trees) (layers : List Layer) (layer : Layer) (text : List ℕ)
    (new : PrecinctState) (header : HeaderText) : Type 0 where
  pub size : header.length ≡ length text
  pub parts : header.parts ≡ parts_of layer
  pub stands : PrecinctStands shapes trees (layers ++ layer ∷ []) new
