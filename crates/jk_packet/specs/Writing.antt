-- A sub-band of a precinct that is written: its blocks and its trees, after layers and after blocks
-- of the packet in hand.
use Rattle.std.specs.Prelude.{◌≡◌, ℕ, zero, suc, ◌+◌, ◌*◌, ◌<◌, ◌≤◌, Bool, false, List, [], ◌++◌, length}
use Rattle.std.specs.Prelude.{slice_index_or, Option}
use Rattle.jk_tree.specs.Telling.{Speaks}
use Rattle.jk_packet.specs.declared.shape.BandShape.{BandShape}
use Rattle.jk_packet.specs.declared.table.LayerPart.{LayerPart}
use Rattle.jk_packet.specs.declared.writing.WriteBand.{WriteBand}
use Rattle.jk_packet.specs.declared.writing.WriteBlock.{WriteBlock}
use Rattle.jk_packet.specs.PacketText.{PacketContribution, BandLayer, option_list, contributions, asks_inclusion, asks_zeros}
use Rattle.jk_packet.specs.PacketText.{queries_before, band_layers, band_shape, leaves}
use Rattle.jk_packet.specs.Written.{Table, first_in, lblock_at, contribution_in, band_tables, table_at, band_trees}
use Rattle.jk_packet.specs.Written.{layers_before, AreTables}

-- where part k of a block's bytes ends, and where it begins
abbrev pub end_of : List LayerPart → ℕ → ℕ
end_of parts k = (slice_index_or parts k record { passes = 0; end = 0 }).end

abbrev pub begin_of : List LayerPart → ℕ → ℕ
begin_of parts zero = 0
begin_of parts (suc k) = end_of parts k

-- what the packets before layer l have of a block
unfoldable pub history : Table → ℕ → List PacketContribution
history t zero = []
history t (suc l) = history t l ++ option_list (contribution_in t l)

-- a block before layer l
abbrev pub state_of : Table → ℕ → WriteBlock
state_of t l = record { first = first_in t.parts; length_bits = lblock_at t l }

abbrev pub state_at : List WriteBlock → ℕ → WriteBlock
state_at blocks j = slice_index_or blocks j record { first = 0; length_bits = 3 }

-- Layer l is told of the blocks before `front`, and of the others the layers before l.
pub record IsReady (b : BandShape) (ts : List Table) (l front : ℕ) (w : WriteBand) : Type 0 where
  pub inclusion : w.inclusion.shape ≡ leaves b
  pub inclusion_sound : w.inclusion.failed ≡ false
  pub zeros : w.zeros.shape ≡ leaves b
  pub zeros_sound : w.zeros.failed ≡ false
  pub long : length w.blocks.items ≡ b.across * b.down
  pub told : (j : ℕ) → j < front → state_at w.blocks.items j ≡ state_of (table_at ts j) (l + 1)
  pub waiting : (j : ℕ) → front ≤ j → j < b.across * b.down → state_at w.blocks.items j ≡ state_of (table_at ts j) l

-- The layers of a sub-band have what the tables have before layer l.
pub record Follow (ts : List Table) (l : ℕ) (layers : List BandLayer) : Type 0 where
  pub count : length layers ≡ l
  pub each : (j : ℕ) → j < length ts → contributions layers j ≡ history (table_at ts j) l

-- The trees have told the layers, and the first blocks of the packet in hand.
pub record TreesSpeak (b : BandShape) (ts : List Table) (layers : List BandLayer) (front : List (Option PacketContribution))
    (w : WriteBand) : Type 0 where
  pub inclusion : Speaks (leaves b) (band_trees b ts).inclusion
      (queries_before asks_inclusion layers front) w.inclusion.nodes
  pub zeros : Speaks (leaves b) (band_trees b ts).zeros (queries_before asks_zeros layers front) w.zeros.nodes

-- every sub-band, between two packets
pub record BandsStand (shapes : List BandShape) (tables : List (List Table)) (written : ℕ)
    (bands : List WriteBand) : Type 0 where
  pub count : length bands ≡ length shapes
  pub ready : (i : ℕ) (d : WriteBand) → i < length shapes
      → IsReady (band_shape shapes i) (band_tables tables i) written 0 (slice_index_or bands i d)
  pub spoken : (i : ℕ) (d : WriteBand) → i < length shapes
      → TreesSpeak (band_shape shapes i) (band_tables tables i) (band_layers i (layers_before tables written)) []
      (slice_index_or bands i d)

-- what holds of the parts of a writer
pub record IsWriting (shapes : List BandShape) (layers : ℕ) (tables : List (List Table)) (written : ℕ) (failed : Bool)
    (bands : List WriteBand) : Type 0 where
  pub are : AreTables shapes layers tables
  pub within : written ≤ layers
  pub stands : failed ≡ false → BandsStand shapes tables written bands
