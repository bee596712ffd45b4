-- Coded code-blocks cut into layers before the bit-planes of their sub-band are known.
use Rattle.std.specs.Prelude.{ℕ, ◌-◌, List}
use Rattle.jk_packet.specs.declared.table.LayerPart.{LayerPart}
use Rattle.jk_packet.specs.Written.{Table, table_of}
use Rattle.jk_block.specs.BlockWritten.{Coded}
use Rattle.jk_tile.specs.encoding.PacketsWritten.{parts_for}

-- the block's own bit-planes, what each layer has of it, and its bytes
pub record Layered : Type 0 where
  pub planes : ℕ
  pub parts : List LayerPart
  pub bytes : List ℕ

-- those of a coded block
abbrev pub layered : (layers : ℕ) → Coded → Layered
layered layers k = record { planes = k.planes; parts = parts_for layers k; bytes = k.bytes }

-- what is written of it in a sub-band of so many bit-planes: those above its own are zero
abbrev pub table_with : (planes : ℕ) → Layered → Table
table_with planes b = table_of (planes - b.planes) 0 b.parts b.bytes
