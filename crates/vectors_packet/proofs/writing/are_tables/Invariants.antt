use Rattle.std.proofs.Common.{◌≡◌, ℕ, ◌<◌, ◌≤◌, length, take}
use Rattle.jk_packet.specs.Shapes.{bands_of}
use Rattle.jk_packet.specs.PacketText.{band_shape}
use Rattle.jk_packet.specs.Written.{AreBandTables, band_tables, block_count, banded}
use Rattle.vectors_packet.proofs.writing.are_tables.Given as goal

abbrev pub invariant-loop-number : goal.invariant-loop-number
invariant-loop-number l = record {
  end_is : l.number-end ≡ length (bands_of l.shape);
  within : l.number ≤ l.number-end;
  place : l.at ≡ block_count (take l.number (bands_of l.shape));
  inside : l.at ≤ length l.tables;
  each : (i : ℕ) → i < l.number → AreBandTables (band_shape (bands_of l.shape) i) l.layers (band_tables (banded (bands_of l.shape) l.tables) i);
}
