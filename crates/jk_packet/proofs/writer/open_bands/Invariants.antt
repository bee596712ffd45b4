use Rattle.std.proofs.Common.{◌≡◌, ◌≤◌, length, take}
use Rattle.jk_packet.specs.Shapes.{bands_of}
use Rattle.jk_packet.specs.Written.{block_count, banded}
use Rattle.jk_packet.proofs.PrecinctWriting.{BandsOpen}
use Rattle.jk_packet.proofs.writer.open_bands.Given as goal

abbrev pub invariant-loop-number : goal.invariant-loop-number
invariant-loop-number l = record {
  end_is : l.number-end ≡ length (bands_of l.shape);
  within : l.number ≤ l.number-end;
  place : l.at ≡ block_count (take l.number (bands_of l.shape));
  made : BandsOpen (bands_of l.shape) (banded (bands_of l.shape) l.tables) l.number l.bands.items;
}
