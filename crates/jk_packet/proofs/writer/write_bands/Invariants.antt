use Rattle.std.proofs.Common.{◌≡◌, ◌≤◌, ◌++◌, length, take}
use Rattle.jk_packet.specs.Shapes.{bands_of}
use Rattle.jk_packet.specs.Written.{block_count, banded, full_bits}
use Rattle.jk_packet.proofs.PrecinctWriting.{BandsHalf, rest_bits}
use Rattle.jk_packet.proofs.writer.write_bands.Given as goal

abbrev pub invariant-loop-number : goal.invariant-loop-number
invariant-loop-number l =
    let shapes = bands_of l.shape in
    let tables = banded (bands_of l.shape) l.tables in
    record {
      end_is : l.number-end ≡ length (bands_of l.shape);
      within : l.number ≤ l.number-end;
      place : l.at ≡ block_count (take l.number (bands_of l.shape));
      half : BandsHalf shapes tables l.layer l.number l.bands.items;
      sound : l.writer.failed ≡ l.fn.writer.failed;
      told : l.writer.bits ++ rest_bits shapes tables l.layer l.number ≡ l.fn.writer.bits ++ full_bits shapes tables l.layer;
    }
