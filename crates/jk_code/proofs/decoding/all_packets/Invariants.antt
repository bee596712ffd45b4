use Rattle.std.proofs.Common.{◌≡◌}
use Rattle.jk_code.specs.MeaningReading.{packets_tested}
use Rattle.jk_code.specs.Tiles.{AreRead}
use Rattle.jk_marks.specs.Siz.{tile_count}
use Rattle.jk_tile.proofs.Laws.{fine}
use Rattle.jk_code.proofs.decoding.all_packets.Given as goal

abbrev pub invariant-loop-number : goal.invariant-loop-number
invariant-loop-number l = record {
  end_is : l.number-end ≡ tile_count l.headers.siz;
  tested : packets_tested l.bytes l.headers l.number ≡ fine;
  read : AreRead l.bytes l.headers l.number l.all.items;
}
