use Rattle.std.proofs.Common.{◌≡◌}
use Rattle.jk_marks.specs.Siz.{tile_count}
use Rattle.jk_tile.proofs.Laws.{fine}
use Rattle.jk_code.specs.Tiles.{AreSeen}
use Rattle.jk_code.specs.ViewReading.{seen_packets_tested}
use Rattle.jk_code.proofs.viewing.seen_packets.Given as goal

abbrev pub invariant-loop-number : goal.invariant-loop-number
invariant-loop-number l = record {
  end_is : l.number-end ≡ tile_count l.headers.siz;
  tested : seen_packets_tested l.bytes l.headers l.reduce l.window l.number ≡ fine;
  read : AreSeen l.bytes l.headers l.reduce l.window l.number l.all.items;
}
