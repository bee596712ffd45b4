use Rattle.std.proofs.Common.{◌≡◌}
use Rattle.jk_marks.specs.Siz.{tile_count}
use Rattle.jk_tile.proofs.Laws.{fine}
use Rattle.jk_code.specs.MeaningReading.{tiles_tested}
use Rattle.jk_code.proofs.rows.judge.Given as goal

abbrev pub invariant-loop-number : goal.invariant-loop-number
invariant-loop-number l = record {
  end_is : l.number-end ≡ tile_count l.coded.headers.siz;
  tested : tiles_tested l.coded.bytes l.coded.headers l.coded.reduce l.number ≡ fine;
}
