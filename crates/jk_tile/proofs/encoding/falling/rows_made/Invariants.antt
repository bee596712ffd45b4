use Rattle.std.proofs.Common.{◌≡◌, ◌^◌, ◌<◌}
use Rattle.jk_wave.specs.falling.Intervals.{rows_given}
use Rattle.jk_tile.proofs.encoding.falling.rows_made.Given as goal

abbrev pub invariant-loop-n : goal.invariant-loop-n
invariant-loop-n l = record {
  at : l.t ≡ rows_given l.source.rect l.source.coding.levels l.e l.n;
  small : l.t < 2 ^ 31;
}
