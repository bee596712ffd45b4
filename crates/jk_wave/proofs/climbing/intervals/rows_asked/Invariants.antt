use Rattle.std.proofs.Common.{◌≡◌, ◌^◌, ◌<◌}
use Rattle.jk_wave.specs.climbing.Intervals.{rows_asked}
use Rattle.jk_wave.proofs.climbing.intervals.rows_asked.Given as goal

abbrev pub invariant-loop-below : goal.invariant-loop-below
invariant-loop-below l = (l.end ≡ rows_asked l.rect l.levels l.top l.e l.below) × (l.end < 2 ^ 31)
