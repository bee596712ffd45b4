use Rattle.std.proofs.Common.{◌-ℤ◌}
use Rattle.jk_math.specs.Signed.{signed_at}
use Rattle.jk_tile.specs.Samples.{shift}
use Rattle.jk_tile.proofs.encoding.WrittenRows.{IsWrittenUpto}
use Rattle.jk_tile.proofs.encoding.values.put_lowered.Given as goal

abbrev pub invariant-loop-k : goal.invariant-loop-k
invariant-loop-k l = IsWrittenUpto (λ j. signed_at l.samples j -ℤ shift l.depth l.signed) l.k l.row
