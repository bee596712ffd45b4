use Rattle.std.proofs.Common.{◌-ℤ◌}
use Rattle.jk_math.specs.Signed.{signed_at}
use Rattle.jk_tile.specs.Samples.{shift}
use Rattle.jk_tile.proofs.encoding.WrittenRows.{IsWrittenUpto}
use Rattle.jk_tile.proofs.encoding.values.put_transformed.Given as goal

abbrev pub invariant-loop-k : goal.invariant-loop-k
invariant-loop-k g l = IsWrittenUpto
    (λ j. g.T.Transformed.formula (signed_at l.first j -ℤ shift l.depth l.signed) (signed_at l.second j -ℤ shift l.depth l.signed) (signed_at l.third j -ℤ shift l.depth l.signed)) l.k l.row
