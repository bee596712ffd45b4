use Rattle.std.proofs.Common.{◌+◌}
use Rattle.jk_block.proofs.decoding.Eights.{HasBitsTo}
use Rattle.jk_block.proofs.decoding.coefficients.row_bytes.Given as goal

abbrev pub invariant-loop-i : goal.invariant-loop-i
invariant-loop-i l = HasBitsTo l.block_state l.at l.k (l.first + l.count) l.i l.bytes
