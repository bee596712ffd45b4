use Rattle.std.proofs.Common.{◌-◌}
use Rattle.std.specs.Int.{trailing_zeros, w64}
use Rattle.jk_block.specs.decoding.BlockStates.{draft_of}
use Rattle.jk_block.proofs.decoding.Spreading.{Spreading}
use Rattle.jk_block.proofs.decoding.words.read_propagation.Given as goal

abbrev pub invariant-loop-candidates : goal.invariant-loop-candidates
invariant-loop-candidates l = Spreading l.spot (draft_of l.block_state) l.fn.decoder l.decoder l.sight l.limits l.candidates l.visited

abbrev pub decreases-loop-candidates : goal.decreases-loop-candidates
decreases-loop-candidates l = 64 - trailing_zeros w64 l.candidates
