use Rattle.std.proofs.Common.{◌-◌}
use Rattle.std.specs.Int.{trailing_zeros, w64}
use Rattle.jk_block.specs.decoding.BlockStates.{draft_of}
use Rattle.jk_block.proofs.decoding.Refining.{Refining}
use Rattle.jk_block.proofs.decoding.words.read_refinement.Given as goal

abbrev pub invariant-loop-candidates : goal.invariant-loop-candidates
invariant-loop-candidates l = Refining l.spot l.refined (draft_of l.block_state) l.fn.decoder l.decoder l.touched l.places l.candidates l.ones

abbrev pub decreases-loop-candidates : goal.decreases-loop-candidates
decreases-loop-candidates l = 64 - trailing_zeros w64 l.candidates
