use Rattle.std.proofs.Common.{◌-◌}
use Rattle.std.specs.Int.{trailing_zeros, w64}
use Rattle.std.specs.Int.RustNames.{bit_or}
use Rattle.jk_block.specs.decoding.BlockStates.{draft_of}
use Rattle.jk_block.proofs.decoding.Cleaning.{Cleaning}
use Rattle.jk_block.proofs.decoding.words.read_cleanup.Given as goal

abbrev pub invariant-places : goal.invariant-places
invariant-places l = Cleaning l.spot (draft_of l.block_state) l.fn.decoder l.decoder l.sight l.left l.still

abbrev pub decreases-places : goal.decreases-places
decreases-places l = 64 - trailing_zeros w64 (bit_or l.left l.still)
