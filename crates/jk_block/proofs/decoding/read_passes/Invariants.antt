use Rattle.std.proofs.Common.{◌≡◌}
use Rattle.jk_block.proofs.decoding.Aging.{Aged, plane_before}
use Rattle.jk_block.proofs.decoding.Taking.{Taken}
use Rattle.jk_block.specs.Ages.{HasRoom}
use Rattle.jk_block.specs.Reading.{pass_at}
use Rattle.jk_block.specs.decoding.BlockStates.{draft_of}
use Rattle.jk_block.proofs.decoding.read_passes.Given as goal

abbrev pub invariant-loop-n : goal.invariant-loop-n
invariant-loop-n l =
    Taken (λ bytes s n z. pass_at bytes s l.planes n z) l.n (draft_of l.fn.block_state) (draft_of l.block_state) l.fn.decoder l.decoder
    × Aged l.block_state.shape (draft_of l.block_state).magnitude (plane_before l.planes l.n) l.ages.refined l.ages.older
    × (l.planes ≡ l.block_state.planes)
    × HasRoom l.block_state.shape l.ages
