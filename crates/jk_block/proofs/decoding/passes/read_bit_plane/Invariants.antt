use Rattle.std.proofs.Common.{◌≡◌}
use Rattle.jk_block.proofs.decoding.Taking.{Taken}
use Rattle.jk_block.specs.Reading.{stripe_at}
use Rattle.jk_block.specs.Steps.{number_of}
use Rattle.jk_block.specs.decoding.BlockStates.{IsFresh, draft_of}
use Rattle.jk_block.proofs.decoding.passes.read_bit_plane.Given as goal

abbrev pub invariant-loop-stripe : goal.invariant-loop-stripe
invariant-loop-stripe l =
    Taken (λ bytes s i z. stripe_at bytes s l.plane (number_of l.pass) i z) l.stripe (draft_of l.fn.block_state) (draft_of l.block_state) l.fn.decoder l.decoder
    × (number_of l.pass ≡ 1 → IsFresh l.plane l.refined (draft_of l.block_state)) × (l.block_state.planes ≡ l.fn.block_state.planes)
