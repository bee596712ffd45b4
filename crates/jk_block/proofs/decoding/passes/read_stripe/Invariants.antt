use Rattle.std.proofs.Common.{◌≡◌}
use Rattle.jk_block.proofs.decoding.Taking.{Taken}
use Rattle.jk_block.specs.decoding.BlockStates.{IsFresh, draft_of}
use Rattle.jk_block.specs.Steps.{word_pass, number_of}
use Rattle.jk_block.proofs.decoding.passes.read_stripe.Given as goal

abbrev pub invariant-loop-word : goal.invariant-loop-word
invariant-loop-word l =
    Taken (λ bytes s j z. word_pass bytes s l.plane (number_of l.pass) j l.stripe z) l.word (draft_of l.fn.block_state) (draft_of l.block_state) l.fn.decoder l.decoder
    × (number_of l.pass ≡ 1 → IsFresh l.plane l.refined (draft_of l.block_state)) × (l.block_state.planes ≡ l.fn.block_state.planes)
