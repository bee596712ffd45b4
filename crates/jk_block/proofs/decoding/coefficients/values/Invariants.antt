use Rattle.std.proofs.Common.{◌≡◌, ◌≤◌, ◌*◌}
use Rattle.std.specs.Vec.{vec_len, vec_capacity}
use Rattle.jk_block.specs.Meaning.{with_sign}
use Rattle.jk_block.specs.decoding.BlockStates.{draft_of}
use Rattle.jk_block.proofs.decoding.Listing.{rows_of}
use Rattle.jk_block.proofs.decoding.coefficients.values.Given as goal

abbrev pub invariant-loop-y : goal.invariant-loop-y
invariant-loop-y l =
    (l.values.items ≡ rows_of (λ x y. with_sign ((draft_of l.block_state).negative x y) ((draft_of l.block_state).magnitude x y)) l.block_state.shape.width l.y)
    × (vec_len l.values ≡ l.y * l.block_state.shape.width) × (l.block_state.shape.width * l.block_state.shape.height ≤ vec_capacity l.values)
