use Rattle.std.proofs.Common.{◌≡◌, ◌+◌, ◌*◌, ◌++◌, map, min}
use Rattle.std.specs.Vec.{vec_len, vec_capacity}
use Rattle.std.specs.List.{range_with_len}
use Rattle.jk_block.specs.Meaning.{with_sign}
use Rattle.jk_block.specs.decoding.BlockStates.{draft_of}
use Rattle.jk_block.proofs.decoding.coefficients.append_row.Given as goal

abbrev pub invariant-loop-word : goal.invariant-loop-word
invariant-loop-word l =
    (l.values.items ≡ l.fn.values.items ++ map (λ x. with_sign ((draft_of l.block_state).negative x l.y) ((draft_of l.block_state).magnitude x l.y)) (range_with_len 0 (min (8 * l.word) l.width)))
    × (vec_len l.values ≡ vec_len l.fn.values + min (8 * l.word) l.width) × (vec_capacity l.values ≡ vec_capacity l.fn.values)
