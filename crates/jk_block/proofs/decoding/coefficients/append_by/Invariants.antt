use Rattle.std.proofs.Common.{◌≡◌, ◌+◌, ◌++◌, map}
use Rattle.std.specs.Vec.{vec_len, vec_capacity}
use Rattle.std.specs.List.{range_with_len}
use Rattle.jk_block.specs.decoding.Eights.{value_of}
use Rattle.jk_block.proofs.decoding.coefficients.append_by.Given as goal

abbrev pub invariant-loop-c : goal.invariant-loop-c
invariant-loop-c l =
    (l.values.items ≡ l.fn.values.items ++ map (value_of l.eight) (range_with_len 0 l.c)) × (vec_len l.values ≡ vec_len l.fn.values + l.c) × (vec_capacity l.values ≡ vec_capacity l.fn.values)
