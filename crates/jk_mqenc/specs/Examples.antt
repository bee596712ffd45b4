-- Examples: the bytes that FLUSH leaves of decisions, as an independent encoder of the registers
-- gives them.
use Rattle.std.specs.Prelude.{◌≡◌, refl, true, false, List, [], ◌∷◌}
use Rattle.jk_model.specs.Contexts.{rows, moved, first_contexts}
use Rattle.jk_model.specs.Decisions.{Decision, is_exchanged, renormalised}
use Rattle.jk_model.specs.Deciding.{takes_lower, taken, contexts_taken, made}
use Rattle.jk_model.specs.Placed.{gap}
use Rattle.jk_mqenc.specs.Machine.{unit, byte_out}
use Rattle.jk_mqenc.specs.Coding.{twice, renorme, subinterval, set_bits, pushed_out, flushed}
use Rattle.jk_mqenc.specs.Encoded.{written_by, finished}

-- no decision
none : finished false [] ≡ 0xFF ∷ 0x7F ∷ []
unfolding finished gap unit byte_out set_bits pushed_out flushed
none = refl

-- a coefficient that becomes significant with no neighbour that is, and is positive
one_significant : finished false (((0, true) ∷ (9, false) ∷ []) ∷ []) ≡ 0x03 ∷ []
unfolding finished gap unit byte_out set_bits pushed_out flushed twice renorme subinterval rows moved first_contexts
    is_exchanged renormalised takes_lower taken contexts_taken made
one_significant = refl

-- what the seven passes of the coefficients 1, 5, 1, 0 decide (T.800 J.10)
column : List (List Decision)
column =
    ((17, true) ∷ (18, false) ∷ (18, true) ∷ (9, false) ∷ (3, false) ∷ (0, false) ∷ []) ∷
    ((3, false) ∷ (3, false) ∷ []) ∷ ((14, false) ∷ []) ∷ ((0, false) ∷ []) ∷
    ((3, true) ∷ (10, false) ∷ (3, true) ∷ (10, false) ∷ (3, false) ∷ []) ∷ ((16, true) ∷ []) ∷ [] ∷ []

column_bytes : finished false column ≡ 0x0F ∷ 0xB1 ∷ 0x7F ∷ []
unfolding column finished gap unit byte_out set_bits pushed_out flushed twice renorme subinterval rows moved
    first_contexts
    is_exchanged renormalised takes_lower taken contexts_taken made
column_bytes = refl

-- one byte is placed before FLUSH
column_written : written_by false column ≡ 1
unfolding column written_by gap unit byte_out twice renorme subinterval rows moved first_contexts
    is_exchanged renormalised takes_lower taken contexts_taken made
column_written = refl
