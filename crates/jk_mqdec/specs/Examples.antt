-- Examples: what the first decisions of short segments are, by the definition.
use Rattle.std.specs.Prelude.{◌≡◌, refl, true, false, ◌∷◌, [], Ok, Err}
use Rattle.jk_math.specs.declared.fault.Fault.TheVariants.{CodeOutOfInterval}
use Rattle.jk_model.specs.Code.{is_last, is_past, fed, code_places, start, wanted, share, shares, code_value}
use Rattle.jk_model.specs.Contexts.{rows, moved, first_contexts}
use Rattle.jk_model.specs.Decisions.{initial, is_lower, is_exchanged, bit_at, divided, renormalised, contexts_after, after}
use Rattle.jk_mqdec.specs.Answers.{answer, next}

-- The segment 03 is a coefficient that becomes significant with no neighbour that is (context 0),
-- and is positive (context 9).
becomes_significant : answer (0x03 ∷ []) initial 0 ≡ Ok true
unfolding is_last is_past fed code_places start wanted share shares code_value rows moved first_contexts is_lower
    is_exchanged bit_at divided renormalised contexts_after after answer
becomes_significant = refl

is_positive : answer (0x03 ∷ []) (next (0x03 ∷ []) initial 0) 9 ≡ Ok false
unfolding is_last is_past fed code_places start wanted share shares code_value rows moved first_contexts is_lower
    is_exchanged bit_at divided renormalised contexts_after after answer next
is_positive = refl

-- in 07 it is negative
is_negative : answer (0x07 ∷ []) (next (0x07 ∷ []) initial 0) 9 ≡ Ok true
unfolding is_last is_past fed code_places start wanted share shares code_value rows moved first_contexts is_lower
    is_exchanged bit_at divided renormalised contexts_after after answer next
is_negative = refl

-- The code value of FF 8F lies outside the interval from the start.
is_outside : answer (0xFF ∷ 0x8F ∷ []) initial 0 ≡ Err CodeOutOfInterval
unfolding is_last is_past fed code_places start wanted share shares code_value rows moved first_contexts is_lower
    is_exchanged bit_at divided renormalised contexts_after after answer
is_outside = refl
