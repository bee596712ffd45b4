-- Examples: the second code-block of the image of T.800 J.10, of one column and four rows in LH.
use Rattle.std.specs.Prelude.{◌≡◌, ℤ, refl, true, false, List, [], ◌∷◌, Ok, pos}
use Rattle.jk_math.specs.Styles.{plain_style}
use Rattle.jk_math.specs.BitLength.{digits, bit_length}
use Rattle.jk_model.specs.Placed.{gap}
use Rattle.jk_model.specs.Deciding.{takes_lower, taken, contexts_taken, made}
use Rattle.jk_mqenc.specs.Machine.{unit, byte_out}
use Rattle.jk_mqenc.specs.Coding.{twice, renorme, subinterval, set_bits, pushed_out, flushed}
use Rattle.jk_mqenc.specs.Encoded.{written_by, finished}
use Rattle.jk_model.specs.Code.{is_last, is_past, fed, code_places, start, wanted, share, shares, code_value}
use Rattle.jk_model.specs.Contexts.{rows, moved, first_contexts}
use Rattle.jk_model.specs.Decisions.{is_lower, is_exchanged, bit_at, divided, renormalised, contexts_after, after}
use Rattle.jk_mqdec.specs.Answers.{answer, next}
use Rattle.jk_scan.specs.declared.shape.BlockShape.{BlockShape}
use Rattle.jk_math.specs.declared.orientation.Orientation.TheVariants.{LL, LH}
use Rattle.jk_scan.specs.Contexts.{zero_context_of, contribution_of, sign_context_of, refine_context_of}
use Rattle.jk_scan.specs.Neighbours.{touched, zero_at, sign_at, seen_from, touched_in, zero_in, sign_in}
use Rattle.jk_scan.specs.Moments.{number, visits, found, spread, pass_of, moment, significant}
use Rattle.jk_scan.specs.Passes.{joined, flipped, new_decisions, refining_decision, place_decisions, in_run_mode}
use Rattle.jk_scan.specs.Passes.{first_one, run_decisions, column_decisions, plane_decisions}
use Rattle.jk_block.specs.Meaning.{plane_at, pass_decisions, value_in, values_of}
use Rattle.jk_block.specs.BlockWritten.{marks_upto, bytes_of, coded}
use Rattle.jk_block.specs.Layers.{passes_upto}
use Rattle.jk_block.specs.Reading.{times, decide, read_sign, read_new, read_refined, place_at, is_quiet, read_run}
use Rattle.jk_block.specs.Reading.{column_at, stripe_at, plane_pass_at, closing_at, pass_at, block_at}

abbrev shape : BlockShape
shape = record { width = 1; height = 4; orientation = LH; style = plain_style }

abbrev values : List ℤ
values = pos 1 ∷ pos 5 ∷ pos 1 ∷ pos 0 ∷ []

-- what its seven passes decide: cleanup of the highest plane, and all three passes of the two below
decided : pass_decisions shape 3 7 (value_in shape values)
    ≡ ((17, true) ∷ (18, false) ∷ (18, true) ∷ (9, false) ∷ (3, false) ∷ (0, false) ∷ [])
    ∷ ((3, false) ∷ (3, false) ∷ []) ∷ ((14, false) ∷ []) ∷ ((0, false) ∷ [])
    ∷ ((3, true) ∷ (10, false) ∷ (3, true) ∷ (10, false) ∷ (3, false) ∷ []) ∷ ((16, true) ∷ []) ∷ [] ∷ []
unfolding zero_context_of contribution_of sign_context_of refine_context_of touched zero_at sign_at seen_from touched_in
    zero_in sign_in number visits found spread pass_of moment significant joined flipped new_decisions refining_decision
    place_decisions in_run_mode first_one run_decisions column_decisions plane_decisions plane_at pass_decisions
decided = refl

-- its bytes mean these coefficients, and are read as them
read : block_at shape 3 7 (0x0F ∷ 0xB1 ∷ 0x76 ∷ []) ≡ Ok values
unfolding is_last is_past fed code_places start wanted share shares code_value rows moved first_contexts is_lower
    is_exchanged bit_at divided renormalised contexts_after after answer next zero_context_of contribution_of
    sign_context_of refine_context_of touched zero_at sign_at seen_from touched_in zero_in sign_in flipped values_of times decide read_sign read_new
    read_refined place_at is_quiet read_run column_at stripe_at plane_pass_at closing_at pass_at block_at
read = refl

-- as an independent encoder writes it: planes, passes, bytes, and how many are placed after each
-- pass
written : coded shape values
    ≡ record {
      planes = 3;
      passes = 7;
      bytes = 0x0F ∷ 0xB1 ∷ 0x7F ∷ [];
      marks = 0 ∷ 0 ∷ 0 ∷ 0 ∷ 1 ∷ 1 ∷ 1 ∷ [];
    }
unfolding zero_context_of contribution_of sign_context_of refine_context_of touched zero_at sign_at seen_from touched_in
    zero_in sign_in number visits found spread pass_of moment significant joined flipped new_decisions refining_decision
    place_decisions in_run_mode first_one run_decisions column_decisions plane_decisions plane_at pass_decisions rows moved first_contexts is_exchanged
    renormalised takes_lower taken contexts_taken made gap unit byte_out twice renorme subinterval set_bits pushed_out
    flushed written_by finished marks_upto bytes_of coded digits bit_length
written = refl

-- in three layers: one pass of the highest plane, and three of each plane below
first_layer : passes_upto 3 3 0 ≡ 1
unfolding passes_upto
first_layer = refl

second_layer : passes_upto 3 3 1 ≡ 4
unfolding passes_upto
second_layer = refl

-- a column of five rows with vertically causal contexts: its first stripe doesn't see the second
abbrev causal : BlockShape
causal = record { width = 1; height = 5; orientation = LL; style = record { reset = false; causal = true; segments = false } }

abbrev below : List ℤ
below = pos 0 ∷ pos 0 ∷ pos 0 ∷ pos 1 ∷ pos 2 ∷ []

-- The fourth row is left to the cleanup pass, in run mode. Without the style, significance
-- propagation codes it, with contexts 3 and 10, and refines the fifth one with context 15.
causal_decided : pass_decisions causal 2 4 (value_in causal below)
    ≡ ((17, false) ∷ (0, true) ∷ (9, false) ∷ []) ∷ [] ∷ ((14, false) ∷ [])
    ∷ ((17, true) ∷ (18, true) ∷ (18, true) ∷ (9, false) ∷ []) ∷ []
unfolding zero_context_of contribution_of sign_context_of refine_context_of touched zero_at sign_at seen_from touched_in
    zero_in sign_in number visits found spread pass_of moment significant joined flipped new_decisions refining_decision
    place_decisions in_run_mode first_one run_decisions column_decisions plane_decisions plane_at pass_decisions
causal_decided = refl

causal_read : block_at causal 2 4 (0x16 ∷ 0xE3 ∷ []) ≡ Ok below
unfolding is_last is_past fed code_places start wanted share shares code_value rows moved first_contexts is_lower
    is_exchanged bit_at divided renormalised contexts_after after answer next zero_context_of contribution_of
    sign_context_of refine_context_of touched zero_at sign_at seen_from touched_in zero_in sign_in flipped values_of
    times decide read_sign read_new read_refined place_at is_quiet read_run column_at stripe_at plane_pass_at closing_at
    pass_at block_at
causal_read = refl
