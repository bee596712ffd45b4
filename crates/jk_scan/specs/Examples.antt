-- Examples: contexts of Tables D.1, D.3 and D.4 of T.800, and the passes of a column of four rows.
use Rattle.std.specs.Prelude.{◌≡◌, ℕ, ◌^◌, ◌/◌, true, false, refl, [], ◌∷◌, get_or}
use Rattle.jk_math.specs.Styles.{plain_style}
use Rattle.jk_math.specs.declared.orientation.Orientation.TheVariants.{LL, HL, LH, HH}
use Rattle.jk_scan.specs.declared.shape.BlockShape.{BlockShape}
use Rattle.jk_scan.specs.declared.contexts.Contribution.TheVariants.{Negative, Balanced, Positive}
use Rattle.jk_scan.specs.Contexts.{zero_context_of, contribution_of, sign_context_of, refine_context_of, sign}
use Rattle.jk_scan.specs.Neighbours.{touched, zero_at, sign_at, seen_from, touched_in, zero_in, sign_in}
use Rattle.jk_scan.specs.Moments.{number, visits, found, spread, pass_of, moment, significant}
use Rattle.jk_scan.specs.Moments.{propagation, refinement, cleanup}
use Rattle.jk_scan.specs.Passes.{BlockAtPlane, joined, flipped, new_decisions, refining_decision, place_decisions, in_run_mode}
use Rattle.jk_scan.specs.Passes.{first_one, run_decisions, column_decisions, plane_decisions}

-- Table D.1: one neighbour across and one down in LL, in HL, where they change places, and in HH
one_each_low : zero_context_of LL 1 1 0 ≡ 7
unfolding zero_context_of
one_each_low = refl

two_across_turned : zero_context_of HL 2 0 0 ≡ 4
unfolding zero_context_of
two_across_turned = refl

one_each_high : zero_context_of HH 1 1 1 ≡ 5
unfolding zero_context_of
one_each_high = refl

-- Table D.2: of two neighbours one is positive and one negative
balanced : contribution_of 1 1 ≡ Balanced
unfolding contribution_of
balanced = refl

-- Table D.3: a negative neighbour across turns the bit round
turned : sign_context_of Negative Positive ≡ sign 11 true
unfolding sign_context_of
turned = refl

-- Table D.4: a first refinement with no neighbour, with one, and a later one
refined_alone : refine_context_of false false ≡ 14
unfolding refine_context_of
refined_alone = refl

refined_beside : refine_context_of false true ≡ 15
unfolding refine_context_of
refined_beside = refl

refined_again : refine_context_of true false ≡ 16
unfolding refine_context_of
refined_again = refl

-- a column of four rows in LH
abbrev shape : BlockShape
shape = record { width = 1; height = 4; orientation = LH; style = plain_style }

-- The magnitudes 1, 5, 1, 0, all positive, without the b lowest bit-planes (the second code-block of
-- the image of T.800 J.10).
abbrev column : ℕ → BlockAtPlane
column b = record {
  magnitude = λ x y. get_or (1 ∷ 5 ∷ 1 ∷ 0 ∷ []) y 0 / 2 ^ b;
  negative = λ x y. false;
}

-- the highest bit-plane, in run mode: the second row is the first with a 1
highest : plane_decisions shape (column 2) cleanup
    ≡ (17, true) ∷ (18, false) ∷ (18, true) ∷ (9, false) ∷ (3, false) ∷ (0, false) ∷ []
unfolding zero_context_of contribution_of sign_context_of refine_context_of touched zero_at sign_at seen_from touched_in
    zero_in sign_in number visits found spread pass_of moment significant joined flipped new_decisions refining_decision place_decisions in_run_mode first_one
    run_decisions column_decisions plane_decisions
highest = refl

-- the lowest: the rows above and below become significant, and the last one has a neighbour then
lowest : plane_decisions shape (column 0) propagation
    ≡ (3, true) ∷ (10, false) ∷ (3, true) ∷ (10, false) ∷ (3, false) ∷ []
unfolding zero_context_of contribution_of sign_context_of refine_context_of touched zero_at sign_at seen_from touched_in
    zero_in sign_in number visits found spread pass_of moment significant joined flipped new_decisions refining_decision place_decisions in_run_mode first_one
    run_decisions column_decisions plane_decisions
lowest = refl

lowest_refined : plane_decisions shape (column 0) refinement ≡ (16, true) ∷ []
unfolding zero_context_of contribution_of sign_context_of refine_context_of touched zero_at sign_at seen_from touched_in
    zero_in sign_in number visits found spread pass_of moment significant joined flipped new_decisions refining_decision place_decisions in_run_mode first_one
    run_decisions column_decisions plane_decisions
lowest_refined = refl
