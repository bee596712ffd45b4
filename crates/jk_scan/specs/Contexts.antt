-- The contexts of the three kinds of decisions (T.800 Tables D.1 to D.4).
use Rattle.std.specs.Prelude.{ℕ, ◌+◌, Bool, true, false, nat_lt, nat_le, if◌then◌else◌}
use Rattle.jk_math.specs.declared.orientation.Orientation.{Orientation}
use Rattle.jk_math.specs.declared.orientation.Orientation.TheVariants.{LL, HL, LH, HH}
use Rattle.jk_scan.specs.declared.contexts.Contribution.{Contribution}
use Rattle.jk_scan.specs.declared.contexts.Contribution.TheVariants.{Negative, Balanced, Positive}
use Rattle.jk_scan.specs.declared.contexts.SignContext.{SignContext}

-- Table D.1, LL and LH: significant neighbours across, down and diagonal
abbrev pub low_context_of : ℕ → ℕ → ℕ → ℕ
low_context_of horizontal vertical diagonal =
    if nat_le 2 horizontal then 8
    else (if nat_le 1 horizontal then (if nat_le 1 vertical then 7 else (if nat_le 1 diagonal then 6 else 5))
    else (if nat_le 2 vertical then 4
    else (if nat_le 1 vertical then 3 else (if nat_le 2 diagonal then 2 else (if nat_le 1 diagonal then 1 else 0)))))

-- Table D.1, HH: significant neighbours beside, that is across and down, and diagonal
abbrev pub high_context_of : ℕ → ℕ → ℕ
high_context_of beside diagonal =
    if nat_le 3 diagonal then 8
    else (if nat_le 2 diagonal then (if nat_le 1 beside then 7 else 6)
    else (if nat_le 1 diagonal then (if nat_le 2 beside then 5 else (if nat_le 1 beside then 4 else 3))
    else (if nat_le 2 beside then 2 else (if nat_le 1 beside then 1 else 0))))

-- Table D.1. In HL the neighbours across and down change places.
unfoldable pub zero_context_of : Orientation → ℕ → ℕ → ℕ → ℕ
zero_context_of LL horizontal vertical diagonal = low_context_of horizontal vertical diagonal
zero_context_of HL horizontal vertical diagonal = low_context_of vertical horizontal diagonal
zero_context_of LH horizontal vertical diagonal = low_context_of horizontal vertical diagonal
zero_context_of HH horizontal vertical diagonal = high_context_of (horizontal + vertical) diagonal

-- Table D.2: what two neighbours contribute, by how many of them are significant and positive, and
-- significant and negative
unfoldable pub contribution_of : (positive negative : ℕ) → Contribution
contribution_of positive negative =
    if nat_lt negative positive then Positive else (if nat_lt positive negative then Negative else Balanced)

abbrev pub sign : ℕ → Bool → SignContext
sign context flip = record { context = context; flip = flip }

-- Table D.3: the context, and whether the decision is the opposite of the sign bit
unfoldable pub sign_context_of : (horizontal vertical : Contribution) → SignContext
sign_context_of Positive Positive = sign 13 false
sign_context_of Positive Balanced = sign 12 false
sign_context_of Positive Negative = sign 11 false
sign_context_of Balanced Positive = sign 10 false
sign_context_of Balanced Balanced = sign 9 false
sign_context_of Balanced Negative = sign 10 true
sign_context_of Negative Positive = sign 11 true
sign_context_of Negative Balanced = sign 12 true
sign_context_of Negative Negative = sign 13 true

-- Table D.4
unfoldable pub refine_context_of : (refined touched : Bool) → ℕ
refine_context_of refined touched = if refined then 16 else (if touched then 15 else 14)

-- D.3.4 and Table D.5: the contexts of run mode
abbrev pub run_length : ℕ
run_length = 17

abbrev pub uniform : ℕ
uniform = 18
