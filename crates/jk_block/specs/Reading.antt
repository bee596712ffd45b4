-- A block read from its segment: which value, or which first fault. This goes place by place as the
-- passes do, and every context is that of the block as far as it is read.
use Rattle.std.specs.Prelude.{ℕ, zero, suc, ◌+◌, ◌-◌, ◌*◌, ◌/◌, ◌^◌, Bool, true, false, not, ◌&&◌, List, Result, Ok}
use Rattle.std.specs.Prelude.{nat_eq, nat_lt, nat_le, if◌then◌else◌, ℤ}
use Rattle.jk_math.specs.declared.fault.Fault.{Fault}
use Rattle.jk_math.specs.declared.fault.Fault.TheVariants.{TooManyPasses, BadValue}
use Rattle.jk_math.specs.Answer.{◌>>=◌, refuse}
use Rattle.jk_math.specs.declared.style.Style.{Style}
use Rattle.jk_model.specs.Decisions.{State, initial}
use Rattle.jk_model.specs.CodingPasses.{begun_by}
use Rattle.jk_mqdec.specs.Answers.{answer, next}
use Rattle.jk_scan.specs.declared.shape.BlockShape.{BlockShape}
use Rattle.jk_scan.specs.Contexts.{refine_context_of, run_length, uniform}
use Rattle.jk_scan.specs.Neighbours.{Field, is_inside, touched_in, zero_in, sign_in}
use Rattle.jk_scan.specs.Moments.{stripes, propagation, cleanup}
use Rattle.jk_scan.specs.Passes.{flipped}
use Rattle.jk_block.specs.Symbols.{is_symbol, ends_with_symbol}
use Rattle.jk_block.specs.Meaning.{plane_of, kind_of, with_sign, above, values_of}

-- How far a block is read: the magnitudes and the signs so far, which places the significance
-- propagation pass of this plane has coded, and the state of the decoder.
pub record Progress : Type 0 where
  pub magnitude : Field ℕ
  pub negative : Field Bool
  pub visited : Field Bool
  pub coder : State

abbrev pub blank : Progress
blank = record { magnitude = λ _ _. 0; negative = λ _ _. false; visited = λ _ _. false; coder = initial }

-- significant so far
abbrev pub known_significant : BlockShape → Progress → Field Bool
known_significant s z x y = is_inside s x y && nat_lt 0 (z.magnitude x y)

-- a field with another value at one place
abbrev pub put : {X : Type 0} → Field X → (x y : ℕ) → X → Field X
put f x y v x' y' = if nat_eq x' x && nat_eq y' y then v else f x' y'

-- one step after another, n in all
unfoldable pub times : ℕ → (ℕ → Progress → Result Progress Fault) → Progress → Result Progress Fault
times zero step z = Ok z
times (suc n) step z = times n step z >>= step n

-- the next decision
unfoldable pub decide : List ℕ → ℕ → State → Result (Bool × State) Fault
decide bytes cx s = answer bytes s cx >>= λ bit. Ok (bit, next bytes s cx)

abbrev pub with_coder : Progress → State → Progress
with_coder z coder = record z { coder = coder }

-- the bit of plane b behind those of the higher planes, and the sign
abbrev pub coded_as : (b x y : ℕ) → (bit negative : Bool) → Progress → Progress
coded_as b x y bit negative z =
    record z {
      magnitude = put z.magnitude x y (above (b + 1) (z.magnitude x y) + (if bit then 2 ^ b else 0));
      negative = put z.negative x y negative;
    }

-- a place becomes significant
unfoldable pub read_sign : List ℕ → BlockShape → (b x y : ℕ) → Progress → Result Progress Fault
read_sign bytes s b x y z =
    let c = sign_in s (known_significant s z) z.negative x y in
    decide bytes c.context z.coder >>= λ d. Ok (with_coder (coded_as b x y true (flipped c.flip d.0) z) d.1)

-- a place that isn't significant
unfoldable pub read_new : List ℕ → BlockShape → (b x y : ℕ) → Progress → Result Progress Fault
read_new bytes s b x y z =
    decide bytes (zero_in s (known_significant s z) x y) z.coder
    >>= λ d. if d.0 then read_sign bytes s b x y (with_coder z d.1) else Ok (with_coder z d.1)

-- a place that was significant before this plane
unfoldable pub read_refined : List ℕ → BlockShape → (b x y : ℕ) → Progress → Result Progress Fault
read_refined bytes s b x y z =
    decide bytes (refine_context_of (nat_le 4 (z.magnitude x y / 2 ^ b)) (touched_in s (known_significant s z) x y)) z.coder
    >>= λ d. Ok (with_coder (coded_as b x y d.0 (z.negative x y) z) d.1)

abbrev pub visit : (x y : ℕ) → Progress → Progress
visit x y z = record z { visited = put z.visited x y true }

-- a place in a pass: coded there, or passed over
unfoldable pub place_at : List ℕ → BlockShape → (b pass x y : ℕ) → Progress → Result Progress Fault
place_at bytes s b zero x y z =
    if is_inside s x y && (not (known_significant s z x y) && touched_in s (known_significant s z) x y) then read_new bytes s b x y (visit x y z)
    else Ok z
place_at bytes s b (suc zero) x y z = if known_significant s z x y && not (z.visited x y) then read_refined bytes s b x y z else Ok z
place_at bytes s b (suc (suc n)) x y z =
    if is_inside s x y && (not (known_significant s z x y) && not (z.visited x y)) then read_new bytes s b x y z else Ok z

-- n rows of a column, from the row j of the stripe i on
abbrev pub rows_at : List ℕ → BlockShape → (b pass x i j n : ℕ) → Progress → Result Progress Fault
rows_at bytes s b pass x i j n z = times n (λ k. place_at bytes s b pass x (4 * i + (j + k))) z

-- four rows without a significant place in them or around them
unfoldable pub is_quiet : BlockShape → Field Bool → (x i : ℕ) → Bool
is_quiet s significant x i =
    let quiet : ℕ → Bool = λ j. not (significant x (4 * i + j)) && not (touched_in s significant x (4 * i + j)) in
    nat_le (4 * i + 4) s.height && ((quiet 0 && quiet 1) && (quiet 2 && quiet 3))

-- the row of a stripe that two bits name, high bit first
abbrev pub row_named : (high low : Bool) → ℕ
row_named high low = (if high then 2 else 0) + (if low then 1 else 0)

abbrev pub read_from : List ℕ → BlockShape → (b x i f : ℕ) → Progress → Result Progress Fault
read_from bytes s b x i f z = read_sign bytes s b x (4 * i + f) z >>= rows_at bytes s b cleanup x i (f + 1) (3 - f)

-- a column in run mode
unfoldable pub read_run : List ℕ → BlockShape → (b x i : ℕ) → Progress → Result Progress Fault
read_run bytes s b x i z =
    decide bytes run_length z.coder
    >>= λ d. if d.0
    then (decide bytes uniform d.1 >>= λ high. decide bytes uniform high.1
    >>= λ low. read_from bytes s b x i (row_named high.0 low.0) (with_coder z low.1))
    else Ok (with_coder z d.1)

unfoldable pub column_at : List ℕ → BlockShape → (b pass x i : ℕ) → Progress → Result Progress Fault
column_at bytes s b pass x i z =
    if nat_eq pass cleanup && is_quiet s (known_significant s z) x i then read_run bytes s b x i z
    else rows_at bytes s b pass x i 0 4 z

unfoldable pub stripe_at : List ℕ → BlockShape → (b pass i : ℕ) → Progress → Result Progress Fault
stripe_at bytes s b pass i z = times s.width (λ x. column_at bytes s b pass x i) z

unfoldable pub plane_pass_at : List ℕ → BlockShape → (b pass : ℕ) → Progress → Result Progress Fault
plane_pass_at bytes s b pass z = times (stripes s) (λ i. stripe_at bytes s b pass i) z

-- a significance propagation pass begins a plane
abbrev pub begun : (pass : ℕ) → Progress → Progress
begun pass z = record z { visited = if nat_eq pass propagation then (λ _ _. false) else z.visited }

-- with context reset a pass begins with the first contexts
abbrev pub with_contexts : BlockShape → Progress → Progress
with_contexts s z = with_coder z (begun_by s.style.reset z.coder)

-- the segmentation symbol: all four decisions are read before they are compared
unfoldable pub symbol_at : List ℕ → Progress → Result Progress Fault
symbol_at bytes z =
    decide bytes uniform z.coder >>= λ a. decide bytes uniform a.1 >>= λ b. decide bytes uniform b.1
    >>= λ c. decide bytes uniform c.1 >>= λ d. refuse (not (is_symbol a.0 b.0 c.0 d.0)) BadValue
    >>= λ _. Ok (with_coder z d.1)

-- what ends a pass
unfoldable pub closing_at : List ℕ → Style → (pass : ℕ) → Progress → Result Progress Fault
closing_at bytes style pass z = if ends_with_symbol style pass then symbol_at bytes z else Ok z

unfoldable pub pass_at : List ℕ → BlockShape → (planes n : ℕ) → Progress → Result Progress Fault
pass_at bytes s planes n z =
    plane_pass_at bytes s (plane_of planes n) (kind_of n) (begun (kind_of n) (with_contexts s z))
    >>= closing_at bytes s.style (kind_of n)

-- what is read
abbrev pub coefficients : Progress → Field ℤ
coefficients z x y = with_sign (z.negative x y) (z.magnitude x y)

-- the block, or the fault
unfoldable pub block_at : BlockShape → (planes passes : ℕ) → List ℕ → Result (List ℤ) Fault
block_at s planes passes bytes =
    refuse (nat_lt (3 * planes - 2) passes) TooManyPasses
    >>= λ _. times passes (pass_at bytes s planes) blank >>= λ z. Ok (values_of s (coefficients z))
