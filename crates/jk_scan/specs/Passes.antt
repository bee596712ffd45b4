-- What the passes of a bit-plane decide (T.800 D.3): for each place, column and pass a list of
-- decisions, each the number of its context and its bit.
use Rattle.std.specs.Prelude.{ℕ, zero, suc, ◌+◌, ◌-◌, ◌*◌, ◌%◌, Bool, true, false, not, ◌&&◌, List, [], ◌∷◌, ◌++◌}
use Rattle.std.specs.Prelude.{nat_eq, nat_le, if◌then◌else◌}
use Rattle.jk_scan.specs.declared.shape.BlockShape.{BlockShape}
use Rattle.jk_scan.specs.Contexts.{refine_context_of, run_length, uniform}
use Rattle.jk_scan.specs.Neighbours.{Field, is_inside, touched_in, zero_in, sign_in}
use Rattle.jk_scan.specs.Moments.{number, stripes, visits, cleanup, pass_of, significant}

-- The block at a bit-plane: each magnitude without the planes below, and the signs.
pub record BlockAtPlane : Type 0 where
  pub magnitude : Field ℕ
  pub negative : Field Bool

abbrev pub Decided : Type 0
Decided = List (ℕ × Bool)

-- n lists one behind another
unfoldable pub joined : ℕ → (ℕ → Decided) → Decided
joined zero part = []
joined (suc n) part = joined n part ++ part n

-- the bit of this plane
abbrev pub is_one : ℕ → Bool
is_one m = nat_eq (m % 2) 1

-- the other one, if it is to be flipped
unfoldable pub flipped : (flip bit : Bool) → Bool
flipped flip bit = if flip then not bit else bit

-- the sign of a place that has become significant (D.3.2)
abbrev pub sign_decision : BlockShape → BlockAtPlane → ℕ → Field (ℕ × Bool)
sign_decision s p t x y =
    let c = sign_in s (significant s p.magnitude t) p.negative x y in (c.context, flipped c.flip (p.negative x y))

-- the bit of a place that isn't significant, and its sign where the bit is 1 (D.3.1 and D.3.4)
unfoldable pub new_decisions : BlockShape → BlockAtPlane → ℕ → Field Decided
new_decisions s p t x y =
    (zero_in s (significant s p.magnitude t) x y, is_one (p.magnitude x y))
    ∷ (if is_one (p.magnitude x y) then sign_decision s p t x y ∷ [] else [])

-- The bit of a place that was significant before (D.3.3). The bit after its highest 1 is the first
-- to be refined.
unfoldable pub refining_decision : BlockShape → BlockAtPlane → ℕ → Field (ℕ × Bool)
refining_decision s p t x y = (
  refine_context_of (nat_le 4 (p.magnitude x y)) (touched_in s (significant s p.magnitude t) x y),
  is_one (p.magnitude x y),
)

-- the decisions of a place at a moment, in the pass that codes it
abbrev pub own_decisions : BlockShape → BlockAtPlane → (pass t : ℕ) → Field Decided
own_decisions s p zero t x y = new_decisions s p t x y
own_decisions s p (suc zero) t x y = refining_decision s p t x y ∷ []
own_decisions s p (suc (suc n)) t x y = new_decisions s p t x y

-- the decisions of a place in a pass
unfoldable pub place_decisions : BlockShape → BlockAtPlane → (pass : ℕ) → Field Decided
place_decisions s p pass x y =
    if is_inside s x y && nat_eq (pass_of s p.magnitude x y) pass
    then own_decisions s p pass (pass * visits s + number s.width x y) x y
    else []

-- n rows of a column of the stripe i, from the row j of the stripe on
abbrev pub rows_decisions : BlockShape → BlockAtPlane → (pass x i j n : ℕ) → Decided
rows_decisions s p pass x i j n = joined n (λ k. place_decisions s p pass x (4 * i + (j + k)))

-- The column of a stripe is coded in run mode (D.3.4): it has four rows, all of them are left to
-- the cleanup pass, and none has a significant neighbour when the column begins.
unfoldable pub in_run_mode : BlockShape → Field ℕ → (x i : ℕ) → Bool
in_run_mode s a x i =
    let t = cleanup * visits s + number s.width x (4 * i) in
    let left : ℕ → Bool = λ j. nat_eq (pass_of s a x (4 * i + j)) cleanup
    && not (touched_in s (significant s a t) x (4 * i + j)) in
    nat_le (4 * i + 4) s.height && ((left 0 && left 1) && (left 2 && left 3))

-- the first row of a column with the bit 1, or 4
unfoldable pub first_one : Field ℕ → (x i : ℕ) → ℕ
first_one a x i =
    if is_one (a x (4 * i + 0)) then 0
    else (if is_one (a x (4 * i + 1)) then 1
    else (if is_one (a x (4 * i + 2)) then 2 else (if is_one (a x (4 * i + 3)) then 3 else 4)))

-- In run mode (D.3.4, Table D.5): whether a row has the bit 1, the first such row, high bit first,
-- its sign, and then the rows below it one by one.
unfoldable pub run_decisions : BlockShape → BlockAtPlane → (x i f : ℕ) → Decided
run_decisions s p x i f =
    if nat_eq f 4 then (run_length, false) ∷ []
    else (((run_length, true) ∷ (uniform, nat_le 2 f) ∷ (uniform, is_one f)
    ∷ sign_decision s p (cleanup * visits s + number s.width x (4 * i + f)) x (4 * i + f) ∷ [])
    ++ rows_decisions s p cleanup x i (f + 1) (3 - f))

unfoldable pub column_decisions : BlockShape → BlockAtPlane → (pass x i : ℕ) → Decided
column_decisions s p pass x i =
    if nat_eq pass cleanup && in_run_mode s p.magnitude x i
    then run_decisions s p x i (first_one p.magnitude x i)
    else rows_decisions s p pass x i 0 4

-- the decisions of a pass: stripe by stripe, column by column
unfoldable pub plane_decisions : BlockShape → BlockAtPlane → (pass : ℕ) → Decided
plane_decisions s p pass = joined (stripes s) (λ i. joined s.width (λ x. column_decisions s p pass x i))
