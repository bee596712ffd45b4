-- What rounding down does to the sums of the lifting steps.
use Rattle.std.proofs.Common.{◌≡◌, ℕ, ℤ, ◌+◌, ◌-◌, ◌^◌, pos, ◌+ℤ◌, ◌-ℤ◌, ap, ◌∙◌, arith}
use Rattle.std.proofs.lemmas.Int.{ints, to_z-of_z}
use lib.Signed.{shr_z}
use mir.Syntax.{w32}
use mir.Val.{to_z, of_z}
use Rattle.jk_math.specs.Division.{floor_of}
use Rattle.jk_math.specs.Signed.{IsBelow}
use Rattle.jk_math.proofs.Laws.{shr-floor_of, half_high, half_low, quarter_high, quarter_low}
use Rattle.jk_lift.specs.Lifting.{high_pass, even_sample}

pub half_within : (m : ℕ) (a b : ℤ) → IsBelow m a → IsBelow m b → IsBelow m (floor_of (a +ℤ b) 2)
half_within m a b la lb =
    let h = half_high (a +ℤ b) in
    let l = half_low (a +ℤ b) in
    (omega (arith, ints, h, l), omega (arith, ints, h, l))

-- half as far for the quarter
pub quarter_within : (m : ℕ) (a b : ℤ) → IsBelow (m + m) a → IsBelow (m + m) b → IsBelow (m + 1) (floor_of (a +ℤ b +ℤ pos 2) 4)
quarter_within m a b la lb =
    let h = quarter_high (a +ℤ b +ℤ pos 2) in
    let l = quarter_low (a +ℤ b +ℤ pos 2) in
    (omega (arith, ints, h, l), omega (arith, ints, h, l))

-- what the code's `(a + b) >> 1` and `(a + b + 2) >> 2` give
pub half_shifted : (a b : ℤ) → IsBelow (2 ^ 30 - 1) a → IsBelow (2 ^ 30 - 1) b →
    to_z w32 (of_z w32 (shr_z (to_z w32 (of_z w32 (to_z w32 (of_z w32 a) +ℤ to_z w32 (of_z w32 b)))) 2)) ≡ floor_of (a +ℤ b) 2
half_shifted a b la lb =
    let sa = to_z-of_z w32 a (omega (arith, ints)) in
    let sb = to_z-of_z w32 b (omega (arith, ints)) in
    let ss = to_z-of_z w32 (a +ℤ b) (omega (arith, ints)) in
    let near = half_within (2 ^ 30 - 1) a b la lb in
    rw (sa, sb, ss, shr-floor_of) (to_z-of_z w32 _ (omega (arith, ints)))

pub quarter_shifted : (a b : ℤ) → IsBelow (2 ^ 30 - 1) a → IsBelow (2 ^ 30 - 1) b →
    to_z w32 (of_z w32 (shr_z (to_z w32 (of_z w32 (to_z w32 (of_z w32 (to_z w32 (of_z w32 a) +ℤ to_z w32 (of_z w32 b))) +ℤ pos 2))) 4)) ≡ floor_of (a +ℤ b +ℤ pos 2) 4
quarter_shifted a b la lb =
    let sa = to_z-of_z w32 a (omega (arith, ints)) in
    let sb = to_z-of_z w32 b (omega (arith, ints)) in
    let ss = to_z-of_z w32 (a +ℤ b) (omega (arith, ints)) in
    let st = to_z-of_z w32 (a +ℤ b +ℤ pos 2) (omega (arith, ints)) in
    let near = quarter_within (2 ^ 29) a b (omega (arith, ints), omega (arith, ints)) (omega (arith, ints), omega (arith, ints)) in
    rw (sa, sb, ss, st, shr-floor_of) (to_z-of_z w32 _ (omega (arith, ints)))

-- what the code's `x - r` and `x + r` give
pub difference_is : (x r h : ℤ) → IsBelow (2 ^ 29) x → IsBelow (2 ^ 30) r → r ≡ h → to_z w32 (of_z w32 (to_z w32 (of_z w32 x) -ℤ to_z w32 (of_z w32 r))) ≡ x -ℤ h
difference_is x r h lx lr e =
    let sx = to_z-of_z w32 x (omega (arith, ints)) in
    let sr = to_z-of_z w32 r (omega (arith, ints)) in
    rw (sx, sr) (to_z-of_z w32 (x -ℤ r) (omega (arith, ints)) ∙ ap (λ v. x -ℤ v) e)

pub total_is : (x r h : ℤ) → IsBelow (2 ^ 29) x → IsBelow (2 ^ 30) r → r ≡ h → to_z w32 (of_z w32 (to_z w32 (of_z w32 x) +ℤ to_z w32 (of_z w32 r))) ≡ x +ℤ h
total_is x r h lx lr e =
    let sx = to_z-of_z w32 x (omega (arith, ints)) in
    let sr = to_z-of_z w32 r (omega (arith, ints)) in
    rw (sx, sr) (to_z-of_z w32 (x +ℤ r) (omega (arith, ints)) ∙ ap (λ v. x +ℤ v) e)

pub even_sample-within : (y a b : ℤ) → IsBelow (2 ^ 29) y → IsBelow (2 ^ 29) a → IsBelow (2 ^ 29) b → IsBelow (2 ^ 30 - 1) (even_sample y a b)
even_sample-within y a b ly la lb =
    let near = quarter_within (2 ^ 28) a b la lb in
    (omega (arith, ints, near), omega (arith, ints, near))

pub high_pass-within : (x a b : ℤ) → IsBelow (2 ^ 29) x → IsBelow (2 ^ 29) a → IsBelow (2 ^ 29) b → IsBelow (2 ^ 30 - 1) (high_pass x a b)
high_pass-within x a b lx la lb =
    let near = half_within (2 ^ 29) a b la lb in
    (omega (arith, ints, near), omega (arith, ints, near))
