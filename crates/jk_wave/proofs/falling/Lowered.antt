-- How large the coefficients of a row get that is lifted between two others.
use Rattle.std.proofs.Common.{◌≡◌, ℕ, ◌+◌, ◌-◌, ◌^◌, ◌<◌, List, length, ℤ, pos, ◌+ℤ◌, sym, ap, subst, arith}
use Rattle.std.specs.List.{All}
use Rattle.std.proofs.lemmas.Int.{ints}
use Rattle.std.proofs.lemmas.List.Elements.{All-from_get_or}
use Rattle.jk_math.specs.declared.rect.Rect.{Rect}
use Rattle.jk_math.specs.Division.{floor_of}
use Rattle.jk_math.specs.Signed.{IsBelow, signed_at}
use Rattle.jk_math.specs.Raster.{columns_of}
use Rattle.jk_math.proofs.Laws.{half_high, half_low, quarter_high, quarter_low}
use Rattle.jk_lift.specs.Lifting.{high_pass, low_pass}
use Rattle.jk_lift.specs.Samples.{AnalysesRows}
use Rattle.jk_wave.specs.SourceRows.{IsRow}
use Rattle.jk_wave.proofs.ColumnRows.{only_row, lifted_small}
use Rattle.jk_wave.proofs.Synthesis.{entry_size, size_below}

half_near : (a b : ℤ) → IsBelow (2 ^ 28 - 1) a → IsBelow (2 ^ 28 - 1) b → IsBelow (2 ^ 28 - 1) (floor_of (a +ℤ b) 2)
half_near a b la lb =
    let h = half_high (a +ℤ b) in
    let l = half_low (a +ℤ b) in
    (omega (arith, ints, h, l), omega (arith, ints, h, l))

quarter_near : (a b : ℤ) → IsBelow (2 ^ 29) a → IsBelow (2 ^ 29) b → IsBelow (2 ^ 28 + 1) (floor_of (a +ℤ b +ℤ pos 2) 4)
quarter_near a b la lb =
    let h = quarter_high (a +ℤ b +ℤ pos 2) in
    let l = quarter_low (a +ℤ b +ℤ pos 2) in
    (omega (arith, ints, h, l), omega (arith, ints, h, l))

high_near : (x a b : ℤ) → IsBelow (2 ^ 28 - 1) x → IsBelow (2 ^ 28 - 1) a → IsBelow (2 ^ 28 - 1) b → IsBelow (2 ^ 29) (high_pass x a b)
high_near x a b lx la lb = let near = half_near a b la lb in (omega (arith, ints, near), omega (arith, ints, near))

low_near : (x a b : ℤ) → IsBelow (2 ^ 28 - 1) x → IsBelow (2 ^ 29) a → IsBelow (2 ^ 29) b → IsBelow (2 ^ 29) (low_pass x a b)
low_near x a b lx la lb = let near = quarter_near a b la lb in (omega (arith, ints, near), omega (arith, ints, near))

-- rows between two others
pub high_made_small : (old left right new : List ℤ) → length left ≡ length old → length right ≡ length old → length new ≡ length old →
    All (IsBelow (2 ^ 28 - 1)) old → All (IsBelow (2 ^ 28 - 1)) left → All (IsBelow (2 ^ 28 - 1)) right →
    ((k : ℕ) → k < length old → signed_at new k ≡ high_pass (signed_at old k) (signed_at left k) (signed_at right k)) →
    All (IsBelow (2 ^ 29)) new
high_made_small old left right new wide_left wide_right same small small_left small_right made = All-from_get_or (IsBelow (2 ^ 29)) new (pos 0) (λ k lt.
    let here : k < length old = omega arith in
    subst (IsBelow (2 ^ 29)) (sym (made k here))
    (high_near (signed_at old k) (signed_at left k) (signed_at right k) (small k (pos 0) here) (small_left k (pos 0) (omega arith)) (small_right k (pos 0) (omega arith))))

pub low_made_small : (old left right new : List ℤ) → length left ≡ length old → length right ≡ length old → length new ≡ length old →
    All (IsBelow (2 ^ 28 - 1)) old → All (IsBelow (2 ^ 29)) left → All (IsBelow (2 ^ 29)) right →
    ((k : ℕ) → k < length old → signed_at new k ≡ low_pass (signed_at old k) (signed_at left k) (signed_at right k)) →
    All (IsBelow (2 ^ 29)) new
low_made_small old left right new wide_left wide_right same small small_left small_right made = All-from_get_or (IsBelow (2 ^ 29)) new (pos 0) (λ k lt.
    let here : k < length old = omega arith in
    subst (IsBelow (2 ^ 29)) (sym (made k here))
    (low_near (signed_at old k) (signed_at left k) (signed_at right k) (small k (pos 0) here) (small_left k (pos 0) (omega arith)) (small_right k (pos 0) (omega arith))))

-- the only row of a rectangle
pub only_made_small : (area : Rect) (old new : List ℤ) → area.y0 + 1 ≡ area.y1 → length old ≡ columns_of area → length new ≡ length old →
    AnalysesRows area.y0 (columns_of area) old new → All (IsBelow (2 ^ 28 - 1)) old → All (IsBelow (2 ^ 29)) new
only_made_small area old new one long same says small =
    let f : ℕ → ℕ → ℤ = λ x j. signed_at old (x - area.x0) in
    let is : IsRow area (λ x. f x area.y0) old = record { long = long; each = λ k lt. ap (signed_at old) (let e : k ≡ area.x0 + k - area.x0 = omega arith in e) } in
    lifted_small area f area.y0 new
    (λ x j h. size_below (2 ^ 28 - 1) (signed_at old (x - area.x0)) (entry_size (2 ^ 28 - 1) old (omega arith) small (x - area.x0)))
    (omega arith) (omega (arith, one)) (only_row area f old new one is same says)
