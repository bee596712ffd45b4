-- The steps on rows are the transform of each column.
use Rattle.std.proofs.Common.{◌≡◌, ℕ, ℤ, List, ◌+◌, ◌-◌, ◌*◌, ◌/◌, ◌%◌, ◌<◌, ◌≤◌, length, ◌+ℤ◌, inl, inr, refl, sym, ◌∙◌, ap, subst, arith}
use Rattle.std.proofs.lemmas.Bool.{cases_eq}
use Rattle.std.proofs.Math.Nat.{mul-div_cancel}
use Rattle.jk_math.specs.Division.{floor_of}
use Rattle.jk_lift.specs.Lifting.{high_pass, low_pass, even_sample, odd_sample, high_at, lifted, even_at, unlifted}
use Rattle.jk_math.specs.Signed.{signed_at}
use Rattle.jk_lift.specs.Samples.{column, AnalysesRows, SynthesisesRows}
use Rattle.jk_lift.specs.Sweep.{row_before, row_after, first_step, both_steps}
use Rattle.jk_lift.proofs.Equations.{lifted_odd, unlifted_even, lifted_one_even, lifted_one_odd, unlifted_one_even, unlifted_one_odd}
use Rattle.jk_lift.proofs.Places.{AreNeighbours, high_place, low_place, even_place, odd_place}
use Rattle.jk_lift.proofs.Sweeping.{row_before_cases, row_after_cases, both_steps-second, both_steps-first}

are_neighbours : (n j : ℕ) → 2 ≤ n → j < n → AreNeighbours n j (row_before j) (row_after n j)
are_neighbours n j tall l = record {
  long = tall;
  inside = l;
  before_inside = λ h. elim (row_before_cases j) [ inl e ↦ e | inr z ↦ absurd (omega (arith, z.0)) ];
  before_first = λ h. elim (row_before_cases j) [ inl e ↦ absurd (omega arith) | inr z ↦ z.1 ];
  after_inside = λ h. elim (row_after_cases n j tall l) [ inl e ↦ e.0 | inr e ↦ absurd (omega (arith, e.1)) ];
  after_last = λ h. elim (row_after_cases n j tall l) [ inl e ↦ absurd (omega (arith, e.1)) | inr e ↦ e.0 ];
}

pub column_at : (start width x j : ℕ) (rows : List ℤ) → column start width rows x (start + j) ≡ signed_at rows (j * width + x)
column_at start width x j rows = ap (λ k. signed_at rows (k * width + x)) (let e : start + j - start ≡ j = omega arith in e)

-- the first step is for the odd places forwards, and for the even ones backwards
first_step-high : (start height width x j : ℕ) (old : List ℤ) → 2 ≤ height → j < height →
    first_step high_pass height (λ i. signed_at old (i * width + x)) j ≡ high_at start (start + height) (column start width old x) (start + j)
first_step-high start height width x j old tall l =
    sym (high_place start height (column start width old x) j (row_before j) (row_after height j) (are_neighbours height j tall l)
    ∙ rw (column_at, column_at, column_at) refl)

first_step-even : (start height width x j : ℕ) (old : List ℤ) → 2 ≤ height → j < height →
    first_step even_sample height (λ i. signed_at old (i * width + x)) j ≡ even_at start (start + height) (column start width old x) (start + j)
first_step-even start height width x j old tall l =
    sym (even_place start height (column start width old x) j (row_before j) (row_after height j) (are_neighbours height j tall l)
    ∙ rw (column_at, column_at, column_at) refl)

row_before-lt : (n j : ℕ) → 2 ≤ n → j < n → row_before j < n
row_before-lt n j tall l = elim (row_before_cases j) [ inl e ↦ omega arith | inr z ↦ omega (arith, z.1) ]

row_after-lt : (n j : ℕ) → 2 ≤ n → j < n → row_after n j < n
row_after-lt n j tall l = elim (row_after_cases n j tall l) [ inl e ↦ omega (arith, e.0, e.1) | inr e ↦ omega (arith, e.0) ]

both_steps-lifted : (start height width x j : ℕ) (old : List ℤ) → 2 ≤ height → j < height →
    both_steps high_pass low_pass (start % 2) height (λ i. signed_at old (i * width + x)) j ≡ lifted start (start + height) (column start width old x) (start + j)
both_steps-lifted start height width x j old tall l =
    let was : ℕ → ℤ = λ i. signed_at old (i * width + x) in
    elim (cases_eq (j % 2) (start % 2)) [
      | inl same ↦
          both_steps-second high_pass low_pass (start % 2) height was j same
          ∙ rw (
            low_place start height (column start width old x) j (row_before j) (row_after height j) (are_neighbours height j tall l) (omega arith),
            column_at,
            first_step-high start height width x (row_before j) old tall (row_before-lt height j tall l),
            first_step-high start height width x (row_after height j) old tall (row_after-lt height j tall l),
          ) refl
      | inr other ↦
          both_steps-first high_pass low_pass (start % 2) height was j other ∙ first_step-high start height width x j old tall l
          ∙ sym (lifted_odd start (start + height) (column start width old x) (start + j) (omega arith) (omega arith))
    ]

both_steps-unlifted : (start height width x j : ℕ) (old : List ℤ) → 2 ≤ height → j < height →
    both_steps even_sample odd_sample (1 - start % 2) height (λ i. signed_at old (i * width + x)) j ≡ unlifted start (start + height) (column start width old x) (start + j)
both_steps-unlifted start height width x j old tall l =
    let was : ℕ → ℤ = λ i. signed_at old (i * width + x) in
    elim (cases_eq (j % 2) (1 - start % 2)) [
      | inl same ↦
          both_steps-second even_sample odd_sample (1 - start % 2) height was j same
          ∙ rw (
            odd_place start height (column start width old x) j (row_before j) (row_after height j) (are_neighbours height j tall l) (omega arith),
            column_at,
            first_step-even start height width x (row_before j) old tall (row_before-lt height j tall l),
            first_step-even start height width x (row_after height j) old tall (row_after-lt height j tall l),
          ) refl
      | inr other ↦
          both_steps-first even_sample odd_sample (1 - start % 2) height was j other ∙ first_step-even start height width x j old tall l
          ∙ sym (unlifted_even start (start + height) (column start width old x) (start + j) (omega arith) (omega arith))
    ]

-- from rows numbered from 0 to places; the code finds the height by a division
height_is : (height width n : ℕ) → n ≡ height * width → 0 < width → n / width ≡ height
height_is height width n e wide = ap (λ k. k / width) e ∙ mul-div_cancel height wide

pub AnalysesRows-from : (start width : ℕ) (old new : List ℤ) → 1 < length old / width →
    ((x j : ℕ) → x < width → j < length old / width → signed_at new (j * width + x)
    ≡ both_steps high_pass low_pass (start % 2) (length old / width) (λ i. signed_at old (i * width + x)) j) →
    AnalysesRows start width old new
AnalysesRows-from start width old new tall by_rows height x i e w from to =
    let same : length old / width ≡ height = height_is height width (length old) e (omega arith) in
    let j : ℕ = i - start in
    let place : start + j ≡ i = omega arith in
    let made = by_rows x j w (omega arith) in
    subst (λ i. column start width new x i ≡ lifted start (start + height) (column start width old x) i) place
    (column_at start width x j new ∙ subst (λ h. signed_at new (j * width + x) ≡ both_steps high_pass low_pass (start % 2) h (λ i. signed_at old (i * width + x)) j) same made
    ∙ both_steps-lifted start height width x j old (omega arith) (omega arith))

pub SynthesisesRows-from : (start width : ℕ) (old new : List ℤ) → 1 < length old / width →
    ((x j : ℕ) → x < width → j < length old / width → signed_at new (j * width + x)
    ≡ both_steps even_sample odd_sample (1 - start % 2) (length old / width) (λ i. signed_at old (i * width + x)) j) →
    SynthesisesRows start width old new
SynthesisesRows-from start width old new tall by_rows height x i e w from to =
    let same : length old / width ≡ height = height_is height width (length old) e (omega arith) in
    let j : ℕ = i - start in
    let place : start + j ≡ i = omega arith in
    let made = by_rows x j w (omega arith) in
    subst (λ i. column start width new x i ≡ unlifted start (start + height) (column start width old x) i) place
    (column_at start width x j new ∙ subst (λ h. signed_at new (j * width + x) ≡ both_steps even_sample odd_sample (1 - start % 2) h (λ i. signed_at old (i * width + x)) j) same made
    ∙ both_steps-unlifted start height width x j old (omega arith) (omega arith))

-- a single row
pub AnalysesRows-one_even : (start width : ℕ) (rows : List ℤ) → length rows / width ≤ 1 → start % 2 ≡ 0 → AnalysesRows start width rows rows
AnalysesRows-one_even start width rows one even height x i e w from to =
    let same : length rows / width ≡ height = height_is height width (length rows) e (omega arith) in
    sym (lifted_one_even start (start + height) (column start width rows x) i (omega arith) (omega arith))

pub AnalysesRows-one_odd : (start width : ℕ) (old new : List ℤ) → length old / width ≤ 1 → start % 2 ≡ 1 →
    ((k : ℕ) → signed_at new k ≡ signed_at old k +ℤ signed_at old k) → AnalysesRows start width old new
AnalysesRows-one_odd start width old new one odd twice height x i e w from to =
    let same : length old / width ≡ height = height_is height width (length old) e (omega arith) in
    twice ((i - start) * width + x) ∙ sym (lifted_one_odd start (start + height) (column start width old x) i (omega arith) (omega arith))

pub SynthesisesRows-one_even : (start width : ℕ) (rows : List ℤ) → length rows / width ≤ 1 → start % 2 ≡ 0 → SynthesisesRows start width rows rows
SynthesisesRows-one_even start width rows one even height x i e w from to =
    let same : length rows / width ≡ height = height_is height width (length rows) e (omega arith) in
    sym (unlifted_one_even start (start + height) (column start width rows x) i (omega arith) (omega arith))

pub SynthesisesRows-one_odd : (start width : ℕ) (old new : List ℤ) → length old / width ≤ 1 → start % 2 ≡ 1 →
    ((k : ℕ) → signed_at new k ≡ floor_of (signed_at old k) 2) → SynthesisesRows start width old new
SynthesisesRows-one_odd start width old new one odd half height x i e w from to =
    let same : length old / width ≡ height = height_is height width (length old) e (omega arith) in
    half ((i - start) * width + x) ∙ sym (unlifted_one_odd start (start + height) (column start width old x) i (omega arith) (omega arith))
