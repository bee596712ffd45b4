-- One row lifted between two others, and the places next to one.
use Rattle.std.proofs.Common.{◌≡◌, ℕ, ◌+◌, ◌-◌, ◌*◌, ◌%◌, ◌^◌, ◌<◌, ◌≤◌, inl, inr, List, length, ◌≢◌, ◌⊎◌, ℤ, pos, sym, ◌∙◌, ap, subst, arith}
use Rattle.std.specs.List.{All}
use Rattle.std.proofs.lemmas.Bool.{cases_eq}
use Rattle.std.proofs.lemmas.List.Elements.{All-from_get_or}
use Rattle.jk_math.specs.declared.rect.Rect.{Rect}
use Rattle.jk_math.specs.Signed.{IsBelow, signed_at}
use Rattle.jk_math.specs.Raster.{columns_of}
use Rattle.jk_lift.specs.Lifting.{before, after, even_sample, odd_sample, even_at, unlifted}
use Rattle.jk_lift.specs.Samples.{column, SynthesisesRows}
use Rattle.jk_lift.proofs.Laws.{even_at_is, unlifted_even, unlifted_odd, even_sample-within, unlifted_same, before_inside, before_first, after_inside, after_last}
use Rattle.jk_wave.specs.SourceRows.{IsRow}
use Rattle.jk_wave.specs.climbing.Held.{column_sample}

-- the places next to an odd one are even
pub beside_odd : (i0 i1 i : ℕ) → i0 + 2 ≤ i1 → i0 ≤ i → i < i1 → i % 2 ≡ 1 → (before i0 i1 i % 2 ≡ 0) × (after i0 i1 i % 2 ≡ 0)
beside_odd i0 i1 i tall from to odd = (left (cases_eq i i0), right (cases_eq (i + 1) i1))
  where
    left : (i ≡ i0) ⊎ (i ≢ i0) → before i0 i1 i % 2 ≡ 0
    left (inl e) = let at : before i0 i1 i ≡ i0 + 1 = ap (before i0 i1) e ∙ before_first i0 i1 tall in omega (arith, at, odd, e)
    left (inr ne) = let at : before i0 i1 i ≡ i - 1 = before_inside i0 i1 i tall (omega arith) to in omega (arith, at, odd)

    right : (i + 1 ≡ i1) ⊎ (i + 1 ≢ i1) → after i0 i1 i % 2 ≡ 0
    right (inl e) = let at : after i0 i1 i ≡ i - 1 = after_last i0 i1 i tall e in omega (arith, at, odd)
    right (inr ne) = let at : after i0 i1 i ≡ i + 1 = after_inside i0 i1 i tall from (omega arith) in omega (arith, at, odd)

-- the samples of an even row between the coefficients of two others
pub even_made : (a : Rect) (f : ℕ → ℕ → ℤ) (y : ℕ) (old left right new : List ℤ) → a.y0 + 2 ≤ a.y1 → y % 2 ≡ 0 →
    IsRow a (λ x. f x y) old → IsRow a (λ x. f x (before a.y0 a.y1 y)) left → IsRow a (λ x. f x (after a.y0 a.y1 y)) right → length new ≡ length old →
    ((k : ℕ) → k < length old → signed_at new k ≡ even_sample (signed_at old k) (signed_at left k) (signed_at right k)) →
    IsRow a (λ x. column_sample a f x y) new
even_made a f y old left right new tall even here there next same made = record {
  long = same ∙ here.long;
  each = λ k lt.
      let long = here.long in
      let x : ℕ = a.x0 + k in
      made k (omega arith)
      ∙ ap (λ z. even_sample z (signed_at left k) (signed_at right k)) (here.each k lt)
      ∙ ap (λ z. even_sample (f x y) z (signed_at right k)) (there.each k lt)
      ∙ ap (λ z. even_sample (f x y) (f x (before a.y0 a.y1 y)) z) (next.each k lt)
      ∙ sym (unlifted_even a.y0 a.y1 (f x) y tall even ∙ even_at_is a.y0 a.y1 (f x) y);
}

-- the samples of an odd row between the samples of two others
pub odd_made : (a : Rect) (f : ℕ → ℕ → ℤ) (y : ℕ) (old left right new : List ℤ) → a.y0 + 2 ≤ a.y1 → a.y0 ≤ y → y < a.y1 → y % 2 ≡ 1 →
    IsRow a (λ x. f x y) old → IsRow a (λ x. column_sample a f x (before a.y0 a.y1 y)) left → IsRow a (λ x. column_sample a f x (after a.y0 a.y1 y)) right → length new ≡ length old →
    ((k : ℕ) → k < length old → signed_at new k ≡ odd_sample (signed_at old k) (signed_at left k) (signed_at right k)) →
    IsRow a (λ x. column_sample a f x y) new
odd_made a f y old left right new tall from to odd here there next same made =
    let beside = beside_odd a.y0 a.y1 y tall from to odd in
    record {
      long = same ∙ here.long;
      each = λ k lt.
          let long = here.long in
          let x : ℕ = a.x0 + k in
          made k (omega arith)
          ∙ ap (λ z. odd_sample z (signed_at left k) (signed_at right k)) (here.each k lt)
          ∙ ap (λ z. odd_sample (f x y) z (signed_at right k)) (there.each k lt ∙ unlifted_even a.y0 a.y1 (f x) (before a.y0 a.y1 y) tall beside.0)
          ∙ ap (λ z. odd_sample (f x y) (even_at a.y0 a.y1 (f x) (before a.y0 a.y1 y)) z) (next.each k lt ∙ unlifted_even a.y0 a.y1 (f x) (after a.y0 a.y1 y) tall beside.1)
          ∙ sym (unlifted_odd a.y0 a.y1 (f x) y tall odd);
    }

-- how large the samples of an even row are
pub even_small : (old left right new : List ℤ) → length left ≡ length old → length right ≡ length old → length new ≡ length old →
    All (IsBelow (2 ^ 29)) old → All (IsBelow (2 ^ 29)) left → All (IsBelow (2 ^ 29)) right →
    ((k : ℕ) → k < length old → signed_at new k ≡ even_sample (signed_at old k) (signed_at left k) (signed_at right k)) →
    All (IsBelow (2 ^ 30 - 1)) new
even_small old left right new wide_left wide_right same small small_left small_right made = All-from_get_or (IsBelow (2 ^ 30 - 1)) new (pos 0) (λ k lt.
    let here : k < length old = omega arith in
    subst (IsBelow (2 ^ 30 - 1)) (sym (made k here))
    (even_sample-within (signed_at old k) (signed_at left k) (signed_at right k) (small k (pos 0) here) (small_left k (pos 0) (omega arith)) (small_right k (pos 0) (omega arith))))

-- the samples of the only row of a rectangle
pub only_made : (a : Rect) (f : ℕ → ℕ → ℤ) (old new : List ℤ) → a.y0 + 1 ≡ a.y1 → IsRow a (λ x. f x a.y0) old → length new ≡ length old →
    SynthesisesRows a.y0 (columns_of a) old new → IsRow a (λ x. column_sample a f x a.y0) new
only_made a f old new one is same says =
    let long = is.long in
    record {
      long = same ∙ long;
      each = λ k lt.
          let at : a.y0 - a.y0 ≡ 0 = omega arith in
          let there : (a.y0 - a.y0) * columns_of a + k ≡ k = ap (λ n. n * columns_of a + k) at ∙ (let e : 0 * columns_of a + k ≡ k = omega arith in e) in
          ap (signed_at new) (sym there)
          ∙ says 1 k a.y0 (omega arith) lt (omega arith) (omega arith)
          ∙ ap (λ n. unlifted a.y0 n (column a.y0 (columns_of a) old k) a.y0) one
          ∙ unlifted_same a.y0 a.y1 (column a.y0 (columns_of a) old k) (f (a.x0 + k)) a.y0 (omega arith) (omega arith)
          (λ j from to.
          let e : j ≡ a.y0 = omega arith in
          let first : (j - a.y0) * columns_of a + k ≡ k = ap (λ n. (n - a.y0) * columns_of a + k) e ∙ there in
          ap (signed_at old) first ∙ is.each k lt ∙ ap (f (a.x0 + k)) (sym e));
    }
