-- The rows of a plane, and the coefficients of its columns.
use Rattle.std.proofs.Common.{◌≡◌, ℕ, ◌+◌, ◌-◌, ◌*◌, ◌%◌, ◌^◌, ◌<◌, ◌≤◌, inl, inr, List, length, ℤ, pos, sym, ◌∙◌, ap, subst, arith}
use Rattle.std.specs.List.{All}
use Rattle.std.specs.Global.{Vec}
use Rattle.std.specs.Prelude.{Result, Ok, Err, OnOk}
use Rattle.std.specs.Vec.{with_items}
use Rattle.std.proofs.lemmas.Int.{ints}
use Rattle.std.proofs.lemmas.Bool.{cases_eq}
use Rattle.std.proofs.lemmas.List.Elements.{All-from_get_or}
use Rattle.jk_math.specs.declared.rect.Rect.{Rect}
use Rattle.jk_math.specs.Signed.{IsBelow, signed_at}
use Rattle.jk_math.specs.Raster.{columns_of}
use Rattle.jk_lift.specs.Lifting.{before, after, high_pass, low_pass, lifted}
use Rattle.jk_lift.specs.Samples.{column, AnalysesRows}
use Rattle.jk_lift.proofs.Laws.{grows_line, lifted_same, high_at_is, lifted_odd, lifted_even, before_inside, before_first}
use Rattle.jk_wave.proofs.Rows.{written_items}
use Rattle.jk_wave.specs.SourceRows.{IsRow, AreBelow, column_lifted, column_high}

-- a row of small values
pub row_small : (m : ℕ) (area : Rect) (g : ℕ → ℤ) (row : List ℤ) → IsRow area g row → ((x : ℕ) → area.x0 ≤ x → x < area.x1 → IsBelow m (g x)) → All (IsBelow m) row
row_small m area g row is small = All-from_get_or (IsBelow m) row (pos 0) (λ k lt.
    let long = is.long in
    subst (IsBelow m) (sym (is.each k (omega arith))) (small (area.x0 + k) (omega arith) (omega arith)))

-- a row that a source gave
pub row_given : (area : Rect) (g : ℕ → ℤ) (old row : List ℤ) → length row ≡ length old → length old ≡ columns_of area →
    ((k : ℕ) → k < columns_of area → signed_at row k ≡ g (area.x0 + k)) → IsRow area g row
row_given area g old row same long each = record { long = same ∙ long; each = each }

-- the high-pass coefficients of a row between two others
pub high_row : (area : Rect) (f : ℕ → ℕ → ℤ) (y b a : ℕ) (old left right new : List ℤ) → before area.y0 area.y1 y ≡ b → after area.y0 area.y1 y ≡ a →
    IsRow area (λ x. f x y) old → IsRow area (λ x. f x b) left → IsRow area (λ x. f x a) right → length new ≡ length old →
    ((k : ℕ) → k < length old → signed_at new k ≡ high_pass (signed_at old k) (signed_at left k) (signed_at right k)) →
    IsRow area (column_high area f y) new
high_row area f y b a old left right new is_b is_a here there next same made = record {
  long = same ∙ here.long;
  each = λ k lt.
      let long = here.long in
      let x : ℕ = area.x0 + k in
      made k (omega arith)
      ∙ ap (λ z. high_pass z (signed_at left k) (signed_at right k)) (here.each k lt)
      ∙ ap (λ z. high_pass (f x y) z (signed_at right k)) (there.each k lt ∙ ap (f x) (sym is_b))
      ∙ ap (λ z. high_pass (f x y) (f x (before area.y0 area.y1 y)) z) (next.each k lt ∙ ap (f x) (sym is_a))
      ∙ sym (high_at_is area.y0 area.y1 (f x) y);
}

-- the low-pass coefficients of a row between the high-pass ones of two others
pub low_row : (area : Rect) (f : ℕ → ℕ → ℤ) (y a : ℕ) (old left right new : List ℤ) → area.y0 + 2 ≤ area.y1 → y % 2 ≡ 0 → after area.y0 area.y1 y ≡ a →
    IsRow area (λ x. f x y) old → IsRow area (column_high area f (before area.y0 area.y1 y)) left → IsRow area (column_high area f a) right → length new ≡ length old →
    ((k : ℕ) → k < length old → signed_at new k ≡ low_pass (signed_at old k) (signed_at left k) (signed_at right k)) →
    IsRow area (column_lifted area f y) new
low_row area f y a old left right new tall even is_a here there next same made = record {
  long = same ∙ here.long;
  each = λ k lt.
      let long = here.long in
      let x : ℕ = area.x0 + k in
      made k (omega arith)
      ∙ ap (λ z. low_pass z (signed_at left k) (signed_at right k)) (here.each k lt)
      ∙ ap (λ z. low_pass (f x y) z (signed_at right k)) (there.each k lt)
      ∙ ap (λ z. low_pass (f x y) (column_high area f (before area.y0 area.y1 y) x) z) (next.each k lt ∙ ap (λ n. column_high area f n x) (sym is_a))
      ∙ sym (lifted_even area.y0 area.y1 (f x) y tall even);
}

-- at an odd place the high-pass coefficients are those of the columns
pub high_is : (area : Rect) (f : ℕ → ℕ → ℤ) (y : ℕ) (row : List ℤ) → area.y0 + 2 ≤ area.y1 → y % 2 ≡ 1 → IsRow area (column_high area f y) row → IsRow area (column_lifted area f y) row
high_is area f y row tall odd is = record {
  long = is.long;
  each = λ k lt. is.each k lt ∙ sym (lifted_odd area.y0 area.y1 (f (area.x0 + k)) y tall odd);
}

-- how large the coefficients of the columns get
pub lifted_below : (area : Rect) (f : ℕ → ℕ → ℤ) (y : ℕ) → AreBelow (2 ^ 28 - 1) area f → area.y0 ≤ y → y < area.y1 → (x : ℕ) → area.x0 ≤ x → x < area.x1 → IsBelow (2 ^ 29) (column_lifted area f y x)
lifted_below area f y small from to x left right =
    let grown = grows_line area.y0 area.y1 (2 ^ 28) (f x)
    (λ j up down. let s = small x j (record { left = left; right = right; upper = up; lower = down }) in
    let low = s.0 in let high = s.1 in omega (arith, ints, low, high)) y from to in
    elim (cases_eq (y % 2) 0) [
      | inl even ↦ let g = grown.1 even in (omega (arith, ints, g), omega (arith, ints, g))
      | inr ne ↦ let g = grown.0 (omega arith) in (omega (arith, ints, g), omega (arith, ints, g))
    ]

-- the rows that are lifted, and those that they are lifted with
pub samples_small : (area : Rect) (f : ℕ → ℕ → ℤ) (y : ℕ) (row : List ℤ) → AreBelow (2 ^ 28 - 1) area f → area.y0 ≤ y → y < area.y1 → IsRow area (λ x. f x y) row → All (IsBelow (2 ^ 29)) row
samples_small area f y row small from to is = row_small (2 ^ 29) area (λ x. f x y) row is (λ x left right.
    let s = small x y (record { left = left; right = right; upper = from; lower = to }) in
    let low = s.0 in let high = s.1 in (omega (arith, ints, low), omega (arith, ints, high)))

pub lifted_small : (area : Rect) (f : ℕ → ℕ → ℤ) (y : ℕ) (row : List ℤ) → AreBelow (2 ^ 28 - 1) area f → area.y0 ≤ y → y < area.y1 → IsRow area (column_lifted area f y) row → All (IsBelow (2 ^ 29)) row
lifted_small area f y row small from to is = row_small (2 ^ 29) area (column_lifted area f y) row is (lifted_below area f y small from to)

pub high_small : (area : Rect) (f : ℕ → ℕ → ℤ) (y : ℕ) (row : List ℤ) → AreBelow (2 ^ 28 - 1) area f → area.y0 + 2 ≤ area.y1 → area.y0 ≤ y → y < area.y1 → y % 2 ≡ 1 →
    IsRow area (column_high area f y) row → All (IsBelow (2 ^ 30 - 1)) row
high_small area f y row small tall from to odd is =
    row_small (2 ^ 30 - 1) area (column_lifted area f y) row (high_is area f y row tall odd is) (λ x left right.
    let s = lifted_below area f y small from to x left right in
    let low = s.0 in let high = s.1 in (omega (arith, ints, low), omega (arith, ints, high)))

-- the only row of a rectangle
pub only_row : (area : Rect) (f : ℕ → ℕ → ℤ) (old new : List ℤ) → area.y0 + 1 ≡ area.y1 → IsRow area (λ x. f x area.y0) old → length new ≡ length old →
    AnalysesRows area.y0 (columns_of area) old new → IsRow area (column_lifted area f area.y0) new
only_row area f old new one is same says =
    let long = is.long in
    record {
      long = same ∙ long;
      each = λ k lt.
          let at : area.y0 - area.y0 ≡ 0 = omega arith in
          let there : (area.y0 - area.y0) * columns_of area + k ≡ k = ap (λ n. n * columns_of area + k) at ∙ (let e : 0 * columns_of area + k ≡ k = omega arith in e) in
          ap (signed_at new) (sym there)
          ∙ says 1 k area.y0 (omega arith) lt (omega arith) (omega arith)
          ∙ ap (λ n. lifted area.y0 n (column area.y0 (columns_of area) old k) area.y0) one
          ∙ lifted_same area.y0 area.y1 (column area.y0 (columns_of area) old k) (f (area.x0 + k)) area.y0 (omega arith) (omega arith)
          (λ j from to.
          let e : j ≡ area.y0 = omega arith in
          let first : (j - area.y0) * columns_of area + k ≡ k = ap (λ n. (n - area.y0) * columns_of area + k) e ∙ there in
          ap (signed_at old) first ∙ is.each k lt ∙ ap (f (area.x0 + k)) (sym e));
    }

-- the same row by other names
pub row_like : (area : Rect) (f : ℕ → ℕ → ℤ) (y z : ℕ) (row given : List ℤ) → z ≡ y → given ≡ row → IsRow area (λ x. f x y) row → IsRow area (λ x. f x z) given
row_like area f y z row given ez eg is = subst (λ n. IsRow area (λ x. f x n) given) (sym ez) (subst (IsRow area (λ x. f x y)) (sym eg) is)

pub high_like : (area : Rect) (f : ℕ → ℕ → ℤ) (y z : ℕ) (row given : List ℤ) → z ≡ y → given ≡ row → IsRow area (column_high area f y) row → IsRow area (column_high area f z) given
high_like area f y z row given ez eg is = subst (λ n. IsRow area (column_high area f n) given) (sym ez) (subst (IsRow area (column_high area f y)) (sym eg) is)

-- the items of a vector that was written as a slice
pub vector_row : (v : Vec ℤ) (row : List ℤ) → length row ≡ length v.items → (with_items v row).items ≡ row
vector_row v row same = written_items v.len row v.items (omega (arith, same, v.ok.0)) same

pub lifted_like : (area : Rect) (f : ℕ → ℕ → ℤ) (y : ℕ) (row given : List ℤ) → given ≡ row → IsRow area (column_lifted area f y) row → IsRow area (column_lifted area f y) given
lifted_like area f y row given eg is = subst (IsRow area (column_lifted area f y)) (sym eg) is

-- the place before an even one, in the extended signal
pub place_before : (area : Rect) (y : ℕ) → area.y0 + 2 ≤ area.y1 → area.y0 ≤ y → y < area.y1 → y % 2 ≡ 0 →
    (area.y0 ≤ before area.y0 area.y1 y) × (before area.y0 area.y1 y < area.y1) × (before area.y0 area.y1 y % 2 ≡ 1)
place_before area y tall from to even = elim (cases_eq y area.y0) [
  | inl e ↦
      let at : before area.y0 area.y1 y ≡ area.y0 + 1 = ap (before area.y0 area.y1) e ∙ before_first area.y0 area.y1 tall in
      (omega (arith, at), omega (arith, at), ap (λ n. n % 2) at ∙ (let odd : (area.y0 + 1) % 2 ≡ 1 = omega (arith, e, even) in odd))
  | inr ne ↦
      let at : before area.y0 area.y1 y ≡ y - 1 = before_inside area.y0 area.y1 y tall (omega arith) to in
      (omega (arith, at), omega (arith, at), ap (λ n. n % 2) at ∙ (let odd : (y - 1) % 2 ≡ 1 = omega arith in odd))
]

-- what follows where a step is done
pub on_done : {A E P Q : Type 0} (r : Result A E) → (P → Q) → OnOk r P → OnOk r Q
on_done (Ok x) go p = go p
on_done (Err e) go p = tt
