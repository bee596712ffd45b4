-- A row that is written one value after another.
use Rattle.std.proofs.Common.{◌≡◌, ◌≢◌, ℕ, ℤ, List, ◌+◌, ◌-◌, ◌*◌, ◌^◌, ◌<◌, length, set, All, pos, sym, ap, ◌∙◌, w32, to_z, of_z, arith}
use Rattle.std.proofs.lemmas.Int.{ints, to_z-of_z}
use Rattle.std.proofs.lemmas.List.{get_or-set_same, get_or-set_other}
use Rattle.std.proofs.lemmas.List.Elements.{All-get_or}
use borrow.Author.Count.{below_more}
use Rattle.jk_math.specs.declared.rect.Rect.{Rect}
use Rattle.jk_math.specs.Raster.{columns_of, raster}
use Rattle.jk_math.specs.Signed.{IsBelow, signed_at}
use Rattle.jk_math.proofs.Laws.{raster_is}
use Rattle.jk_wave.specs.climbing.Held.{rows_between}

-- the first k values are these
pub record IsWrittenUpto (value : ℕ → ℤ) (k : ℕ) (row : List ℤ) : Type 0 where
  pub done : (j : ℕ) → j < k → signed_at row j ≡ value j

pub written_none : (value : ℕ → ℤ) (row : List ℤ) → IsWrittenUpto value 0 row
written_none value row = record { done = λ j lt. absurd (omega arith) }

pub written_more : (value : ℕ → ℤ) (k : ℕ) (row : List ℤ) (v : ℤ) → IsWrittenUpto value k row → k < length row → v ≡ value k → IsWrittenUpto value (k + 1) (set row k v)
written_more value k row v is room here =
    let P : ℕ → Type 0 = λ j. signed_at (set row k v) j ≡ value j in
    record {
      done = below_more P k
          (λ j lt. let ne : j ≢ k = omega arith in rw get_or-set_other (is.done j lt))
          (rw get_or-set_same here);
    }

-- a small number of a list, as the code reads it
pub small_read : (values : List ℤ) (k : ℕ) → k < length values → All (IsBelow (2 ^ 28)) values → to_z w32 (of_z w32 (signed_at values k)) ≡ signed_at values k
small_read values k lt small =
    let s = All-get_or (IsBelow (2 ^ 28)) values k (pos 0) lt small in
    let low = s.0 in let high = s.1 in
    to_z-of_z w32 (signed_at values k) (omega (arith, ints, low, high))

-- a number that is passed on
pub passed_small : (z : ℤ) → IsBelow (2 ^ 29) z → to_z w32 (of_z w32 z) ≡ z
passed_small z h = let low = h.0 in let high = h.1 in to_z-of_z w32 z (omega (arith, ints, low, high))

pub of_each : (t : ℤ → ℤ → ℤ → ℤ) (a b c x y z : ℤ) → a ≡ x → b ≡ y → c ≡ z → t a b c ≡ t x y z
of_each t a b c x y z ea eb ec = ap (λ v. t v b c) ea ∙ ap (λ v. t x v c) eb ∙ ap (λ v. t x y v) ec

-- a row that has the values of g at row y of a rectangle is the list of that row
pub row_made : (a : Rect) (g : ℕ → ℕ → ℤ) (y : ℕ) (row : List ℤ) → length row ≡ columns_of a → ((k : ℕ) → k < columns_of a → signed_at row k ≡ g (a.x0 + k) y) → row ≡ raster (rows_between a y (y + 1)) g
row_made a g y row long each =
    let high : y + 1 - y ≡ 1 = omega arith in
    raster_is (rows_between a y (y + 1)) row g (long ∙ sym (ap (λ m. m * columns_of a) high ∙ (let o : 1 * columns_of a ≡ columns_of a = omega arith in o))) (λ x z h.
    let left = h.left in let right = h.right in let upper = h.upper in let lower = h.lower in
    let at : z ≡ y = omega arith in
    let here : z - y ≡ 0 = omega arith in
    let place : (z - y) * columns_of a + (x - a.x0) ≡ x - a.x0 = ap (λ m. m * columns_of a + (x - a.x0)) here ∙ (let o : 0 * columns_of a + (x - a.x0) ≡ x - a.x0 = omega arith in o) in
    let column : a.x0 + (x - a.x0) ≡ x = omega arith in
    ap (signed_at row) place ∙ each (x - a.x0) (omega arith) ∙ ap (λ m. g m y) column ∙ ap (g x) (sym at))
