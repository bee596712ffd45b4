-- The rows that a level takes of a list of them.
use Rattle.std.proofs.Common.{◌≡◌, ℕ, ◌+◌, ◌-◌, ◌*◌, ◌^◌, ◌<◌, ◌≤◌, List, length, take, drop, ℤ, refl, sym, ◌∙◌, ap, arith}
use Rattle.std.specs.List.{All}
use Rattle.std.proofs.Math.Nat.{mul-le-mul_right}
use Rattle.jk_math.specs.declared.rect.Rect.{Rect}
use Rattle.jk_math.specs.Signed.{IsBelow, signed_at}
use Rattle.jk_math.specs.Raster.{columns_of, places_of, raster, plane_at}
use Rattle.jk_math.proofs.Laws.{raster_at, raster_is, raster_length}
use Rattle.jk_wave.specs.Levels.{row_of}
use Rattle.jk_wave.specs.SourceRows.{IsRow, AreBelow}
use Rattle.jk_wave.specs.climbing.Held.{rows_between}
use Rattle.jk_wave.proofs.Rows.{row_entry, row_length, row_inside}
use Rattle.jk_wave.proofs.Synthesis.{entry_size, size_below}
use Rattle.jk_wave.proofs.climbing.Stacking.{cut_rows}
use Rattle.jk_wave.proofs.climbing.Steps.{all_drop}
use Rattle.std.proofs.lemmas.List.Elements.{All-take}

-- a row ends in the list
pub row_ends : (w first t y n : ℕ) → first ≤ y → y < t → n ≡ (t - first) * w → (y - first) * w + w ≤ n
row_ends w first t y n from less long = let fits = row_inside w (t - first) (y - first) (omega arith) in omega (arith, fits, long)

-- the row that is cut out
pub row_taken : (a : Rect) (first t y k : ℕ) (f : ℕ → ℕ → ℤ) (fresh row : List ℤ) → first ≤ y → y < t → fresh ≡ raster (rows_between a first t) f → k ≡ columns_of a →
    row ≡ take k (drop ((y - first) * k) fresh) → IsRow a (λ x. f x y) row
row_taken a first t y k f fresh row from less is wide cut =
    let w = columns_of a in
    let long : length fresh ≡ (t - first) * w = ap length is ∙ raster_length (rows_between a first t) f in
    let at : row ≡ row_of w (y - first) fresh = cut ∙ ap (λ n. take n (drop ((y - first) * n) fresh)) wide in
    record {
      long = ap length at ∙ row_length w w (y - first) fresh refl (row_ends w first t y (length fresh) from less long);
      each = λ j lt.
          ap (λ l. signed_at l j) at ∙ row_entry w (y - first) fresh j lt
          ∙ ap (λ n. signed_at fresh ((y - first) * w + n)) (let e : j ≡ a.x0 + j - a.x0 = omega arith in e)
          ∙ ap (λ l. signed_at l ((y - first) * w + (a.x0 + j - a.x0))) is
          ∙ raster_at (rows_between a first t) f (a.x0 + j) y (record { left = omega arith; right = omega (arith, lt); upper = from; lower = less });
    }

-- a list of one row
pub row_alone : (a : Rect) (y t : ℕ) (f : ℕ → ℕ → ℤ) (fresh : List ℤ) → t ≡ y + 1 → fresh ≡ raster (rows_between a y t) f → IsRow a (λ x. f x y) fresh
row_alone a y t f fresh next is =
    let one : t - y ≡ 1 = omega (arith, next) in
    let none : y - y ≡ 0 = omega arith in
    record {
      long = ap length is ∙ raster_length (rows_between a y t) f ∙ ap (λ n. n * columns_of a) one ∙ (let e : 1 * columns_of a ≡ columns_of a = omega arith in e);
      each = λ j lt.
          ap (signed_at fresh) ((let e : j ≡ 0 * columns_of a + (a.x0 + j - a.x0) = omega arith in e) ∙ ap (λ n. n * columns_of a + (a.x0 + j - a.x0)) (sym none))
          ∙ ap (λ l. signed_at l ((y - y) * columns_of a + (a.x0 + j - a.x0))) is
          ∙ raster_at (rows_between a y t) f (a.x0 + j) y (record { left = omega arith; right = omega (arith, lt); upper = omega arith; lower = omega (arith, next) });
    }

-- rows of a list of samples: where they end, what they are, and how large all are
pub cut_fits : (a : Rect) (p q n : ℕ) → a.y0 ≤ p → p ≤ q → q ≤ a.y1 → n ≡ places_of a → (p - a.y0) * columns_of a + (q - p) * columns_of a ≤ n
cut_fits a p q n from order to long =
    let w = columns_of a in
    let sum : (p - a.y0) * w + (q - p) * w ≡ (p - a.y0 + (q - p)) * w = grind arith in
    let fits : (p - a.y0 + (q - p)) * w ≤ (a.y1 - a.y0) * w = mul-le-mul_right w (omega (arith, from, order, to)) in
    omega (arith, sum, fits, long)

pub cut_is : (a : Rect) (p q : ℕ) (samples : List ℤ) → a.y0 ≤ p → p ≤ q → q ≤ a.y1 → length samples ≡ places_of a →
    take ((q - p) * columns_of a) (drop ((p - a.y0) * columns_of a) samples) ≡ raster (rows_between a p q) (plane_at a samples)
cut_is a p q samples from order to long =
    cut_rows a p q ((p - a.y0) * columns_of a) ((q - p) * columns_of a) (plane_at a samples) samples from order to (raster_is a samples (plane_at a samples) long (λ x y h. refl)) refl refl

pub plane_small : (a : Rect) (samples : List ℤ) → All (IsBelow (2 ^ 17)) samples → AreBelow (2 ^ 17) a (plane_at a samples)
plane_small a samples small x y h = size_below (2 ^ 17) (plane_at a samples x y) (entry_size (2 ^ 17) samples (omega arith) small ((y - a.y0) * columns_of a + (x - a.x0)))

pub part_small : (m n k : ℕ) (xs : List ℤ) → All (IsBelow m) xs → All (IsBelow m) (take k (drop n xs))
part_small m n k xs small = All-take (IsBelow m) k (drop n xs) (all_drop (IsBelow m) n xs small)
