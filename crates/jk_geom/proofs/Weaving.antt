-- Reduced grids, and how a resolution is woven of the one below it and three sub-bands.
use Rattle.std.proofs.Common.{◌≡◌, ℕ, ◌+◌, ◌-◌, ◌*◌, ◌/◌, ◌%◌, ◌^◌, ◌<◌, ◌≤◌, ◌⊎◌, inl, inr, ◌↔◌, refl, ap, sym, subst, arith}
use Rattle.std.proofs.lemmas.Nat.{pow_pos, pow-add}
use Rattle.std.proofs.lemmas.Bool.{cases_lt}
use Rattle.jk_math.specs.declared.rect.Rect.{Rect}
use Rattle.jk_math.specs.declared.orientation.Orientation.{Orientation}
use Rattle.jk_math.specs.declared.orientation.Orientation.TheVariants.{LL, HL, LH, HH}
use Rattle.jk_geom.specs.Rectangles.{ceil_div, across_offset, down_offset, resolution_area, band_area, IsWithin}
use Rattle.jk_geom.specs.Partitions.{reduced_area, woven_area, woven_x, woven_y, IsWoven}
use Rattle.jk_geom.proofs.Ceilings.{ceil_least}
use Rattle.jk_geom.proofs.Cells.{ceil_under, ceil_above, above_ceil}

abbrev whole_area : Rect → ℕ → Rect
whole_area s d = record { x0 = ceil_div s.x0 (2 ^ d); y0 = ceil_div s.y0 (2 ^ d); x1 = ceil_div s.x1 (2 ^ d); y1 = ceil_div s.y1 (2 ^ d) }

reduced_is : (a : Rect) (d : ℕ) → reduced_area a d ≡ whole_area a d
unfolding resolution_area
reduced_is a d = ap (λ n. whole_area a n) (let is : d - 0 ≡ d = omega arith in is)

-- a place of a reduced rectangle is that of each 2^d-th place of it
pub reduced_to : (a : Rect) (d x y : ℕ) → IsWithin (reduced_area a d) x y → IsWithin a (x * 2 ^ d) (y * 2 ^ d)
reduced_to a d x y h =
    let is = subst (λ (b : Rect). IsWithin b x y) (reduced_is a d) h in
    record {
      left = ceil_under a.x0 (2 ^ d) x (pow_pos d) is.left;
      right = ceil_above a.x1 (2 ^ d) x (pow_pos d) is.right;
      upper = ceil_under a.y0 (2 ^ d) y (pow_pos d) is.upper;
      lower = ceil_above a.y1 (2 ^ d) y (pow_pos d) is.lower;
    }

pub reduced_from : (a : Rect) (d x y : ℕ) → IsWithin a (x * 2 ^ d) (y * 2 ^ d) → IsWithin (reduced_area a d) x y
reduced_from a d x y is =
    subst (λ (b : Rect). IsWithin b x y) (sym (reduced_is a d)) (record {
      left = ceil_least a.x0 (2 ^ d) x (pow_pos d) is.left;
      right = above_ceil a.x1 (2 ^ d) x (pow_pos d) is.right;
      upper = ceil_least a.y0 (2 ^ d) y (pow_pos d) is.upper;
      lower = above_ceil a.y1 (2 ^ d) y (pow_pos d) is.lower;
    })

-- a bound of a part and that of the resolution
part_low : (value d b u : ℕ) → ceil_div (value - 2 ^ d * b) (2 ^ (d + 1)) ≤ u → ceil_div value (2 ^ d) ≤ 2 * u + b
part_low value d b u h =
    let p = 2 ^ d in
    let power : 2 ^ (d + 1) ≡ p * 2 = pow-add 2 d 1 in
    let under : value - p * b ≤ u * 2 ^ (d + 1) = ceil_under (value - p * b) (2 ^ (d + 1)) u (pow_pos (d + 1)) h in
    let times : u * 2 ^ (d + 1) ≡ u * (p * 2) = ap (λ n. u * n) power in
    let more : (2 * u + b) * p ≡ u * (p * 2) + p * b = omega arith in
    ceil_least value p (2 * u + b) (pow_pos d) (omega arith)

whole_low : (value d b u : ℕ) → ceil_div value (2 ^ d) ≤ 2 * u + b → ceil_div (value - 2 ^ d * b) (2 ^ (d + 1)) ≤ u
whole_low value d b u h =
    let p = 2 ^ d in
    let power : 2 ^ (d + 1) ≡ p * 2 = pow-add 2 d 1 in
    let under : value ≤ (2 * u + b) * p = ceil_under value p (2 * u + b) (pow_pos d) h in
    let times : u * 2 ^ (d + 1) ≡ u * (p * 2) = ap (λ n. u * n) power in
    let more : (2 * u + b) * p ≡ u * (p * 2) + p * b = omega arith in
    ceil_least (value - p * b) (2 ^ (d + 1)) u (pow_pos (d + 1)) (omega arith)

part_high : (value d b u : ℕ) → u < ceil_div (value - 2 ^ d * b) (2 ^ (d + 1)) → 2 * u + b < ceil_div value (2 ^ d)
part_high value d b u h = by (cases_lt (2 * u + b) (ceil_div value (2 ^ d)))
  where
    by : (2 * u + b < ceil_div value (2 ^ d)) ⊎ (ceil_div value (2 ^ d) ≤ 2 * u + b) → 2 * u + b < ceil_div value (2 ^ d)
    by (inl less) = less
    by (inr more) = let low = whole_low value d b u more in absurd (omega arith)

whole_high : (value d b u : ℕ) → 2 * u + b < ceil_div value (2 ^ d) → u < ceil_div (value - 2 ^ d * b) (2 ^ (d + 1))
whole_high value d b u h = by (cases_lt u (ceil_div (value - 2 ^ d * b) (2 ^ (d + 1))))
  where
    by : (u < ceil_div (value - 2 ^ d * b) (2 ^ (d + 1))) ⊎ (ceil_div (value - 2 ^ d * b) (2 ^ (d + 1)) ≤ u) → u < ceil_div (value - 2 ^ d * b) (2 ^ (d + 1))
    by (inl less) = less
    by (inr more) = let low = part_low value d b u more in absurd (omega arith)

-- a part as all parts are: its bounds with the offsets 0 or 1
abbrev part_area : Rect → (d a b : ℕ) → Rect
part_area s d a b = record {
  x0 = ceil_div (s.x0 - 2 ^ d * a) (2 ^ (d + 1));
  y0 = ceil_div (s.y0 - 2 ^ d * b) (2 ^ (d + 1));
  x1 = ceil_div (s.x1 - 2 ^ d * a) (2 ^ (d + 1));
  y1 = ceil_div (s.y1 - 2 ^ d * b) (2 ^ (d + 1));
}

part_within : (s : Rect) (d a b u v : ℕ) → IsWithin (whole_area s d) (2 * u + a) (2 * v + b) ↔ IsWithin (part_area s d a b) u v
part_within s d a b u v = (
  (λ is. record {
    left = whole_low s.x0 d a u is.left;
    right = whole_high s.x1 d a u is.right;
    upper = whole_low s.y0 d b v is.upper;
    lower = whole_high s.y1 d b v is.lower;
  }),
  (λ is. record {
    left = part_low s.x0 d a u is.left;
    right = part_high s.x1 d a u is.right;
    upper = part_low s.y0 d b v is.upper;
    lower = part_high s.y1 d b v is.lower;
  }),
)

-- each part is such a part
part_is : (s : Rect) (levels r : ℕ) (o : Orientation) → r < levels → woven_area s levels r o ≡ part_area s (levels - (r + 1)) (across_offset o) (down_offset o)
unfolding resolution_area band_area
part_is s levels r LL h =
    let d = levels - (r + 1) in
    let is : levels - r ≡ d + 1 = omega arith in
    let none : (v : ℕ) → v ≡ v - 2 ^ d * 0 = λ v. omega arith in
    λ i. record {
      x0 = ceil_div (none s.x0 i) (2 ^ (is i));
      y0 = ceil_div (none s.y0 i) (2 ^ (is i));
      x1 = ceil_div (none s.x1 i) (2 ^ (is i));
      y1 = ceil_div (none s.y1 i) (2 ^ (is i));
    }
part_is s levels r HL h = let d = levels - (r + 1) in let is : d + 1 - 1 ≡ d = omega arith in
    ap (λ e. record { x0 = ceil_div (s.x0 - 2 ^ e * 1) (2 ^ (d + 1)); y0 = ceil_div (s.y0 - 2 ^ e * 0) (2 ^ (d + 1)); x1 = ceil_div (s.x1 - 2 ^ e * 1) (2 ^ (d + 1)); y1 = ceil_div (s.y1 - 2 ^ e * 0) (2 ^ (d + 1)) }) is
part_is s levels r LH h = let d = levels - (r + 1) in let is : d + 1 - 1 ≡ d = omega arith in
    ap (λ e. record { x0 = ceil_div (s.x0 - 2 ^ e * 0) (2 ^ (d + 1)); y0 = ceil_div (s.y0 - 2 ^ e * 1) (2 ^ (d + 1)); x1 = ceil_div (s.x1 - 2 ^ e * 0) (2 ^ (d + 1)); y1 = ceil_div (s.y1 - 2 ^ e * 1) (2 ^ (d + 1)) }) is
part_is s levels r HH h = let d = levels - (r + 1) in let is : d + 1 - 1 ≡ d = omega arith in
    ap (λ e. record { x0 = ceil_div (s.x0 - 2 ^ e * 1) (2 ^ (d + 1)); y0 = ceil_div (s.y0 - 2 ^ e * 1) (2 ^ (d + 1)); x1 = ceil_div (s.x1 - 2 ^ e * 1) (2 ^ (d + 1)); y1 = ceil_div (s.y1 - 2 ^ e * 1) (2 ^ (d + 1)) }) is

whole_is : (s : Rect) (levels r : ℕ) → resolution_area s levels (r + 1) ≡ whole_area s (levels - (r + 1))
unfolding resolution_area
whole_is s levels r = refl

-- a place of a part, and where it goes
pub woven : (s : Rect) (levels r : ℕ) (o : Orientation) (u v : ℕ) → r < levels
    → IsWithin (resolution_area s levels (r + 1)) (woven_x o u) (woven_y o v) ↔ IsWithin (woven_area s levels r o) u v
woven s levels r o u v h =
    let d = levels - (r + 1) in
    let both = part_within s d (across_offset o) (down_offset o) u v in (
      (λ is. subst (λ (a : Rect). IsWithin a u v) (sym (part_is s levels r o h)) (both.0 (subst (λ (a : Rect). IsWithin a (woven_x o u) (woven_y o v)) (whole_is s levels r) is))),
      (λ is. subst (λ (a : Rect). IsWithin a (woven_x o u) (woven_y o v)) (sym (whole_is s levels r)) (both.1 (subst (λ (a : Rect). IsWithin a u v) (part_is s levels r o h) is))),
    )

-- each place is where a place of a part goes
pub woven_some : (x y : ℕ) → IsWoven x y
woven_some x y = by (cases_lt 0 (x % 2)) (cases_lt 0 (y % 2))
  where
    by : (0 < x % 2) ⊎ (x % 2 ≤ 0) → (0 < y % 2) ⊎ (y % 2 ≤ 0) → IsWoven x y
    by (inl a) (inl b) = record { part = HH; u = x / 2; v = y / 2; across = omega arith; down = omega arith }
    by (inl a) (inr b) = record { part = HL; u = x / 2; v = y / 2; across = omega arith; down = omega arith }
    by (inr a) (inl b) = record { part = LH; u = x / 2; v = y / 2; across = omega arith; down = omega arith }
    by (inr a) (inr b) = record { part = LL; u = x / 2; v = y / 2; across = omega arith; down = omega arith }

-- of one only
pub woven_one : (o p : Orientation) (u v w z : ℕ) → woven_x o u ≡ woven_x p w → woven_y o v ≡ woven_y p z → (o ≡ p) × (u ≡ w) × (v ≡ z)
woven_one LL LL u v w z a b = (refl, omega arith, omega arith)
woven_one HL HL u v w z a b = (refl, omega arith, omega arith)
woven_one LH LH u v w z a b = (refl, omega arith, omega arith)
woven_one HH HH u v w z a b = (refl, omega arith, omega arith)
woven_one LL HL u v w z a b = absurd (omega arith)
woven_one LL LH u v w z a b = absurd (omega arith)
woven_one LL HH u v w z a b = absurd (omega arith)
woven_one HL LL u v w z a b = absurd (omega arith)
woven_one HL LH u v w z a b = absurd (omega arith)
woven_one HL HH u v w z a b = absurd (omega arith)
woven_one LH LL u v w z a b = absurd (omega arith)
woven_one LH HL u v w z a b = absurd (omega arith)
woven_one LH HH u v w z a b = absurd (omega arith)
woven_one HH LL u v w z a b = absurd (omega arith)
woven_one HH HL u v w z a b = absurd (omega arith)
woven_one HH LH u v w z a b = absurd (omega arith)
