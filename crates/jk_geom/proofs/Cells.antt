-- The cells of a grid, along one axis and in raster order.
use Rattle.std.proofs.Common.{◌≡◌, ℕ, ◌+◌, ◌-◌, ◌*◌, ◌/◌, ◌%◌, ◌^◌, ◌<◌, ◌≤◌, ◌⊎◌, inl, inr, false, nat_le, ap, sym, ◌∙◌, subst, arith}
use Rattle.std.specs.Prelude.{◌==◌}
use Rattle.std.proofs.Math.Nat.{mul-le-mul_right, div-mul-le_self}
use Rattle.std.proofs.lemmas.Nat.{div_below, le-div, div-add-mod', mod_below, pow_pos, pow-add}
use Rattle.std.proofs.lemmas.Bool.{cases_lt, cond-false, ne_eqb, lt-leb, or_from}
use Rattle.jk_math.specs.declared.rect.Rect.{Rect}
use Rattle.jk_geom.specs.Rectangles.{ceil_div, cell, meet, is_empty, IsWithin}
use Rattle.jk_geom.specs.Precincts.{span}
use Rattle.jk_geom.proofs.Ceilings.{ceil_covers, ceil_least}

-- what rounding up says of places
pub ceil_under : (a p x : ℕ) → 0 < p → ceil_div a p ≤ x → a ≤ x * p
ceil_under a p x some h =
    let covers : a ≤ ceil_div a p * p = ceil_covers a p some in
    let wide : ceil_div a p * p ≤ x * p = mul-le-mul_right p h in
    omega arith

pub ceil_above : (a p x : ℕ) → 0 < p → x < ceil_div a p → x * p < a
ceil_above a p x some h = by (cases_lt (x * p) a)
  where
    by : (x * p < a) ⊎ (a ≤ x * p) → x * p < a
    by (inl less) = less
    by (inr more) = let low : ceil_div a p ≤ x = ceil_least a p x some more in absurd (omega arith)

pub above_ceil : (a p x : ℕ) → 0 < p → x * p < a → x < ceil_div a p
above_ceil a p x some h = by (cases_lt x (ceil_div a p))
  where
    by : (x < ceil_div a p) ⊎ (ceil_div a p ≤ x) → x < ceil_div a p
    by (inl less) = less
    by (inr more) = let low : a ≤ x * p = ceil_under a p x some more in absurd (omega arith)

-- the cell of a place
pub cell_from : (u p : ℕ) → u / p * p ≤ u
cell_from u p = div-mul-le_self u p

pub cell_to : (u p : ℕ) → 0 < p → u < (u / p + 1) * p
cell_to u p some =
    let whole : u / p * p + u % p ≡ u = div-add-mod' u p in
    let rest : u % p < p = mod_below u p some in
    let more : (u / p + 1) * p ≡ u / p * p + p = omega arith in
    omega arith

pub cell_one : (c u p : ℕ) → 0 < p → c * p ≤ u → u < (c + 1) * p → c ≡ u / p
cell_one c u p some from to =
    let low : c ≤ u / p = le-div c u p some from in
    let high : u / p < c + 1 = div_below u p (c + 1) some to in
    omega arith

pub div_mono : (a b p : ℕ) → 0 < p → a ≤ b → a / p ≤ b / p
div_mono a b p some h = le-div (a / p) b p some (let low = cell_from a p in omega arith)

-- the cell of a place is among those that meet its side
pub cell_after : (lo u p : ℕ) → 0 < p → lo ≤ u → lo / p ≤ u / p
cell_after lo u p some h = div_mono lo u p some h

pub cell_before : (hi u p : ℕ) → 0 < p → u < hi → u / p < ceil_div hi p
cell_before hi u p some h = above_ceil hi p (u / p) some (let low = cell_from u p in omega arith)

-- the number of cells where there is a place
pub span_some : (lo hi e : ℕ) → lo < hi → span lo hi e ≡ ceil_div hi (2 ^ e) - lo / 2 ^ e
span_some lo hi e h = cond-false (lo == hi) 0 (ceil_div hi (2 ^ e) - lo / 2 ^ e) (ne_eqb lo hi (λ e. absurd (omega arith)))

-- a place of a woven side in the cells of a part
pub half_cell : (u b e : ℕ) → b ≤ 1 → 0 < e → (2 * u + b) / 2 ^ e ≡ u / 2 ^ (e - 1)
half_cell u b e one some =
    let p = 2 ^ (e - 1) in
    let pos : 0 < p = pow_pos (e - 1) in
    let power : 2 ^ e ≡ 2 * p = ap (λ n. 2 ^ n) (let is : e ≡ 1 + (e - 1) = omega arith in is) ∙ pow-add 2 1 (e - 1) in
    let from : u / p * p ≤ u = cell_from u p in
    let to : u < (u / p + 1) * p = cell_to u p pos in
    let wide : 0 < 2 ^ e = pow_pos e in
    let a : u / p * 2 ^ e ≡ 2 * (u / p * p) = ap (λ n. u / p * n) power ∙ omega arith in
    let b2 : (u / p + 1) * 2 ^ e ≡ 2 * ((u / p + 1) * p) = ap (λ n. (u / p + 1) * n) power ∙ omega arith in
    sym (cell_one (u / p) (2 * u + b) (2 ^ e) wide (omega arith) (omega arith))

-- places in raster order
pub raster_one : (n m w : ℕ) → n % w ≡ m % w → n / w ≡ m / w → n ≡ m
raster_one n m w column row =
    let a : n / w * w + n % w ≡ n = div-add-mod' n w in
    let b : m / w * w + m % w ≡ m = div-add-mod' m w in
    let c : n / w * w ≡ m / w * w = ap (λ q. q * w) row in
    omega arith

-- a place of a rectangle is in the cell of its own column and row
pub within_cell : (b : Rect) (c d ex ey x y : ℕ) → c ≡ x / 2 ^ ex → d ≡ y / 2 ^ ey → IsWithin b x y → IsWithin (meet (cell c d ex ey) b) x y
within_cell b c d ex ey x y hc hd is =
    let px : 0 < 2 ^ ex = pow_pos ex in
    let py : 0 < 2 ^ ey = pow_pos ey in
    let x_from : c * 2 ^ ex ≤ x = subst (λ n. n * 2 ^ ex ≤ x) (sym hc) (cell_from x (2 ^ ex)) in
    let x_to : x < (c + 1) * 2 ^ ex = subst (λ n. x < (n + 1) * 2 ^ ex) (sym hc) (cell_to x (2 ^ ex) px) in
    let y_from : d * 2 ^ ey ≤ y = subst (λ n. n * 2 ^ ey ≤ y) (sym hd) (cell_from y (2 ^ ey)) in
    let y_to : y < (d + 1) * 2 ^ ey = subst (λ n. y < (n + 1) * 2 ^ ey) (sym hd) (cell_to y (2 ^ ey) py) in
    record {
      left = (let a = is.left in omega arith);
      right = (let a = is.right in omega arith);
      upper = (let a = is.upper in omega arith);
      lower = (let a = is.lower in omega arith);
    }

-- and in no other
pub record IsCellOf (b : Rect) (c d ex ey x y : ℕ) : Type 0 where
  pub column : c ≡ x / 2 ^ ex
  pub row : d ≡ y / 2 ^ ey
  pub within : IsWithin b x y

pub cell_within : (b : Rect) (c d ex ey x y : ℕ) → IsWithin (meet (cell c d ex ey) b) x y → IsCellOf b c d ex ey x y
cell_within b c d ex ey x y is =
    let l = is.left in
    let r = is.right in
    let u = is.upper in
    let w = is.lower in
    record {
      column = cell_one c x (2 ^ ex) (pow_pos ex) (omega arith) (omega arith);
      row = cell_one d y (2 ^ ey) (pow_pos ey) (omega arith) (omega arith);
      within = record { left = omega arith; right = omega arith; upper = omega arith; lower = omega arith };
    }

-- a rectangle with a place isn't empty
pub within_some : (a : Rect) (x y : ℕ) → IsWithin a x y → is_empty a ≡ false
within_some a x y is =
    let l = is.left in
    let r = is.right in
    let u = is.upper in
    let w = is.lower in
    or_from (nat_le a.x1 a.x0) (nat_le a.y1 a.y0) (lt-leb a.x1 a.x0 (omega arith)) (lt-leb a.y1 a.y0 (omega arith))

pub sides_some : (a : Rect) → a.x0 < a.x1 → a.y0 < a.y1 → is_empty a ≡ false
sides_some a x y = or_from (nat_le a.x1 a.x0) (nat_le a.y1 a.y0) (lt-leb a.x1 a.x0 x) (lt-leb a.y1 a.y0 y)
