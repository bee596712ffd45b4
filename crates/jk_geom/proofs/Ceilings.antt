-- Division that rounds up, on whole numbers.
use Rattle.std.proofs.Common.{◌≡◌, ℕ, ◌+◌, ◌-◌, ◌*◌, ◌/◌, ◌%◌, ◌^◌, ◌<◌, ◌≤◌, Bool, true, false, nat_lt, if◌then◌else◌, arith}
use Rattle.std.proofs.Math.Nat.{div-mul-le_self, mul-le-mul_right, mul-le-mul_left, pow-le-pow_right}
use Rattle.std.proofs.lemmas.Nat.{div_below, div-add-mod', mod_below, pow_pos, rows}
use Rattle.jk_geom.specs.Rectangles.{ceil_div}
use Rattle.jk_geom.specs.Precincts.{band_exponent}

-- what is rounded up covers all
pub ceil_covers : (a p : ℕ) → 0 < p → a ≤ ceil_div a p * p
ceil_covers a p h =
    let whole : (a + p - 1) / p * p + (a + p - 1) % p ≡ a + p - 1 = div-add-mod' (a + p - 1) p in
    let rest : (a + p - 1) % p < p = mod_below (a + p - 1) p h in
    omega arith

-- and no more than that
pub ceil_close : (a p : ℕ) → 0 < p → ceil_div a p * p < a + p
ceil_close a p h =
    let below : (a + p - 1) / p * p ≤ a + p - 1 = div-mul-le_self (a + p - 1) p in
    omega arith

pub ceil_least : (a p x : ℕ) → 0 < p → a ≤ x * p → ceil_div a p ≤ x
ceil_least a p x h fits =
    let more : (x + 1) * p ≡ x * p + p = omega arith in
    let below : a + p - 1 < (x + 1) * p = omega arith in
    let under : (a + p - 1) / p < x + 1 = div_below (a + p - 1) p (x + 1) h below in
    omega arith

pub ceil_mono : (a b p : ℕ) → 0 < p → a ≤ b → ceil_div a p ≤ ceil_div b p
ceil_mono a b p h order =
    let covers : b ≤ ceil_div b p * p = ceil_covers b p h in
    let reaches : a ≤ ceil_div b p * p = omega arith in
    ceil_least a p (ceil_div b p) h reaches

pub ceil_self : (a p : ℕ) → 0 < p → ceil_div a p ≤ a
ceil_self a p h =
    let wide : a * 1 ≤ a * p = mul-le-mul_left a (omega arith) in
    let fits : a ≤ a * p = omega arith in
    ceil_least a p a h fits

-- the cells of a grid that meet the places from lo up to hi end before hi and one cell more
pub cell_fits : (lo hi e n : ℕ) → n < ceil_div hi (2 ^ e) - lo / 2 ^ e → (lo / 2 ^ e + n + 1) * 2 ^ e < hi + 2 ^ e
cell_fits lo hi e n h =
    let some : 0 < 2 ^ e = pow_pos e in
    let last : lo / 2 ^ e + n + 1 ≤ ceil_div hi (2 ^ e) = omega arith in
    let wide : (lo / 2 ^ e + n + 1) * 2 ^ e ≤ ceil_div hi (2 ^ e) * 2 ^ e = mul-le-mul_right (2 ^ e) last in
    let close : ceil_div hi (2 ^ e) * 2 ^ e < hi + 2 ^ e = ceil_close hi (2 ^ e) some in
    omega arith

pub power_small : (e : ℕ) → e ≤ 15 → 2 ^ e ≤ 32768
power_small e h = pow-le-pow_right (omega arith) h

-- so their numbers are small
pub cell_small : (lo hi e n : ℕ) → n < ceil_div hi (2 ^ e) - lo / 2 ^ e → hi < 2 ^ 31 → e ≤ 15 → (lo / 2 ^ e + n + 1) * 2 ^ e < 2 ^ 32
cell_small lo hi e n h top few =
    let fits = cell_fits lo hi e n h in
    let small : 2 ^ e ≤ 32768 = power_small e few in
    omega arith

pub number_small : (a e m : ℕ) → (a + 1) * 2 ^ e < m → a + 1 < m
number_small a e m h =
    let some : 1 ≤ 2 ^ e = pow_pos e in
    let wide : (a + 1) * 1 ≤ (a + 1) * 2 ^ e = mul-le-mul_left (a + 1) some in
    omega arith

-- a cell of half the size ends below where the cell ends
pub part_fits : (a e r m : ℕ) → (a + 1) * 2 ^ e < m → (a + 1) * 2 ^ band_exponent e r < m
part_fits a e r m h = by (nat_lt 0 r)
  where
    by : (b : Bool) → (a + 1) * 2 ^ (if b then e - 1 else e) < m
    by true =
        let less : 2 ^ (e - 1) ≤ 2 ^ e = pow-le-pow_right (omega arith) (omega arith) in
        let wide : (a + 1) * 2 ^ (e - 1) ≤ (a + 1) * 2 ^ e = mul-le-mul_left (a + 1) less in
        omega arith
    by false = h

-- the column and the row of a place in raster order
pub raster_column : (i across down : ℕ) → i < across * down → i % across < across
raster_column i across down h = grind arith

pub raster_row : (i across down : ℕ) → i < across * down → i / across < down
raster_row i across down h = grind (arith, rows)
