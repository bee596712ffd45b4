-- Which cells of a line have a place of an interval.
use Rattle.std.proofs.Common.{◌≡◌, ℕ, ◌+◌, ◌*◌, ◌/◌, ◌^◌, ◌<◌, ◌≤◌, arith}
use Rattle.std.proofs.Math.Nat.{mul-le-mul_right}
use Rattle.std.proofs.lemmas.Nat.{pow_pos, div_below}
use Rattle.jk_geom.specs.Rectangles.{ceil_div}
use Rattle.jk_geom.proofs.Laws.{ceil_above, above_ceil, cell_to}
use Rattle.jk_window.specs.NeededNumbers.{IsShared}

-- such a cell is one of those from the cell of the first place up to that of the last
pub shared_from : (c e lo hi : ℕ) → IsShared c e lo hi → lo / 2 ^ e ≤ c
shared_from c e lo hi h =
    let below = div_below lo (2 ^ e) (c + 1) (pow_pos e) (omega arith) in
    omega arith

pub shared_to : (c e lo hi : ℕ) → IsShared c e lo hi → c < ceil_div hi (2 ^ e)
shared_to c e lo hi h = above_ceil hi (2 ^ e) c (pow_pos e) (omega arith)

-- and each of these is one
pub shared_between : (c e lo hi : ℕ) → lo < hi → lo / 2 ^ e ≤ c → c < ceil_div hi (2 ^ e) → IsShared c e lo hi
shared_between c e lo hi some from to =
    let p = 2 ^ e in
    let pos : 0 < p = pow_pos e in
    let under : c * p < hi = ceil_above hi p c pos to in
    let wide : (lo / p + 1) * p ≤ (c + 1) * p = mul-le-mul_right p (omega arith) in
    let over : lo < (lo / p + 1) * p = cell_to lo p pos in
    let own : (c + 1) * p ≡ c * p + p = omega arith in
    omega arith
