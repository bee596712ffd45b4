-- What headers say of levels and the reduced image.
use Rattle.std.proofs.Common.{◌≡◌, ℕ, ◌+◌, ◌-◌, ◌*◌, ◌^◌, ◌<◌, ◌≤◌, false, leb, arith}
use Rattle.std.proofs.lemmas.Bool.{leb-false, or_parts}
use Rattle.std.proofs.lemmas.Nat.{pow_pos}
use Rattle.std.proofs.Math.Nat.{add-mul, le-mul_of_pos_right, mul-le-mul_left, mul-le-mul_right}
use Rattle.jk_math.specs.declared.rect.Rect.{Rect}
use Rattle.jk_marks.specs.declared.siz.Siz.{Siz}
use Rattle.jk_marks.specs.Siz.{IsSiz}
use Rattle.jk_geom.specs.Rectangles.{ceil_div, is_empty, resolution_area}
use Rattle.jk_geom.specs.Partitions.{image_area, reduced_area}
use Rattle.jk_geom.proofs.Laws.{ceil_covers, ceil_least, ceil_self}
use Rattle.jk_code.proofs.Planes.{HasFrame}

-- ---- the reduced image

-- what is reduced gets no longer
shrinks : (a b p : ℕ) → 0 < p → a ≤ b → ceil_div b p - ceil_div a p ≤ b - a
shrinks a b p some order =
    let c = ceil_div a p in
    let k = b - a in
    let covers : a ≤ c * p = ceil_covers a p some in
    let wide : k ≤ k * p = le-mul_of_pos_right k some in
    let both : (c + k) * p ≡ c * p + k * p = add-mul c k p in
    let least : ceil_div b p ≤ c + k = ceil_least b p (c + k) some (omega (arith, covers, wide, both, order)) in
    omega (arith, least)

pub smaller : (a b c d : ℕ) → a ≤ c → b ≤ d → a * b ≤ c * d
smaller a b c d h g =
    let first : a * b ≤ c * b = mul-le-mul_right b h in
    let second : c * b ≤ c * d = mul-le-mul_left c g in
    omega (arith, first, second)

-- A reduced image that isn't empty has a frame.
pub reduced_frame : (s : Siz) (d : ℕ) → IsSiz s → (reduced_area (image_area s) d).x0 < (reduced_area (image_area s) d).x1 → (reduced_area (image_area s) d).y0 < (reduced_area (image_area s) d).y1
    → HasFrame (reduced_area (image_area s) d)
unfolding resolution_area
reduced_frame s d is wide high =
    let p = 2 ^ (d - 0) in
    let some : 0 < p = pow_pos (d - 0) in
    let right = ceil_self s.x1 p some in
    let lower = ceil_self s.y1 p some in
    let across = shrinks s.x0 s.x1 p some (omega (arith, is.wide)) in
    let down = shrinks s.y0 s.y1 p some (omega (arith, is.high)) in
    let area = smaller (ceil_div s.x1 p - ceil_div s.x0 p) (ceil_div s.y1 p - ceil_div s.y0 p) (s.x1 - s.x0) (s.y1 - s.y0) across down in
    record {
      wide = omega (arith, wide);
      high = omega (arith, high);
      right = omega (arith, wide, right, is.right);
      lower = omega (arith, high, lower, is.lower);
      area = omega (arith, area, is.area);
    }

-- and only such a one
pub sides_of : (a : Rect) → is_empty a ≡ false → (a.x0 < a.x1) × (a.y0 < a.y1)
sides_of a e = let parts = or_parts (leb a.x1 a.x0) (leb a.y1 a.y0) e in (leb-false a.x1 a.x0 parts.0, leb-false a.y1 a.y0 parts.1)
