-- Stretches of resolutions, and the places near them.
use Rattle.std.proofs.Common.{◌≡◌, ℕ, ◌+◌, ◌/◌, ◌%◌, ◌<◌, ◌≤◌, add-one, refl, sym, ap, subst, ◌∙◌, arith}
use Rattle.jk_math.specs.declared.rect.Rect.{Rect}
use Rattle.jk_math.specs.declared.orientation.Orientation.{Orientation}
use Rattle.jk_math.specs.declared.orientation.Orientation.TheVariants.{LL, HL, LH, HH}
use Rattle.jk_geom.specs.Rectangles.{IsWithin, across_offset, down_offset}
use Rattle.jk_window.specs.Needs.{half_start, half_end, part_of_band, stretch, IsNear}

pub stretch_none : (u : Rect) → u ≡ stretch u 0
unfolding stretch
stretch_none u = refl

pub stretch_more : (u : Rect) (n : ℕ) → stretch u (n + 1) ≡ part_of_band (stretch u n) LL
unfolding stretch
stretch_more u n = ap (stretch u) (add-one n) ∙ refl

-- ---- places near a stretch

start_below : (o a x : ℕ) → o ≤ 1 → a ≤ x + 2 → x % 2 ≡ o → half_start o a ≤ x / 2
start_below o a x small near own = omega (arith, small, near, own)

end_above : (o b x : ℕ) → o ≤ 1 → x < b + 2 → x % 2 ≡ o → x / 2 < half_end o b
end_above o b x small near own = omega (arith, small, near, own)

across_small : (o : Orientation) → across_offset o ≤ 1
across_small LL = omega arith
across_small HL = omega arith
across_small LH = omega arith
across_small HH = omega arith

down_small : (o : Orientation) → down_offset o ≤ 1
down_small LL = omega arith
down_small HL = omega arith
down_small LH = omega arith
down_small HH = omega arith

-- A place near a stretch goes to a place of the part that the stretch depends on: of the resolution below, where it is even both
-- ways, and else of its sub-band.
pub near_part : (u : Rect) (o : Orientation) (x y : ℕ) → IsNear u x y → x % 2 ≡ across_offset o → y % 2 ≡ down_offset o → IsWithin (part_of_band u o) (x / 2) (y / 2)
near_part u o x y near across down = record {
  left = start_below (across_offset o) u.x0 x (across_small o) near.0 across;
  right = end_above (across_offset o) u.x1 x (across_small o) near.1 across;
  upper = start_below (down_offset o) u.y0 y (down_small o) near.2 down;
  lower = end_above (down_offset o) u.y1 y (down_small o) near.3 down;
}

pub near_stretch : (u : Rect) (n x y : ℕ) → IsNear (stretch u n) x y → x % 2 ≡ 0 → y % 2 ≡ 0 → IsWithin (stretch u (n + 1)) (x / 2) (y / 2)
near_stretch u n x y near across down = subst (λ (r : Rect). IsWithin r (x / 2) (y / 2)) (sym (stretch_more u n)) (near_part (stretch u n) LL x y near across down)
