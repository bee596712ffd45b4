-- The rectangles of tiles.
use Rattle.std.proofs.Common.{◌≡◌, ℕ, ◌+◌, ◌-◌, ◌*◌, ◌/◌, ◌%◌, ◌<◌, ◌≤◌, min, max, arith}
use Rattle.std.proofs.Math.Nat.{mul-le-mul_right, div-mul-le_self}
use Rattle.std.proofs.lemmas.Nat.{div_below, mod_below}
use Rattle.jk_marks.specs.declared.siz.Siz.{Siz}
use Rattle.jk_marks.specs.Siz.{IsSiz, tiles_across, tile_count}
use Rattle.jk_geom.specs.Rectangles.{IsArea, tile_area}

-- one of so many parts of a line begins in the line
begins : (x side n : ℕ) → 0 < side → n < (x + side - 1) / side → n * side < x
begins x side n some lt =
    let whole = div-mul-le_self (x + side - 1) side in
    let less : (n + 1) * side ≤ (x + side - 1) / side * side = mul-le-mul_right side (omega (arith, lt)) in
    let more : (n + 1) * side ≡ n * side + side = omega arith in
    omega (arith, whole, less, more, some)

ordered : (first side n start end : ℕ) → 0 < side → start < first + side → start < end → n < (end - first + side - 1) / side → max (first + n * side) start ≤ min (first + (n + 1) * side) end
ordered first side n start end some from order lt =
    let begin = begins (end - first) side n some lt in
    let more : (n + 1) * side ≡ n * side + side = omega arith in
    omega (arith, begin, more, from, order)

some_across : (t a b : ℕ) → t < a * b → 0 < a
some_across t a b lt = grind arith

turned : (t a b : ℕ) → t < a * b → t < b * a
turned t a b lt = let e : a * b ≡ b * a = omega arith in omega (arith, e, lt)

pub tile_is_area : (s : Siz) (t : ℕ) → IsSiz s → t < tile_count s → IsArea (tile_area s t)
unfolding tile_area
tile_is_area s t is lt =
    let some : 0 < tiles_across s = some_across t (tiles_across s) ((s.y1 - s.tile_y0 + s.tile_height - 1) / s.tile_height) lt in
    let column = mod_below t (tiles_across s) some in
    let row = div_below t (tiles_across s) ((s.y1 - s.tile_y0 + s.tile_height - 1) / s.tile_height) some (turned t (tiles_across s) ((s.y1 - s.tile_y0 + s.tile_height - 1) / s.tile_height) lt) in
    let right = is.right in let lower = is.lower in
    record {
      left = ordered s.tile_x0 s.tile_width (t % tiles_across s) s.x0 s.x1 is.tile_wide is.tile_right is.wide column;
      upper = ordered s.tile_y0 s.tile_height (t / tiles_across s) s.y0 s.y1 is.tile_high is.tile_lower is.high row;
      right = omega (arith, right);
      lower = omega (arith, lower);
    }
