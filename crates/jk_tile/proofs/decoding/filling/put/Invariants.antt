use Rattle.std.proofs.Common.{◌≡◌, ℕ, length, All, if◌then◌else◌}
use Rattle.jk_math.specs.Raster.{plane_at}
use Rattle.jk_math.specs.Signed.{IsBelow}
use Rattle.jk_geom.specs.Rectangles.{IsWithin}
use Rattle.jk_tile.specs.Filling.{has, rows_above}
use Rattle.jk_tile.proofs.decoding.filling.put.Given as goal

abbrev pub invariant-loop-row : goal.invariant-loop-row
invariant-loop-row l = record {
  long : length l.plane ≡ length l.fn.plane;
  value : (x y : ℕ) → IsWithin l.area x y → plane_at l.area l.plane x y ≡ (if has (rows_above l.part l.row) x y then plane_at l.part l.values x y else plane_at l.area l.fn.plane x y);
  small : (m : ℕ) → All (IsBelow m) l.fn.plane → All (IsBelow m) l.values → All (IsBelow m) l.plane;
}
