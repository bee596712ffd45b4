use Rattle.std.proofs.Common.{◌≡◌, ◌+◌, ◌-◌, ◌*◌, ◌≤◌, ◌++◌, ◌∷◌, [], length}
use Rattle.std.specs.Vec.{vec_len, vec_capacity}
use Rattle.jk_pnm.specs.Written.{raster_text}
use Rattle.jk_pnm.proofs.writing.put_wide_pixels.Given as goal

abbrev pub invariant-loop-pixel : goal.invariant-loop-pixel
invariant-loop-pixel l = record {
  items : l.out.items ≡ l.fn.out.items ++ raster_text l.maxval (l.red ∷ l.green ∷ l.blue ∷ []) l.pixel;
  room : vec_len l.out + 6 * (length l.red - l.pixel) ≤ vec_capacity l.out;
}
