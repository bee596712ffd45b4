use Rattle.std.proofs.Common.{◌<◌, ℕ, [], get_or}
use Rattle.jk_c.specs.Pixels.{ArePut}
use Rattle.jk_c.proofs.samples.put_image_bytes.Given as goal

abbrev pub invariant-loop-component : goal.invariant-loop-component
invariant-loop-component l = (c : ℕ) → c < l.component → ArePut l.components c (get_or l.image.planes c []) l.pixels
