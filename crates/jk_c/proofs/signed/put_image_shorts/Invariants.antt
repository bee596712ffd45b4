use Rattle.std.proofs.Common.{◌<◌, ℕ, [], get_or}
use Rattle.jk_c.specs.Signed.{ArePutSigned}
use Rattle.jk_c.proofs.signed.put_image_shorts.Given as goal

abbrev pub invariant-loop-component : goal.invariant-loop-component
invariant-loop-component l = (c : ℕ) → c < l.component → ArePutSigned l.components c (get_or l.image.planes c []) l.pixels
