use Rattle.std.proofs.Common.{◌≡◌, ◌*◌, drop}
use Rattle.jk_options.specs.Sizes.{sizes_at}
use Rattle.jk_options.proofs.SizeLaws.{behind}
use Rattle.jk_options.proofs.sizes.sizes.Given as goal

abbrev pub invariant-loop-i : goal.invariant-loop-i
invariant-loop-i l = behind l.sizes.items (sizes_at (drop (2 * l.i) l.digits)) ≡ sizes_at l.digits
