use Rattle.std.proofs.Common.{ap, ◌∙◌, arith}
use Rattle.std.specs.Prelude.{◌&&◌}
use Rattle.std.specs.Int.{bit_not, w64}
use Rattle.jk_scan.specs.Bits.{on}
use Rattle.jk_scan.proofs.BitLaws.{on_and, on_not}
use Rattle.jk_scan.proofs.digits.without.Goals as goal

pub returns : goal.returns
returns c k l = on_and c.args.a (bit_not w64 c.args.b) k ∙ ap (λ t. on c.args.a k && t) (on_not w64 c.args.b k (omega arith) l)
