use Rattle.std.proofs.Common.{◌+◌, ◌*◌, ◌∙◌, arith}
use Rattle.jk_scan.specs.Bits.{on}
use Rattle.jk_scan.specs.WordNumbers.{of_digits}
use Rattle.jk_scan.proofs.ByteBits.{byte_digits, behind_sixteen, with_sixteen_of, with_sixteen_low, with_sixteen_four, with_sixteen_none}
use Rattle.jk_scan.proofs.bytes.with_sixteen.Goals as goal

pub returns : goal.returns
returns c x p =
    let n = c.args.numbers in
    byte_digits (with_sixteen_of n) x (with_sixteen_low n x 0 p (omega arith)) (with_sixteen_low n x 1 p (omega arith)) (with_sixteen_low n x 2 p (omega arith)) (with_sixteen_low n x 3 p (omega arith)) (with_sixteen_four n x p)
    (with_sixteen_none n x 5 p (omega arith) (omega arith)) (with_sixteen_none n x 6 p (omega arith) (omega arith)) (with_sixteen_none n x 7 p (omega arith) (omega arith))
    ∙ behind_sixteen (of_digits (on n (8 * x + 4 + 0)) (on n (8 * x + 4 + 1)) (on n (8 * x + 4 + 2)) (on n (8 * x + 4 + 3)))
