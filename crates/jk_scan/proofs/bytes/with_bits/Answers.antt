use Rattle.std.proofs.Common.{◌+◌, ◌*◌, ◌∙◌, arith}
use Rattle.jk_scan.specs.Bits.{on}
use Rattle.jk_scan.proofs.ByteBits.{byte_digits, doubled, with_bits_of, with_bits_first, with_bits_next, with_bits_none}
use Rattle.jk_scan.proofs.bytes.with_bits.Goals as goal

pub returns : goal.returns
returns c x p =
    let n = c.args.numbers in
    let o = c.args.ones in
    let line = c.args.line in
    byte_digits (with_bits_of n o line) x (with_bits_first n o line x p) (with_bits_next n o line x 0 p (omega arith)) (with_bits_next n o line x 1 p (omega arith)) (with_bits_next n o line x 2 p (omega arith)) (with_bits_next n o line x 3 p (omega arith))
    (with_bits_none n o line x 5 p (omega arith) (omega arith)) (with_bits_none n o line x 6 p (omega arith) (omega arith)) (with_bits_none n o line x 7 p (omega arith) (omega arith))
    ∙ doubled (on o (8 * x + (line + 1))) (on n (8 * x + 0)) (on n (8 * x + 1)) (on n (8 * x + 2)) (on n (8 * x + 3))
