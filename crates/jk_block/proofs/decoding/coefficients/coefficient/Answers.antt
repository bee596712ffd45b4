use Rattle.std.proofs.Common.{◌*◌}
use Rattle.jk_scan.specs.Bits.{on}
use Rattle.jk_scan.proofs.Laws.{bit_true, bit_false}
use Rattle.jk_block.specs.Fields.{number_from}
use Rattle.jk_block.specs.decoding.Eights.{eight_bit}
use Rattle.jk_block.proofs.decoding.Eights.{signed_value, plain_value}
use Rattle.jk_block.proofs.decoding.coefficients.coefficient.Goals as goal

pub returns-then-eight-c-eq1 : goal.returns-then-eight-c-eq1
returns-then-eight-c-eq1 c =
    let e = c.args.eight in
    signed_value (on e.negative (8 * c.args.c)) c.magnitude-magnitude.result (number_from (eight_bit e c.args.c) 0 24) (bit_true e.negative (8 * c.args.c) c.if-eight-c-eq1.true) c.magnitude-magnitude.ensures.is c.magnitude-magnitude.ensures.small

pub returns-else-eight-c-eq1 : goal.returns-else-eight-c-eq1
returns-else-eight-c-eq1 c =
    let e = c.args.eight in
    plain_value (on e.negative (8 * c.args.c)) c.magnitude-magnitude.result (number_from (eight_bit e c.args.c) 0 24) (bit_false e.negative (8 * c.args.c) c.if-eight-c-eq1.false) c.magnitude-magnitude.ensures.is c.magnitude-magnitude.ensures.small
