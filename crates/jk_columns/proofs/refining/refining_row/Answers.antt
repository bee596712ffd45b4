use Rattle.std.proofs.Common.{◌+◌, ◌*◌, ◌<◌, arith}
use Rattle.std.specs.Int.{bit_not, w64}
use Rattle.std.specs.Int.RustNames.{bit_and}
use Rattle.jk_scan.specs.Bits.{on}
use Rattle.jk_columns.proofs.Moved.{row_is, not_bit, and_not_bit}
use Rattle.jk_columns.proofs.refining.refining_row.Goals as goal

pub returns : goal.returns
returns c = λ x h.
    let a = c.args in
    let k = 8 * x + (a.line + 1) in
    let within : k < 64 = omega arith in
    row_is c.moved.result c.moved-2.result c.moved-3.result c.moved-4.result c.moved-5.result c.moved-6.result x (on a.refined k) (on a.touched k) (on a.ones k) (on (bit_and a.touched (bit_not w64 a.refined)) k) (on (bit_not w64 a.refined) k) (on (bit_not w64 a.refined) k) (on (bit_not w64 a.refined) k) h
    (λ i l. c.moved.ensures x i h l) (λ i l. c.moved-2.ensures x i h l) (λ i l. c.moved-3.ensures x i h l) (λ i l. c.moved-4.ensures x i h l) (λ i l. c.moved-5.ensures x i h l) (λ i l. c.moved-6.ensures x i h l)
    (and_not_bit a.touched a.refined k (omega arith) within) (not_bit a.refined k (omega arith) within) (not_bit a.refined k (omega arith) within) (not_bit a.refined k (omega arith) within)
