use Rattle.std.proofs.Common.{◌≡◌, ℕ, ◌+◌, ap, ◌∙◌, arith}
use Rattle.jk_scan.specs.Bits.{on}
use Rattle.jk_scan.specs.WordNumbers.{of_digits}
use Rattle.jk_scan.proofs.HalfBits.{same_digits}
use Rattle.jk_scan.proofs.Beheld.{four_rows}
use Rattle.jk_scan.proofs.bytes.turned.Goals as goal

pub returns : goal.returns
returns c r q few within quarter =
    let a = c.args.a in
    let b = c.args.b in
    let d = c.args.d in
    let e = c.args.e in
    let even = c.even_bits-even in
    let odd = c.odd_bits-odd in
    let even2 = c.even_bits-even_behind in
    let odd2 = c.odd_bits-odd_behind in
    let low0 = c.low_pairs in
    let low1 = c.low_pairs-2 in
    let high0 = c.high_pairs in
    let high1 = c.high_pairs-2 in
    let at : (w m n : ℕ) → m ≡ n → on w m ≡ on w n = λ w m n g. ap (on w) g in
    four_rows (λ r w. of_digits (on w (q + 0)) (on w (q + 1)) (on w (q + 2)) (on w (q + 3)) ≡ of_digits (on a (q + r)) (on b (q + r)) (on d (q + r)) (on e (q + r))) low0.result low1.result high0.result high1.result
    (same_digits
    (low0.ensures.first (q + 0) (omega (arith, within, quarter)) (omega (arith, quarter)) ∙ even.ensures.first (q + 0) (omega (arith, within, quarter)) (omega (arith, quarter)))
    (low0.ensures.first (q + 1) (omega (arith, within, quarter)) (omega (arith, quarter)) ∙ even.ensures.second q within (omega (arith, quarter)) ∙ at b q (q + 0) (omega arith))
    (low0.ensures.second q within (omega (arith, quarter)) ∙ even2.ensures.first q within (omega (arith, quarter)) ∙ at d q (q + 0) (omega arith))
    (at low0.result (q + 3) (q + 1 + 2) (omega arith) ∙ low0.ensures.second (q + 1) (omega (arith, within, quarter)) (omega (arith, quarter)) ∙ even2.ensures.second q within (omega (arith, quarter)) ∙ at e q (q + 0) (omega arith)))
    (same_digits
    (low1.ensures.first (q + 0) (omega (arith, within, quarter)) (omega (arith, quarter)) ∙ odd.ensures.first (q + 0) (omega (arith, within, quarter)) (omega (arith, quarter)) ∙ at a (q + 0 + 1) (q + 1) (omega arith))
    (low1.ensures.first (q + 1) (omega (arith, within, quarter)) (omega (arith, quarter)) ∙ odd.ensures.second q within (omega (arith, quarter)))
    (low1.ensures.second q within (omega (arith, quarter)) ∙ odd2.ensures.first q within (omega (arith, quarter)))
    (at low1.result (q + 3) (q + 1 + 2) (omega arith) ∙ low1.ensures.second (q + 1) (omega (arith, within, quarter)) (omega (arith, quarter)) ∙ odd2.ensures.second q within (omega (arith, quarter))))
    (same_digits
    (high0.ensures.first (q + 0) (omega (arith, within, quarter)) (omega (arith, quarter)) ∙ even.ensures.first (q + 0 + 2) (omega (arith, within, quarter)) (omega (arith, quarter)) ∙ at a (q + 0 + 2) (q + 2) (omega arith))
    (high0.ensures.first (q + 1) (omega (arith, within, quarter)) (omega (arith, quarter)) ∙ at even.result (q + 1 + 2) (q + 2 + 1) (omega arith) ∙ even.ensures.second (q + 2) (omega (arith, within, quarter)) (omega (arith, quarter)))
    (high0.ensures.second q within (omega (arith, quarter)) ∙ even2.ensures.first (q + 2) (omega (arith, within, quarter)) (omega (arith, quarter)))
    (at high0.result (q + 3) (q + 1 + 2) (omega arith) ∙ high0.ensures.second (q + 1) (omega (arith, within, quarter)) (omega (arith, quarter)) ∙ at even2.result (q + 1 + 2) (q + 2 + 1) (omega arith) ∙ even2.ensures.second (q + 2) (omega (arith, within, quarter)) (omega (arith, quarter))))
    (same_digits
    (high1.ensures.first (q + 0) (omega (arith, within, quarter)) (omega (arith, quarter)) ∙ odd.ensures.first (q + 0 + 2) (omega (arith, within, quarter)) (omega (arith, quarter)) ∙ at a (q + 0 + 2 + 1) (q + 3) (omega arith))
    (high1.ensures.first (q + 1) (omega (arith, within, quarter)) (omega (arith, quarter)) ∙ at odd.result (q + 1 + 2) (q + 2 + 1) (omega arith) ∙ odd.ensures.second (q + 2) (omega (arith, within, quarter)) (omega (arith, quarter)) ∙ at b (q + 2 + 1) (q + 3) (omega arith))
    (high1.ensures.second q within (omega (arith, quarter)) ∙ odd2.ensures.first (q + 2) (omega (arith, within, quarter)) (omega (arith, quarter)) ∙ at d (q + 2 + 1) (q + 3) (omega arith))
    (at high1.result (q + 3) (q + 1 + 2) (omega arith) ∙ high1.ensures.second (q + 1) (omega (arith, within, quarter)) (omega (arith, quarter)) ∙ at odd2.result (q + 1 + 2) (q + 2 + 1) (omega arith) ∙ odd2.ensures.second (q + 2) (omega (arith, within, quarter)) (omega (arith, quarter)) ∙ at e (q + 2 + 1) (q + 3) (omega arith)))
    r few
