use Rattle.std.proofs.Common.{◌≡◌, ◌+◌, ◌-◌, ◌*◌, ◌/◌, ◌%◌, ◌<◌, cond, get_or, refl, ap, ◌∙◌, arith}
use Rattle.jk_scan.specs.Surroundings.{Turns}
use Rattle.jk_scan.specs.declared.contexts.SignContext.{SignContext}
use Rattle.jk_scan.specs.Bits.{on}
use Rattle.jk_scan.specs.WordPlaces.{column, row}
use Rattle.jk_scan.specs.WordNumbers.{of_digits, byte_of, sign_byte}
use Rattle.jk_scan.proofs.Adding.{rows_between}
use Rattle.jk_scan.proofs.ByteBits.{doubled_small, sixteen_small}
use Rattle.jk_scan.proofs.HalfBits.{same_digits}
use Rattle.jk_scan.proofs.NearContexts.{zero_near, sign_near, doubled_same}
use Rattle.jk_scan.proofs.Beheld.{four_rows}
use Rattle.jk_scan.proofs.bytes.decision_bytes.Goals as goal

pub returns-clause-bits : goal.returns-clause-bits
returns-clause-bits c f j s centre k within on_row fits turns around =
    let between = rows_between (k % 8) on_row in
    let x = k / 8 in
    let r = k % 8 - 1 in
    let rows = c.turned-rows.result in
    let o = c.args.ones in
    let zeros = c.zero_digits-zeros.result in
    let few : r < 4 = omega (arith, between) in
    let col : x < 8 = omega (arith, within) in
    let here : 8 * x + (r + 1) ≡ k = omega (arith, between) in
    four_rows (λ r w. byte_of w x ≡ 2 * of_digits (on (get_or rows r 0) (8 * x + 0)) (on (get_or rows r 0) (8 * x + 1)) (on (get_or rows r 0) (8 * x + 2)) (on (get_or rows r 0) (8 * x + 3)) + cond (on o (8 * x + (r + 1))) 1 0) c.with_bits.result c.with_bits-2.result c.with_bits-3.result c.with_bits-4.result
    (c.with_bits.ensures x col) (c.with_bits-2.ensures x col) (c.with_bits-3.ensures x col) (c.with_bits-4.ensures x col) r few
    ∙ doubled_same
    (c.turned-rows.ensures r (8 * x) few (omega (arith, col)) (omega arith)
    ∙ same_digits (c.paired.ensures.low x r col few ∙ ap (on zeros.ones) here) (c.paired-2.ensures.low x r col few ∙ ap (on zeros.twos) here) (c.paired-3.ensures.low x r col few ∙ ap (on zeros.fours) here) (c.paired-4.ensures.low x r col few ∙ ap (on zeros.eights) here)
    ∙ c.zero_digits-zeros.ensures k within
    ∙ zero_near c.args.orientation f (column j k) (row s k) c.near_words-near.result k (c.near_words-near.ensures f j s centre k within on_row fits turns around)) (ap (on o) here)

pub returns-clause-signs : goal.returns-clause-signs
returns-clause-signs c f n j s centre k within on_row fits turns around negative =
    let between = rows_between (k % 8) on_row in
    let x = k / 8 in
    let r = k % 8 - 1 in
    let rows = c.turned-rows.result in
    let own = c.args.negative.centre in
    let signs = c.sign_digits-signs.result in
    let few : r < 4 = omega (arith, between) in
    let col : x < 8 = omega (arith, within) in
    let here : 8 * x + (r + 1) ≡ k = omega (arith, between) in
    let still : Turns own own own k = record { before = λ m l. refl; behind = λ m l h. refl } in
    four_rows (λ r w. byte_of w x ≡ 16 + of_digits (on (get_or rows r 0) (8 * x + 4 + 0)) (on (get_or rows r 0) (8 * x + 4 + 1)) (on (get_or rows r 0) (8 * x + 4 + 2)) (on (get_or rows r 0) (8 * x + 4 + 3))) c.with_sixteen.result c.with_sixteen-2.result c.with_sixteen-3.result c.with_sixteen-4.result
    (c.with_sixteen.ensures x col) (c.with_sixteen-2.ensures x col) (c.with_sixteen-3.ensures x col) (c.with_sixteen-4.ensures x col) r few
    ∙ ap (λ m. 16 + m)
    (c.turned-rows.ensures r (8 * x + 4) few (omega (arith, col)) (omega arith)
    ∙ same_digits (c.paired.ensures.high x r col few ∙ ap (on signs.ones) here) (c.paired-2.ensures.high x r col few ∙ ap (on signs.twos) here) (c.paired-3.ensures.high x r col few ∙ ap (on signs.fours) here) (c.paired-4.ensures.high x r col few ∙ ap (on signs.eights) here))
    ∙ c.sign_digits-signs.ensures k within
    ∙ ap (λ (q : SignContext). sign_byte q (on own k))
    (sign_near f n (column j k) (row s k) c.near_words-near.result c.near_words.result k (c.near_words-near.ensures f j s centre k within on_row fits turns around)
    (c.near_words.ensures n j s own k within on_row (omega arith) still (record { centre = negative.centre; west = negative.west; east = negative.east })))

pub returns-clause-small : goal.returns-clause-small
returns-clause-small c k within on_row =
    let between = rows_between (k % 8) on_row in
    let x = k / 8 in
    let rows = c.turned-rows.result in
    let o = c.args.ones in
    let col : x < 8 = omega (arith, within) in
    four_rows (λ r w. byte_of w x < 32) c.with_bits.result c.with_bits-2.result c.with_bits-3.result c.with_bits-4.result
    (doubled_small (byte_of c.with_bits.result x) (on (get_or rows 0 0) (8 * x + 0)) (on (get_or rows 0 0) (8 * x + 1)) (on (get_or rows 0 0) (8 * x + 2)) (on (get_or rows 0 0) (8 * x + 3)) (on o (8 * x + (0 + 1))) (c.with_bits.ensures x col))
    (doubled_small (byte_of c.with_bits-2.result x) (on (get_or rows 1 0) (8 * x + 0)) (on (get_or rows 1 0) (8 * x + 1)) (on (get_or rows 1 0) (8 * x + 2)) (on (get_or rows 1 0) (8 * x + 3)) (on o (8 * x + (1 + 1))) (c.with_bits-2.ensures x col))
    (doubled_small (byte_of c.with_bits-3.result x) (on (get_or rows 2 0) (8 * x + 0)) (on (get_or rows 2 0) (8 * x + 1)) (on (get_or rows 2 0) (8 * x + 2)) (on (get_or rows 2 0) (8 * x + 3)) (on o (8 * x + (2 + 1))) (c.with_bits-3.ensures x col))
    (doubled_small (byte_of c.with_bits-4.result x) (on (get_or rows 3 0) (8 * x + 0)) (on (get_or rows 3 0) (8 * x + 1)) (on (get_or rows 3 0) (8 * x + 2)) (on (get_or rows 3 0) (8 * x + 3)) (on o (8 * x + (3 + 1))) (c.with_bits-4.ensures x col))
    (k % 8 - 1) (omega (arith, between))

pub returns-clause-small_signs : goal.returns-clause-small_signs
returns-clause-small_signs c k within on_row =
    let between = rows_between (k % 8) on_row in
    let x = k / 8 in
    let rows = c.turned-rows.result in
    let col : x < 8 = omega (arith, within) in
    four_rows (λ r w. byte_of w x < 32) c.with_sixteen.result c.with_sixteen-2.result c.with_sixteen-3.result c.with_sixteen-4.result
    (sixteen_small (byte_of c.with_sixteen.result x) (on (get_or rows 0 0) (8 * x + 4 + 0)) (on (get_or rows 0 0) (8 * x + 4 + 1)) (on (get_or rows 0 0) (8 * x + 4 + 2)) (on (get_or rows 0 0) (8 * x + 4 + 3)) (c.with_sixteen.ensures x col))
    (sixteen_small (byte_of c.with_sixteen-2.result x) (on (get_or rows 1 0) (8 * x + 4 + 0)) (on (get_or rows 1 0) (8 * x + 4 + 1)) (on (get_or rows 1 0) (8 * x + 4 + 2)) (on (get_or rows 1 0) (8 * x + 4 + 3)) (c.with_sixteen-2.ensures x col))
    (sixteen_small (byte_of c.with_sixteen-3.result x) (on (get_or rows 2 0) (8 * x + 4 + 0)) (on (get_or rows 2 0) (8 * x + 4 + 1)) (on (get_or rows 2 0) (8 * x + 4 + 2)) (on (get_or rows 2 0) (8 * x + 4 + 3)) (c.with_sixteen-3.ensures x col))
    (sixteen_small (byte_of c.with_sixteen-4.result x) (on (get_or rows 3 0) (8 * x + 4 + 0)) (on (get_or rows 3 0) (8 * x + 4 + 1)) (on (get_or rows 3 0) (8 * x + 4 + 2)) (on (get_or rows 3 0) (8 * x + 4 + 3)) (c.with_sixteen-4.ensures x col))
    (k % 8 - 1) (omega (arith, between))
