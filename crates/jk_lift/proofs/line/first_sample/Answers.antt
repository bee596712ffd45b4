use Rattle.std.proofs.Common.{◌-◌, ◌%◌, ◌∙◌, refl, arith, length}
use Rattle.jk_lift.proofs.Neighbours.{before_at}
use Rattle.jk_lift.proofs.Places.{read_below, even_read, at_first, at_inside, at_last, passed_is}
use Rattle.jk_lift.proofs.line.first_sample.Goals as goal

pub returns-then-start-eq0-clause-value : goal.returns-then-start-eq0-clause-value
returns-then-start-eq0-clause-value c =
    let n = length c.args.line.now in
    let small = read_below c.args.high.now c.requires.small_high in
    let place = before_at c.args.start n (1 - c.args.start % 2) 0 c.requires.long (omega arith) (λ h. omega arith) (λ h. omega arith) in
    passed_is _ (c.even_sample-first.ensures.within (small _) (small _))
    ∙ even_read c.args.start n c.args.low.now c.args.high.now 0 0 0 0 1 1 _ _ c.requires.small_low c.requires.small_high (at_first n 0 1 1 c.requires.long refl refl refl)
    (omega arith) (omega arith) (omega arith) place c.even_sample-first.ensures.value

pub returns-then-high-gt1-clause-value : goal.returns-then-high-gt1-clause-value
returns-then-high-gt1-clause-value c =
    let n = length c.args.line.now in
    let small = read_below c.args.high.now c.requires.small_high in
    let place = before_at c.args.start n (1 - c.args.start % 2) 1 c.requires.long (omega arith) (λ h. omega arith) (λ h. omega arith) in
    passed_is _ (c.even_sample.ensures.within (small _) (small _))
    ∙ even_read c.args.start n c.args.low.now c.args.high.now 0 0 1 1 0 2 _ _ c.requires.small_low c.requires.small_high (at_inside n 1 0 2 refl refl (omega arith))
    (omega arith) (omega arith) (omega arith) place c.even_sample.ensures.value

pub returns-then-high-gt1-clause-within : goal.returns-then-high-gt1-clause-within
returns-then-high-gt1-clause-within c =
    let small = read_below c.args.high.now c.requires.small_high in
    let near = c.even_sample.ensures.within (small _) (small _) in
    rw (passed_is _ near) near

pub returns-else-high-gt1-clause-value : goal.returns-else-high-gt1-clause-value
returns-else-high-gt1-clause-value c =
    let n = length c.args.line.now in
    let small = read_below c.args.high.now c.requires.small_high in
    let place = before_at c.args.start n (1 - c.args.start % 2) 1 c.requires.long (omega arith) (λ h. omega arith) (λ h. omega arith) in
    passed_is _ (c.even_sample-else-high-gt1.ensures.within (small _) (small _))
    ∙ even_read c.args.start n c.args.low.now c.args.high.now 0 0 0 1 0 0 _ _ c.requires.small_low c.requires.small_high (at_last n 1 0 0 refl refl (omega arith))
    (omega arith) (omega arith) (omega arith) place c.even_sample-else-high-gt1.ensures.value
