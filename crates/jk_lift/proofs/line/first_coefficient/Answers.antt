use Rattle.std.proofs.Common.{◌%◌, ◌∙◌, refl, arith, length}
use Rattle.jk_lift.proofs.Neighbours.{before_at}
use Rattle.jk_lift.proofs.Places.{read_below, high_read, at_first, at_inside, at_last, passed_is}
use Rattle.jk_lift.proofs.line.first_coefficient.Goals as goal

pub returns-then-start-eq1-clause-value : goal.returns-then-start-eq1-clause-value
returns-then-start-eq1-clause-value c =
    let n = length c.args.line.now in
    let small = read_below c.args.line.now c.requires.small in
    let place = before_at c.args.start n (c.args.start % 2) 0 c.requires.long (omega arith) (λ h. omega arith) (λ h. omega arith) in
    passed_is _ (c.high_pass-first.ensures.within (small 1) (small 1))
    ∙ high_read c.args.start c.args.line.now 0 1 1 _ _ c.requires.small (at_first n 0 1 1 c.requires.long refl refl refl) place c.high_pass-first.ensures.value

pub returns-then-line-gt2-clause-value : goal.returns-then-line-gt2-clause-value
returns-then-line-gt2-clause-value c =
    let n = length c.args.line.now in
    let small = read_below c.args.line.now c.requires.small in
    let place = before_at c.args.start n (c.args.start % 2) 1 c.requires.long (omega arith) (λ h. omega arith) (λ h. omega arith) in
    passed_is _ (c.high_pass.ensures.within (small 0) (small 2))
    ∙ high_read c.args.start c.args.line.now 1 0 2 _ _ c.requires.small (at_inside n 1 0 2 refl refl (omega arith)) place c.high_pass.ensures.value

pub returns-else-line-gt2-clause-value : goal.returns-else-line-gt2-clause-value
returns-else-line-gt2-clause-value c =
    let n = length c.args.line.now in
    let small = read_below c.args.line.now c.requires.small in
    let place = before_at c.args.start n (c.args.start % 2) 1 c.requires.long (omega arith) (λ h. omega arith) (λ h. omega arith) in
    passed_is _ (c.high_pass-else-line-gt2.ensures.within (small 0) (small 0))
    ∙ high_read c.args.start c.args.line.now 1 0 0 _ _ c.requires.small (at_last n 1 0 0 refl refl (omega arith)) place c.high_pass-else-line-gt2.ensures.value
