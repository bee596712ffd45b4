use Rattle.std.proofs.Common.{refl, arith}
use Rattle.jk_mqdec.proofs.Widening.{ahead-small, wide-ahead}
use Rattle.jk_mqdec.proofs.wide.fed_ahead.Goals as goal

pub overflow_add-result : goal.overflow_add-result
overflow_add-result c =
    let small = ahead-small c.byte.result c.args.old.count c.byte.ensures.byte in
    let room = c.requires.code in
    omega (arith, small, room)

pub returns-clause-code : goal.returns-clause-code
returns-clause-code c =
    let small = ahead-small c.byte.result c.args.old.count c.byte.ensures.byte in
    let room = c.requires.code in
    omega (arith, small, room)

pub returns-clause-holds : goal.returns-clause-holds
returns-clause-holds c = λ s h.
    let small = ahead-small c.byte.result c.args.old.count c.byte.ensures.byte in
    wide-ahead c.args.bytes.now c.args.old _ c.byte.result s c.byte.ensures.value c.byte.ensures.byte c.requires.plain c.requires.count (omega (arith, small)) refl refl refl h
