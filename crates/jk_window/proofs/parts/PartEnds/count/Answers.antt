use Rattle.std.proofs.Common.{◌-◌, sym, ◌∙◌, arith}
use Rattle.jk_window.proofs.PartLaws.{count_of_first, count_of_later, rises_from}
use Rattle.jk_window.proofs.parts.PartEnds.count.Goals as goal

pub overflow_sub-result : goal.overflow_sub-result
overflow_sub-result c =
    let n = c.args.number in
    let some = c.if-number-eq0.false in
    let rises = rises_from c.requires.ends.0 c.args.self.now.ends.items n (n - 1) c.index-end.result.now c.index.result.now c.requires.ends.1 (omega (arith, some)) c.requires.part in
    omega (arith, rises, c.index.ensures, c.index-end.ensures)

pub returns-then-number-eq0 : goal.returns-then-number-eq0
returns-then-number-eq0 c =
    c.index-end.ensures ∙ sym (count_of_first c.args.self.now.ends.items c.args.number c.index-end.result.now c.if-number-eq0.true c.requires.part)

pub returns-else-number-eq0 : goal.returns-else-number-eq0
returns-else-number-eq0 c =
    let n = c.args.number in
    let some = c.if-number-eq0.false in
    let count = count_of_later c.args.self.now.ends.items n (n - 1) c.index-end.result.now c.index.result.now (omega (arith, some)) c.requires.part in
    omega (arith, count, c.index.ensures, c.index-end.ensures)
