use Rattle.std.proofs.Common.{sym, ◌∙◌, arith}
use Rattle.jk_math.specs.Steps.{if_ok_from}
use Rattle.jk_boxes.proofs.FileLaws.{jp2_takes}
use Rattle.jk_boxes.proofs.WrittenLaws.{placed}
use Rattle.jk_boxes.proofs.place.code_place.Goals as goal

pub returns-clause-before : goal.returns-clause-before
returns-clause-before c =
    if_ok_from c.find_code.result _ (λ p e. (placed c.args.file.now p (jp2_takes c.args.file.now p (λ i. omega (arith, c.type_inv.file i)) (sym c.find_code.ensures ∙ e))).before)

pub returns-clause-start : goal.returns-clause-start
returns-clause-start c =
    if_ok_from c.find_code.result _ (λ p e. (placed c.args.file.now p (jp2_takes c.args.file.now p (λ i. omega (arith, c.type_inv.file i)) (sym c.find_code.ensures ∙ e))).start)

pub returns-clause-end : goal.returns-clause-end
returns-clause-end c =
    if_ok_from c.find_code.result _ (λ p e. (placed c.args.file.now p (jp2_takes c.args.file.now p (λ i. omega (arith, c.type_inv.file i)) (sym c.find_code.ensures ∙ e))).end)
