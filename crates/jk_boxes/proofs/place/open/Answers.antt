use Rattle.std.proofs.Common.{sym, ◌∙◌, arith}
use Rattle.jk_math.specs.Steps.{if_ok_from}
use Rattle.jk_boxes.proofs.FileLaws.{boxes_take, place_again}
use Rattle.jk_boxes.proofs.place.open.Goals as goal

pub returns-clause-found : goal.returns-clause-found
returns-clause-found c =
    if_ok_from c.place.result _ (λ b e. (boxes_take c.args.bytes.now b (λ i. omega (arith, c.type_inv.bytes i)) (sym c.place.ensures ∙ e)).at)

pub returns-clause-only : goal.returns-clause-only
returns-clause-only c = λ codestream b holds. (let o = place_again c.args.bytes.now codestream b holds in (c.place.ensures ∙ o.0, o.1))

pub returns-clause-within : goal.returns-clause-within
returns-clause-within c =
    if_ok_from c.place.result _ (λ b e. let o = boxes_take c.args.bytes.now b (λ i. omega (arith, c.type_inv.bytes i)) (sym c.place.ensures ∙ e) in (o.order, o.within))
