use Rattle.std.proofs.Common.{sym, ◌∙◌, arith}
use Rattle.jk_math.specs.Steps.{if_ok_from}
use Rattle.jk_marks.proofs.PartLaws.{found_part, only_part, part_within}
use Rattle.jk_marks.proofs.tile_part.read_tile_part.Goals as goal

pub returns-clause-found : goal.returns-clause-found
returns-clause-found c =
    if_ok_from c.part.result _ (λ t e. found_part c.args.main.now.siz c.args.seen.now c.args.bytes.now t c.requires.few (λ i. omega (arith, c.type_inv.bytes i)) (sym c.part.ensures ∙ e))

pub returns-clause-only : goal.returns-clause-only
returns-clause-only c = λ p part next begins. c.part.ensures ∙ only_part c.args.main.now.siz c.args.seen.now c.args.bytes.now p c.requires.few part next begins

pub returns-clause-within : goal.returns-clause-within
returns-clause-within c =
    if_ok_from c.part.result _ (λ t e. part_within c.args.main.now.siz c.args.seen.now c.args.bytes.now t
    (found_part c.args.main.now.siz c.args.seen.now c.args.bytes.now t c.requires.few (λ i. omega (arith, c.type_inv.bytes i)) (sym c.part.ensures ∙ e)))
