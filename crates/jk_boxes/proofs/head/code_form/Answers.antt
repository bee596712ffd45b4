use Rattle.std.proofs.Common.{◌∙◌}
use Rattle.jk_boxes.proofs.FormLaws.{form_found}
use Rattle.jk_boxes.proofs.head.code_form.Goals as goal

pub returns-clause-holds : goal.returns-clause-holds
returns-clause-holds c = λ codestream place holds. c.read_form.ensures ∙ form_found holds
