use Rattle.std.proofs.Common.{sym, ◌∙◌}
use Rattle.jk_math.specs.Steps.{if_ok_from}
use Rattle.jk_extras.specs.Said.{IsTold}
use Rattle.jk_extras.proofs.HeaderTold.{told_is}
use Rattle.jk_extras.proofs.told.extras_at.Goals as goal

pub returns-clause-found : goal.returns-clause-found
returns-clause-found c = λ codestream j.
    if_ok_from c.tell.result (λ t. IsTold c.args.file.now t j.header_next.1.others) (λ t e. told_is c.args.file.now codestream j t (sym c.tell.ensures ∙ e))
