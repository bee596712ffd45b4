use Rattle.std.proofs.Common.{inr}
use Rattle.std.proofs.lemmas.Result.{err_from_is_err_and}
use Rattle.jk_math.specs.Steps.{if_ok}
use Rattle.jk_c.proofs.Giving.{not_given}
use Rattle.jk_c.proofs.keeping.dressed.Goals as goal

pub returns-in_err-extras-clause-exact : goal.returns-in_err-extras-clause-exact
returns-in_err-extras-clause-exact c =
    let f = err_from_is_err_and c.from_residual.result c.from_residual.ensures.1 in
    rw (f.1, f.2) (not_given c.args.boxes.now c.args.file.now c.in_err-extras.field-0.0 c.in_err-extras.ensures.exact)

pub returns-clause-exact : goal.returns-clause-exact
returns-clause-exact c = inr (inr (c.in_ok-extras.extras, c.in_ok-extras.ensures.exact, c.with_extras.ensures.exact))

pub returns-clause-means : goal.returns-clause-means
returns-clause-means c = λ reduce p m.
    if_ok c.with_extras.result (λ v held. record { codestream = m.codestream; holds = held; picture = m.picture }) (c.with_extras.ensures.same m.codestream m.holds)
