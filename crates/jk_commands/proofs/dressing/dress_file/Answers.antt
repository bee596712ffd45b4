use Rattle.jk_math.specs.Steps.{if_ok}
use Rattle.jk_commands.proofs.dressing.dress_file.Goals as goal

pub returns-clause-means : goal.returns-clause-means
returns-clause-means c = λ reduce layers p m.
    if_ok c.with_extras.result (λ v held. record { codestream = m.codestream; holds = held; picture = m.picture }) (c.with_extras.ensures.same m.codestream m.holds)
