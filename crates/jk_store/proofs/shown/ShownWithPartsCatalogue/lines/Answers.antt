use Rattle.std.proofs.Common.{map, ◌∙◌}
use Rattle.std.specs.Arc.{arc_value}
use Rattle.jk_math.specs.Steps.{if_ok}
use Rattle.jk_store.proofs.ShowingLaws.{lines_shown}
use Rattle.jk_store.proofs.shown.ShownWithPartsCatalogue.lines.Goals as goal

pub returns-clause-lines : goal.returns-clause-lines
returns-clause-lines g c = λ images stands.
    if_ok c.lines_of.result
    (λ v is. is ∙ lines_shown (map arc_value c.args.self.now.entries.now) images stands) c.lines_of.ensures.lines
