use Rattle.std.proofs.Common.{◌∙◌}
use Rattle.jk_code.proofs.coming_with.end_work.Goals as goal

pub returns-clause-walk : goal.returns-clause-walk
returns-clause-walk g c =
    let first = c.in_ok-code_tiles.ensures.walk in
    let last = c.in_ok-code_tiles-2.ensures.walk in
    record { walk = last.walk; row = last.row ∙ first.row; of = λ p was. last.of p (first.of p was) }
