use Rattle.std.proofs.Common.{arith}
use Rattle.jk_window.specs.Numbered.{IsOf}
use Rattle.jk_window.proofs.Adding.{adds_none}
use Rattle.jk_window.proofs.intervals.push_precincts.Goals as goal

pub returns-then-first-behind-clause-adds : goal.returns-then-first-behind-clause-adds
returns-then-first-behind-clause-adds c =
    adds_none c.args.numbers.now c.args.intervals.now.items (IsOf c.args.precincts)
    (λ n is o. (let at = o.precinct in omega arith))
