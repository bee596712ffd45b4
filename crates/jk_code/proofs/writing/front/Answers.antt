use Rattle.std.proofs.Common.{ℕ}
use Rattle.std.specs.Global.{Vec}
use Rattle.jk_code.proofs.BeginningLaws.{front_value}
use Rattle.jk_code.proofs.writing.front.Goals as goal

pub returns-in-Jp2-clause-value : goal.returns-in-Jp2-clause-value
returns-in-Jp2-clause-value c =
    front_value (λ (v : Vec ℕ). v.items) c.args.source.now c.args.source.now.parameters.now.container c.args.size c.front.result c.in-Jp2.is c.front.ensures.ok
