use Rattle.std.proofs.Common.{◌≡◌, ◌-◌, ◌*◌, drop, sym, ap, ◌∙◌, arith}
use Rattle.jk_extras.specs.Profiles.{lie_within}
use Rattle.jk_extras.proofs.Tables.{within_none}
use Rattle.jk_extras.proofs.profiles.lie_within.Goals as goal

pub returns : goal.returns
returns c =
    let rest = drop (12 * c.loop-k.k) c.args.table.now in
    let none : c.args.count - c.loop-k.k ≡ 0 = omega arith in
    sym (ap (λ k. lie_within c.args.size k rest) none ∙ within_none c.args.size rest) ∙ c.loop-k.invariant
