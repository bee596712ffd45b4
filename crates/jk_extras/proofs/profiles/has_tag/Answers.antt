use Rattle.std.proofs.Common.{◌≡◌, ◌-◌, ◌*◌, drop, sym, ap, ◌∙◌, arith}
use Rattle.jk_extras.specs.Profiles.{has_tag}
use Rattle.jk_extras.proofs.Tables.{tag_none}
use Rattle.jk_extras.proofs.profiles.has_tag.Goals as goal

pub returns : goal.returns
returns c =
    let rest = drop (12 * c.loop-k.k) c.args.table.now in
    let none : c.args.count - c.loop-k.k ≡ 0 = omega arith in
    sym (ap (λ k. has_tag c.args.tag k rest) none ∙ tag_none c.args.tag rest) ∙ c.loop-k.invariant
