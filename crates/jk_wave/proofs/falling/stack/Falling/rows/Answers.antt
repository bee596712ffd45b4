use Rattle.std.proofs.Common.{◌≡◌, ℕ, ◌+◌, ◌-◌, ◌/◌, ◌%◌, get_or, ◌∙◌, ap, arith}
use Rattle.std.proofs.lemmas.List.{get_or_default}
use Rattle.jk_wave.specs.Levels.{part_list}
use Rattle.jk_wave.specs.declared.falling.level.FallingLevel.{FallingLevel}
use Rattle.jk_wave.proofs.falling.stack.Falling.rows.Goals as goal

pub returns-clause-high : goal.returns-clause-high
returns-clause-high c n o other less some few is =
    let s = c.args.self.now in
    let b : ℕ = c.args.b in
    let level = c.index.result.now in
    let here : s.levels - 1 - (b - 1) / 3 ≡ n = omega (arith, is, less, some, few) in
    let part : (b - 1) % 3 + 1 ≡ o = omega (arith, is, some, few) in
    let count = c.requires.standing.2.at.count in
    let first : level ≡ get_or s.all.items n other = c.index.ensures ∙ ap (λ k. get_or s.all.items k level) here ∙ get_or_default s.all.items n level other (omega (arith, less, count)) in
    c.rows.ensures ∙ ap (λ k. part_list level.parts k) part ∙ ap (λ (l : FallingLevel). part_list l.parts o) first
