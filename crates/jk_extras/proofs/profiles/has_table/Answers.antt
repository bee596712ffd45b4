use Rattle.std.proofs.Common.{◌+◌, ◌-◌, ◌*◌, ◌≤◌, List, ℕ, length, take, drop, sym, ap, ◌∙◌, arith}
use Rattle.std.proofs.lemmas.List.{take_rest}
use Rattle.jk_extras.specs.Profiles.{field, lie_within}
use Rattle.jk_extras.proofs.Tables.{table_is}
use Rattle.jk_extras.proofs.profiles.has_table.Goals as goal

pub returns : goal.returns
returns c =
    let p = c.args.profile.now in
    let count = c.field-count.ensures in
    let few : field 128 p ≤ 100 = omega (arith, count, c.if-count-gt-TAGS.false) in
    let room : 132 + 12 * field 128 p ≤ length p = omega (arith, count, c.if-count-profile.false) in
    c.lie_within.ensures ∙ ap (λ n. lie_within (length p) n (take (length p - 132) (drop 132 p))) count
    ∙ ap (λ (x : List ℕ). lie_within (length p) (field 128 p) x) (take_rest p 132) ∙ sym (table_is p few room)
