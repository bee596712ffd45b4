use Rattle.std.proofs.Common.{◌+◌, ◌≤◌, ℕ, ℤ, arith}
use Rattle.jk_wave.specs.SourceRows.{column_lifted}
use Rattle.jk_wave.specs.Levels.{part_list}
use Rattle.jk_wave.proofs.Descending.{part_none}
use Rattle.jk_wave.proofs.ColumnRows.{lifted_like, high_is, lifted_small}
use Rattle.jk_wave.proofs.sweep.Sweep.begin.Goals as goal

pub add_row-requires-clause-small : goal.add_row-requires-clause-small
add_row-requires-clause-small g c =
    let area = c.args.area.now in
    let f = g.S.RowSource.value_at c.args.source.now in
    let tall : area.y0 + 2 ≤ area.y1 = omega (arith, c.requires.tall) in
    lifted_small area f area.y0 _ c.requires.small (omega arith) (omega arith)
    (lifted_like area f area.y0 c.begin_odd.new.self.before.items _ c.deref.ensures.value (high_is area f area.y0 _ tall (omega arith) c.begin_odd.ensures.first))

pub returns-clause-parts : goal.returns-clause-parts
returns-clause-parts g c o few =
    let area = c.args.area.now in
    let f = g.S.RowSource.value_at c.args.source.now in
    let columns : ℕ → ℕ → ℤ = λ x v. column_lifted area f v x in
    let tall : area.y0 + 2 ≤ area.y1 = omega (arith, c.requires.tall) in
    c.in_ok-add_row.ensures.parts columns o few
    (lifted_like area f area.y0 c.begin_odd.new.self.before.items _ c.deref.ensures.value (high_is area f area.y0 _ tall (omega arith) c.begin_odd.ensures.first))
    (part_none area o columns (part_list c.args.parts.now o) few (c.requires.parts o few))
