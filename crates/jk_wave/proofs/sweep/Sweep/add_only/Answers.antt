use Rattle.std.proofs.Common.{ℕ, ℤ, sym, subst, ◌∙◌, arith}
use Rattle.jk_wave.specs.Levels.{part_list, IsPartUpto}
use Rattle.jk_wave.specs.SourceRows.{column_lifted}
use Rattle.jk_wave.proofs.Descending.{part_none}
use Rattle.jk_wave.proofs.ColumnRows.{lifted_like, lifted_small, vector_row, on_done}
use Rattle.jk_wave.proofs.sweep.Sweep.add_only.Goals as goal

pub add_row-requires-clause-small : goal.add_row-requires-clause-small
add_row-requires-clause-small g c =
    let area = c.args.area.now in
    let f = g.S.RowSource.value_at c.args.source.now in
    let same = vector_row c.args.self.now.even c.put_only.new.row (c.put_only.ensures.long ∙ sym c.requires.long.even) in
    lifted_small area f area.y0 _ c.requires.small (omega arith) (omega (arith, c.requires.one)) (lifted_like area f area.y0 c.put_only.new.row _ (c.deref.ensures.value ∙ same) c.put_only.ensures)

pub returns-clause-parts : goal.returns-clause-parts
returns-clause-parts g c =
    let area = c.args.area.now in
    let f = g.S.RowSource.value_at c.args.source.now in
    let columns : ℕ → ℕ → ℤ = λ x v. column_lifted area f v x in
    let same = vector_row c.args.self.now.even c.put_only.new.row (c.put_only.ensures.long ∙ sym c.requires.long.even) in
    on_done c.add_row.result (λ made o few. subst (λ n. IsPartUpto area o n columns (part_list c.add_row.new.self o)) c.requires.one
    (made columns o few (lifted_like area f area.y0 c.put_only.new.row _ (c.deref.ensures.value ∙ same) c.put_only.ensures)
    (part_none area o columns (part_list c.args.parts.now o) few (c.requires.parts o few)))) c.add_row.ensures.parts
