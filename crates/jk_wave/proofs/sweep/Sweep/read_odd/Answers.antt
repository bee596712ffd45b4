use Rattle.std.proofs.Common.{◌+◌, ◌-◌, refl, sym, ◌∙◌, arith}
use Rattle.jk_lift.proofs.Laws.{before_inside, after_inside, after_last}
use Rattle.jk_wave.proofs.ColumnRows.{row_like, samples_small, vector_row}
use Rattle.jk_wave.proofs.sweep.Sweep.read_odd.Goals as goal

pub put_high-requires-clause-above : goal.put_high-requires-clause-above
put_high-requires-clause-above g c =
    let area = c.args.area.now in
    let y = c.args.y in
    row_like area (g.S.RowSource.value_at c.args.source.now) (y - 1) _ c.args.self.now.even.items _
    (before_inside area.y0 area.y1 y (omega arith) c.requires.behind c.requires.inside) c.deref.ensures.value c.requires.even

pub put_high-requires-clause-below : goal.put_high-requires-clause-below
put_high-requires-clause-below g c =
    let area = c.args.area.now in
    let y = c.args.y in
    let next = c.args.self.now.next in
    row_like area (g.S.RowSource.value_at c.args.source.now) (y + 1) _ c.put_samples.new.row _
    (after_inside area.y0 area.y1 y (omega arith) (omega arith) c.if-y-area.true)
    (c.deref-then-y-area.ensures.value ∙ vector_row next c.put_samples.new.row (c.put_samples.ensures.long ∙ sym c.requires.long.next)) c.put_samples.ensures

pub put_high-requires-else-y-area-clause-above_small : goal.put_high-requires-else-y-area-clause-above_small
put_high-requires-else-y-area-clause-above_small g c =
    let area = c.args.area.now in
    let y = c.args.y in
    samples_small area (g.S.RowSource.value_at c.args.source.now) (y - 1) _ c.requires.small (omega arith) (omega arith)
    (row_like area (g.S.RowSource.value_at c.args.source.now) (y - 1) (y - 1) c.args.self.now.even.items _ refl c.deref-else-y-area.ensures.value c.requires.even)

pub put_high-requires-else-y-area-clause-below_small : goal.put_high-requires-else-y-area-clause-below_small
put_high-requires-else-y-area-clause-below_small g c =
    let area = c.args.area.now in
    let y = c.args.y in
    samples_small area (g.S.RowSource.value_at c.args.source.now) (y - 1) _ c.requires.small (omega arith) (omega arith)
    (row_like area (g.S.RowSource.value_at c.args.source.now) (y - 1) (y - 1) c.args.self.now.even.items _ refl c.deref-else-y-area-2.ensures.value c.requires.even)

pub put_high-requires-else-y-area-clause-above : goal.put_high-requires-else-y-area-clause-above
put_high-requires-else-y-area-clause-above g c =
    let area = c.args.area.now in
    let y = c.args.y in
    row_like area (g.S.RowSource.value_at c.args.source.now) (y - 1) _ c.args.self.now.even.items _
    (before_inside area.y0 area.y1 y (omega arith) c.requires.behind c.requires.inside) c.deref-else-y-area.ensures.value c.requires.even

pub put_high-requires-else-y-area-clause-below : goal.put_high-requires-else-y-area-clause-below
put_high-requires-else-y-area-clause-below g c =
    let area = c.args.area.now in
    let y = c.args.y in
    row_like area (g.S.RowSource.value_at c.args.source.now) (y - 1) _ c.args.self.now.even.items _
    (after_last area.y0 area.y1 y (omega arith) (omega (arith, c.if-y-area.false, c.requires.inside))) c.deref-else-y-area-2.ensures.value c.requires.even
