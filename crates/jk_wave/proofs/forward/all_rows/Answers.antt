use Rattle.std.proofs.Common.{◌++◌, length, List, ℤ, sym, ap, ◌∙◌, arith}
use Rattle.jk_wave.proofs.ColumnRows.{vector_row}
use Rattle.jk_wave.proofs.GatheredRows.{gathered_more, gathered_all}
use Rattle.jk_wave.proofs.forward.all_rows.Goals as goal

pub loop-y-preserved : goal.loop-y-preserved
loop-y-preserved g c =
    let row = c.put_samples.new.row in
    let long = c.put_samples.ensures.long in
    let same = vector_row c.loop-y.row row (long ∙ sym c.loop-y.invariant.row) in
    record {
      from = omega (arith, c.loop-y.invariant.from);
      row = ap length same ∙ long;
      rows = gathered_more c.args.area.now c.loop-y.y (g.S.RowSource.value_at c.args.source.now) c.loop-y.values.items row c.extend_from_slice.new.self.items c.loop-y.invariant.from
          c.put_samples.ensures (c.in_ok-extend_from_slice.ensures.items ∙ ap (λ (l : List ℤ). c.loop-y.values.items ++ l) (c.deref.ensures.value ∙ same)) c.loop-y.invariant.rows;
    }

pub returns-clause-value : goal.returns-clause-value
returns-clause-value g c =
    gathered_all c.args.area.now c.loop-y.y (g.S.RowSource.value_at c.args.source.now) c.loop-y.values.items (omega (arith, c.loop-y-test.false, c.requires.area.upper)) c.loop-y.invariant.rows
