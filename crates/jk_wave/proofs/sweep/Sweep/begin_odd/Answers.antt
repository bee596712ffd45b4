use Rattle.std.proofs.Common.{◌≡◌, ◌+◌, ◌-◌, ◌≤◌, length, refl, sym, ap, ◌∙◌, arith}
use Rattle.jk_lift.proofs.Laws.{before_first, before_inside, after_inside}
use Rattle.jk_wave.proofs.ColumnRows.{row_like, high_like, vector_row}
use Rattle.jk_wave.proofs.sweep.Sweep.begin_odd.Goals as goal

pub put_high-requires-clause-above : goal.put_high-requires-clause-above
put_high-requires-clause-above g c =
    let area = c.args.area.now in
    let s = c.args.self.now in
    let tall : area.y0 + 2 ≤ area.y1 = omega (arith, c.requires.tall) in
    let even = vector_row s.even c.put_samples.new.row (c.put_samples.ensures.long ∙ sym c.requires.long.even) in
    row_like area (g.S.RowSource.value_at c.args.source.now) (area.y0 + 1) _ c.put_samples.new.row _
    (before_first area.y0 area.y1 tall) (c.deref.ensures.value ∙ even) c.put_samples.ensures

pub put_high-requires-clause-below : goal.put_high-requires-clause-below
put_high-requires-clause-below g c =
    let area = c.args.area.now in
    let s = c.args.self.now in
    let tall : area.y0 + 2 ≤ area.y1 = omega (arith, c.requires.tall) in
    let even = vector_row s.even c.put_samples.new.row (c.put_samples.ensures.long ∙ sym c.requires.long.even) in
    row_like area (g.S.RowSource.value_at c.args.source.now) (area.y0 + 1) _ c.put_samples.new.row _
    (after_inside area.y0 area.y1 area.y0 tall (omega arith) c.requires.tall) (c.deref-2.ensures.value ∙ even) c.put_samples.ensures

pub returns-clause-next : goal.returns-clause-next
returns-clause-next g c =
    let area = c.args.area.now in
    let f = g.S.RowSource.value_at c.args.source.now in
    let s = c.args.self.now in
    let tall : area.y0 + 2 ≤ area.y1 = omega (arith, c.requires.tall) in
    let even = vector_row s.even c.put_samples.new.row (c.put_samples.ensures.long ∙ sym c.requires.long.even) in
    let high = vector_row s.before c.put_high.new.row (c.put_high.ensures.long ∙ sym c.requires.long.before) in
    let long = c.requires.long in
    record {
      long = record {
        before = ap length high ∙ c.put_high.ensures.long;
        even = ap length even ∙ c.put_samples.ensures.long;
        odd = long.odd;
        next = long.next;
        line = long.line;
      };
      even = λ lt. row_like area f (area.y0 + 1) (area.y0 + 1) c.put_samples.new.row _ refl even c.put_samples.ensures;
      high = λ lt. high_like area f area.y0 _ c.put_high.new.row _ (before_inside area.y0 area.y1 (area.y0 + 1) tall (omega arith) lt ∙ (let e : area.y0 + 1 - 1 ≡ area.y0 = omega arith in e)) high c.put_high.ensures;
    }
