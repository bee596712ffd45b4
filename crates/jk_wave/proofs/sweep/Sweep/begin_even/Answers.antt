use Rattle.std.proofs.Common.{◌+◌, ◌≤◌, length, ℤ, refl, sym, ap, ◌∙◌, arith}
use Rattle.std.specs.Global.{Vec}
use Rattle.jk_lift.proofs.Laws.{before_first}
use Rattle.jk_wave.proofs.ColumnRows.{row_like, high_like, vector_row}
use Rattle.jk_wave.proofs.sweep.Sweep.begin_even.Goals as goal

pub returns : goal.returns
returns g c =
    let area = c.args.area.now in
    let f = g.S.RowSource.value_at c.args.source.now in
    let s = c.args.self.now in
    let t = c.read_odd.new.self in
    let tall : area.y0 + 2 ≤ area.y1 = omega (arith, c.requires.tall) in
    let long = c.read_odd.ensures.long in
    let even = vector_row s.even c.put_samples.new.row (c.put_samples.ensures.long ∙ sym c.requires.long.even) in
    record {
      long = record {
        before = ap (λ (v : Vec ℤ). length v.items) c.swap.ensures.x_after ∙ long.odd;
        even = long.even;
        odd = ap (λ (v : Vec ℤ). length v.items) c.swap.ensures.y_after ∙ long.before;
        next = long.next;
        line = long.line;
      };
      even = λ lt. row_like area f area.y0 area.y0 c.put_samples.new.row _ refl (ap (λ (v : Vec ℤ). v.items) c.read_odd.ensures.same.1 ∙ even) c.put_samples.ensures;
      high = λ lt. high_like area f (area.y0 + 1) _ t.odd.items _ (before_first area.y0 area.y1 tall) (ap (λ (v : Vec ℤ). v.items) c.swap.ensures.x_after) c.read_odd.ensures.odd;
    }
