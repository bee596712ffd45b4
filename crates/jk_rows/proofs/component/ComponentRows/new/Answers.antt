use Rattle.std.proofs.Common.{◌≡◌, length, ◌∙◌, ap, arith}
use Rattle.jk_wave.specs.declared.region.Region.{Region}
use Rattle.jk_rows.specs.declared.level.RowLevel.{RowLevel}
use Rattle.jk_rows.specs.Components.{area_at, IsRowLevel}
use Rattle.jk_rows.proofs.Pushed.{count_pushed, each_pushed}
use Rattle.jk_rows.proofs.component.ComponentRows.new.Goals as goal

pub loop-q-init : goal.loop-q-init
loop-q-init c = record {
  count = ap length c.new-levels.ensures.items;
  each = λ k other lt. absurd (omega (arith, lt));
}

pub loop-q-preserved : goal.loop-q-preserved
loop-q-preserved c =
    let s = c.args.source.now in
    let level : RowLevel = c.in_ok-new.field-0 in
    let n = c.loop-q.invariant.count in
    record {
      count = count_pushed c.loop-q.q c.loop-q.levels.items c.push.new.self.items level n c.in_ok-push.ensures.items;
      each = each_pushed (λ k l. IsRowLevel s (area_at s s.region.top).y0 k l) c.loop-q.q c.loop-q.levels.items c.push.new.self.items level n c.in_ok-push.ensures.items c.loop-q.invariant.each c.in_ok-new.ensures.at;
    }

pub returns-clause-at : goal.returns-clause-at
returns-clause-at c =
    let s = c.args.source.now in
    let top = ap (λ (r : Region). r.top) c.region-q-end.ensures.value in
    let all : c.loop-q.q ≡ s.region.top = omega (arith, c.loop-q-test.false, c.loop-q.auto.q-end, top) in
    record {
      lowest = c.in_ok-new-2.ensures.at;
      count = c.loop-q.invariant.count ∙ all;
      each = λ k other lt. c.loop-q.invariant.each k other (omega (arith, lt, all));
    }
