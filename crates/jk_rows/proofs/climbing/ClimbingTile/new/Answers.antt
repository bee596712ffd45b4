use Rattle.std.proofs.Common.{ℕ, length, ap, subst, arith}
use Rattle.jk_math.specs.declared.rect.Rect.{Rect}
use Rattle.jk_tile.specs.TileMeaning.{shown_area}
use Rattle.jk_tile.specs.decoding.Source.{Source}
use Rattle.jk_rows.specs.declared.component.ComponentRows.{ComponentRows}
use Rattle.jk_rows.specs.Components.{IsComponentRows}
use Rattle.jk_rows.specs.Tiles.{component_in}
use Rattle.jk_rows.proofs.Pushed.{count_pushed, each_pushed}
use Rattle.jk_rows.proofs.climbing.ClimbingTile.new.Goals as goal

pub loop-c-init : goal.loop-c-init
loop-c-init c = record {
  count = ap length c.new-components.ensures.items;
  each = λ k other lt. absurd (omega (arith, lt));
}

pub loop-c-preserved : goal.loop-c-preserved
loop-c-preserved c =
    let t = c.args.coded.now in
    let y : ℕ = (shown_area t.headers.siz t.number t.reduce).y0 in
    let one : ComponentRows = c.in_ok-new.field-0 in
    let n = c.loop-c.invariant.count in
    let first = subst (λ (a : Rect). IsComponentRows c.component-source.result a.y0 one) c.component-source.ensures.top c.in_ok-new.ensures.at in
    let here = subst (λ (s : Source). IsComponentRows s y one) c.component-source.ensures.value first in
    record {
      count = count_pushed c.loop-c.c c.loop-c.components.items c.push.new.self.items one n c.in_ok-push.ensures.items;
      each = each_pushed (λ k r. IsComponentRows (component_in t k) y r) c.loop-c.c c.loop-c.components.items c.push.new.self.items one n c.in_ok-push.ensures.items c.loop-c.invariant.each here;
    }
