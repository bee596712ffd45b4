use Rattle.std.proofs.Common.{◌≡◌, ℕ, ◌^◌, inl, inr, List, All, ℤ, ◌∙◌, ap, sym, subst, arith}
use Rattle.std.specs.Global.{Vec}
use Rattle.std.proofs.lemmas.Bool.{cases_eq}
use Rattle.std.proofs.lemmas.List.Elements.{All-nil}
use Rattle.jk_math.specs.declared.rect.Rect.{Rect}
use Rattle.jk_math.specs.Lists.{lists_of, list_at}
use Rattle.jk_math.specs.Raster.{raster}
use Rattle.jk_math.specs.Signed.{IsBelow}
use Rattle.jk_wave.specs.Resolutions.{resolution_of}
use Rattle.jk_wave.specs.climbing.Held.{rows_between}
use Rattle.jk_tile.specs.TileMeaning.{shown_area}
use Rattle.jk_tile.specs.decoding.TileReading.{component_values}
use Rattle.jk_tile.specs.decoding.Source.{Source, IsSource, source_coefficient}
use Rattle.jk_tile.proofs.Laws.{lists_push, small_push}
use Rattle.jk_rows.specs.Components.{area_at, IsComponentRows, IsStepEnd}
use Rattle.jk_rows.specs.Tiles.{component_in, IsClimbingTile}
use Rattle.jk_rows.proofs.Pushed.{each_set, left_set, count_set}
use Rattle.jk_rows.proofs.TileRowLaws.{IsSound, rows_fine}
use Rattle.jk_rows.proofs.climbing.ClimbingTile.step_values.Goals as goal

pub loop-c-init : goal.loop-c-init
loop-c-init c = record {
  count = c.requires.at.count;
  done = λ k other lt. absurd (omega (arith, lt));
  left = λ k other from lt. c.requires.at.each k other lt;
  sound = λ k lt. absurd (omega (arith, lt));
  lists = ap lists_of c.new-values.ensures.items;
  small = λ i. subst (λ (vs : List (Vec ℤ)). All (IsBelow (2 ^ 29)) (list_at vs i)) (sym c.new-values.ensures.items) (All-nil (IsBelow (2 ^ 29)));
}

pub step-requires-clause-first : goal.step-requires-clause-first
step-requires-clause-first c = subst (λ (a : Rect). IsStepEnd a c.args.from) (sym c.component-source.ensures.top) c.requires.first

pub step-requires-clause-last : goal.step-requires-clause-last
step-requires-clause-last c = subst (λ (a : Rect). IsStepEnd a c.args.to) (sym c.component-source.ensures.top) c.requires.last

pub loop-c-preserved : goal.loop-c-preserved
loop-c-preserved c =
    let t = c.args.coded.now in
    let n : ℕ = c.loop-c.c in
    let d : ℕ = c.args.from in
    let e : ℕ = c.args.to in
    let s = c.component-source.result in
    let items = c.loop-c.self.components.items in
    let count = c.loop-c.invariant.count in
    let v = c.in_ok-step.field-0 in
    let here = subst (λ (s : Source). IsComponentRows s e c.step.new.self) c.component-source.ensures.value c.in_ok-step.ensures.at in
    let rows : v.items ≡ raster (rows_between (shown_area t.headers.siz t.number t.reduce) d e) (component_values t.bytes t.headers t.number t.reduce t.packets n) =
    c.in_ok-step.ensures.rows ∙ ap (λ (a : Rect). raster (rows_between a d e) (resolution_of s.region.rect s.region.levels (source_coefficient s) s.region.top)) c.component-source.ensures.top
    ∙ ap (λ (s : Source). raster (rows_between (shown_area t.headers.siz t.number t.reduce) d e) (resolution_of s.region.rect s.region.levels (source_coefficient s) s.region.top)) c.component-source.ensures.value in
    record {
      count = count_set n t.headers.siz.components items c.step.new.self count;
      done = each_set (λ k r. IsComponentRows (component_in t k) e r) n items c.step.new.self (omega (arith, count, c.loop-c-test.true, c.component_count-c-end.ensures)) c.loop-c.invariant.done here;
      left = left_set (λ k r. IsComponentRows (component_in t k) d r) n t.headers.siz.components items c.step.new.self c.loop-c.invariant.left;
      sound = λ k lt. elim (cases_eq k n) [
        | inl same ↦ subst (IsSound t) (sym same) (record {
          source = subst IsSource c.component-source.ensures.value c.component-source.ensures.source;
          top = subst (λ (s : Source). area_at s s.region.top ≡ shown_area t.headers.siz t.number t.reduce) c.component-source.ensures.value c.component-source.ensures.top;
        })
        | inr other ↦ c.loop-c.invariant.sound k (omega (arith, lt, other))
      ];
      lists = lists_push (λ i. raster (rows_between (shown_area t.headers.siz t.number t.reduce) d e) (component_values t.bytes t.headers t.number t.reduce t.packets i)) n c.loop-c.values.items c.push.new.self.items v c.loop-c.invariant.lists c.in_ok-push.ensures.items rows;
      small = λ i. subst (λ (vs : List (Vec ℤ)). All (IsBelow (2 ^ 29)) (list_at vs i)) (sym c.in_ok-push.ensures.items) (small_push (2 ^ 29) c.loop-c.values.items v c.loop-c.invariant.small c.in_ok-step.ensures.small i);
    }

pub returns-clause-fine : goal.returns-clause-fine
returns-clause-fine c = λ last.
    let t = c.args.coded.now in
    let all : c.loop-c.c ≡ t.headers.siz.components = omega (arith, c.loop-c-test.false, c.loop-c.auto.c-end, c.component_count-c-end.ensures) in
    rows_fine t c.loop-c.self (λ k lt. c.loop-c.invariant.sound k (omega (arith, lt, all)))
    (subst (λ e. IsClimbingTile t e c.loop-c.self) last (record {
      count = c.loop-c.invariant.count;
      each = λ k other lt. c.loop-c.invariant.done k other (omega (arith, lt, all));
    }))
