use Rattle.std.proofs.Common.{◌≡◌, ℕ, ◌^◌, ◌∙◌, ap, sym, subst, All, ℤ, arith}
use Rattle.std.specs.Global.{Vec}
use Rattle.jk_math.specs.Raster.{raster}
use Rattle.jk_math.specs.Signed.{IsBelow}
use Rattle.jk_wave.specs.declared.region.Region.{Region}
use Rattle.jk_wave.specs.Resolutions.{resolution_of}
use Rattle.jk_wave.specs.climbing.Held.{rows_between}
use Rattle.jk_tile.specs.decoding.Source.{source_coefficient}
use Rattle.jk_rows.specs.Components.{area_at, made_rows, step_rows, IsRowLevel}
use Rattle.jk_rows.proofs.Pushed.{each_set, left_set, count_set}
use Rattle.jk_rows.proofs.Taken.{top_made}
use Rattle.jk_rows.proofs.Small.{top_small}
use Rattle.jk_rows.proofs.component.ComponentRows.step.Goals as goal

pub loop-q-init : goal.loop-q-init
loop-q-init c = record {
  count = c.requires.at.count;
  lowest = c.in_ok-step.ensures.at;
  done = λ k other lt. absurd (omega (arith, lt));
  left = λ k other from lt. c.requires.at.each k other lt;
  rows = c.in_ok-step.ensures.rows;
}

pub loop-q-preserved : goal.loop-q-preserved
loop-q-preserved c =
    let s = c.args.source.now in
    let q : ℕ = c.loop-q.q in
    let d : ℕ = c.args.d in
    let e : ℕ = c.args.e in
    let items = c.loop-q.self.levels.items in
    let level = c.step-in-loop-q.new.self in
    let count = c.loop-q.invariant.count in
    let top = ap (λ (r : Region). r.top) c.region-q-end.ensures.value in
    record {
      count = count_set q s.region.top items level count;
      lowest = c.loop-q.invariant.lowest;
      done = each_set (λ k l. IsRowLevel s e k l) q items level (omega (arith, count, c.loop-q-test.true, top)) c.loop-q.invariant.done c.in_ok-step-2.ensures.at;
      left = left_set (λ k l. IsRowLevel s d k l) q s.region.top items level c.loop-q.invariant.left;
      rows = ap (λ (v : Vec ℤ). v.items) c.swap.ensures.x_after ∙ c.in_ok-step-2.ensures.rows;
    }

pub returns-clause-at : goal.returns-clause-at
returns-clause-at c =
    let s = c.args.source.now in
    let top = ap (λ (r : Region). r.top) c.region-q-end.ensures.value in
    let all : c.loop-q.q ≡ s.region.top = omega (arith, c.loop-q-test.false, c.loop-q.auto.q-end, top) in
    record {
      lowest = c.loop-q.invariant.lowest;
      count = c.loop-q.invariant.count;
      each = λ k other lt. c.loop-q.invariant.done k other (omega (arith, lt, all));
    }

pub returns-clause-rows : goal.returns-clause-rows
returns-clause-rows c =
    let s = c.args.source.now in
    let g = resolution_of s.region.rect s.region.levels (source_coefficient s) s.region.top in
    let a = area_at s s.region.top in
    let top = ap (λ (r : Region). r.top) c.region-q-end.ensures.value in
    let all : c.loop-q.q ≡ s.region.top = omega (arith, c.loop-q-test.false, c.loop-q.auto.q-end, top) in
    let is = c.requires.source.region.rect in
    c.loop-q.invariant.rows ∙ ap (step_rows s c.args.d c.args.e) all
    ∙ ap (λ n. raster (rows_between a n (made_rows s s.region.top c.args.e)) g) (top_made s c.args.d is c.requires.first) ∙ ap (λ n. raster (rows_between a c.args.d n) g) (top_made s c.args.e is c.requires.last)

pub returns-clause-small : goal.returns-clause-small
returns-clause-small c =
    let s = c.args.source.now in
    let g = resolution_of s.region.rect s.region.levels (source_coefficient s) s.region.top in
    let a = area_at s s.region.top in
    let top = ap (λ (r : Region). r.top) c.region-q-end.ensures.value in
    let all : c.loop-q.q ≡ s.region.top = omega (arith, c.loop-q-test.false, c.loop-q.auto.q-end, top) in
    let is = c.requires.source.region.rect in
    let rows = c.loop-q.invariant.rows ∙ ap (step_rows s c.args.d c.args.e) all
    ∙ ap (λ n. raster (rows_between a n (made_rows s s.region.top c.args.e)) g) (top_made s c.args.d is c.requires.first) ∙ ap (λ n. raster (rows_between a c.args.d n) g) (top_made s c.args.e is c.requires.last) in
    subst (All (IsBelow (2 ^ 29))) (sym rows) (top_small s c.args.d c.args.e c.requires.source c.requires.first.from c.requires.last.to)
