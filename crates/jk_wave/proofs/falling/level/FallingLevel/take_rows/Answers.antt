use Rattle.std.proofs.Common.{◌≡◌, ℕ, ◌+◌, ◌<◌, ◌≤◌, refl, ap, subst, ◌∙◌, arith}
use Rattle.jk_math.specs.declared.rect.Rect.{Rect}
use Rattle.jk_math.specs.Raster.{columns_of}
use Rattle.jk_wave.specs.SourceRows.{IsRow}
use Rattle.jk_wave.specs.falling.Intervals.{rows_fallen}
use Rattle.jk_wave.specs.falling.Held.{IsReady, IsFall, GivesRows}
use Rattle.jk_wave.proofs.falling.Giving.{gives_none, gives_more}
use Rattle.jk_wave.proofs.falling.Making.{falls_in_order}
use Rattle.jk_wave.proofs.falling.Taken.{row_ends, row_taken}
use Rattle.jk_wave.proofs.falling.level.FallingLevel.take_rows.Goals as goal

pub loop-y-init : goal.loop-y-init
loop-y-init c =
    let s = c.args.self.now in
    record {
      area = refl;
      place = refl;
      ready = c.requires.standing.ready;
      row = c.requires.standing.row;
      rows = λ f holds is. (holds, gives_none s.area f (rows_fallen s.area s.y) (rows_fallen s.area s.y) s.parts (omega arith));
    }

pub cut-requires : goal.cut-requires
cut-requires c =
    let s = c.args.self.now in
    row_ends (columns_of s.area) s.y c.args.t c.loop-y.y _ c.loop-y.auto.y c.loop-y-test.true c.requires.long

pub loop-y-preserved : goal.loop-y-preserved
loop-y-preserved c =
    let s = c.args.self.now in
    let a = s.area in
    let y : ℕ = c.loop-y.y in
    let now = c.loop-y.invariant in
    let from : s.y ≤ y = c.loop-y.auto.y in
    let less : y < a.y1 = omega (arith, c.loop-y-test.true, c.requires.inside) in
    let done = c.in_ok-put.ensures in
    let row = c.copy_from_slice.new.self.items in
    record {
      area = now.area;
      place = now.place;
      ready = λ more. subst (λ (b : Rect). y + 1 < b.y1 → IsReady b (y + 1) c.put.new.self) now.area done.ready more;
      row = done.long ∙ ap columns_of now.area;
      rows = λ f holds is.
          let before = now.rows f holds is in
          let here = row_taken a s.y c.args.t y (columns_of a) f c.args.fresh.now row from c.loop-y-test.true is refl (c.copy_from_slice.ensures.items ∙ c.cut.ensures) in
          let next = subst (λ (b : Rect). IsFall b f y c.loop-y.self.fall → IsRow b (λ x. f x y) row → (y + 1 < b.y1 → IsFall b f (y + 1) c.put.new.self) × GivesRows b f (rows_fallen b y) (rows_fallen b (y + 1)) c.loop-y.self.parts c.put.new.parts)
          now.area (done.rows f) (before.0 less) here in (
            next.0,
            gives_more a f (rows_fallen a s.y) (rows_fallen a y) (rows_fallen a (y + 1)) s.parts c.loop-y.self.parts c.put.new.parts (falls_in_order a s.y y c.requires.standing.area from) (falls_in_order a y (y + 1) c.requires.standing.area (omega arith)) before.1 next.1,
          );
    }

pub returns-clause-rows : goal.returns-clause-rows
returns-clause-rows c f holds is =
    let s = c.args.self.now in
    let a = s.area in
    let end : c.loop-y.y ≡ c.args.t = omega (arith, c.loop-y-test.false, c.loop-y.auto.y-end c.requires.order) in
    subst (λ n. (n < a.y1 → IsFall a f n c.loop-y.self.fall) × GivesRows a f (rows_fallen a s.y) (rows_fallen a n) s.parts c.loop-y.self.parts) end (c.loop-y.invariant.rows f holds is)
