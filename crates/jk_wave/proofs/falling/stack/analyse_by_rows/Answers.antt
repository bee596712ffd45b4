use Rattle.std.proofs.Common.{◌≡◌, ℕ, ℤ, ◌-◌, ◌*◌, ◌^◌, ◌≤◌, ◌++◌, length, take, drop, sym, ◌∙◌, ap, subst, arith}
use Rattle.std.specs.List.{All}
use Rattle.jk_math.specs.declared.rect.Rect.{Rect}
use Rattle.jk_math.specs.Signed.{IsBelow}
use Rattle.jk_math.proofs.Laws.{raster_length}
use Rattle.jk_math.specs.Raster.{columns_of, raster, plane_at}
use Rattle.jk_wave.specs.SourceRows.{AreBelow}
use Rattle.jk_wave.specs.climbing.Held.{rows_between}
use Rattle.jk_wave.proofs.falling.Stacked.{keeps_more}
use Rattle.jk_wave.proofs.falling.Taken.{cut_fits, cut_is, plane_small, part_small}
use Rattle.jk_wave.proofs.falling.stack.analyse_by_rows.Goals as goal

pub loop-e-init : goal.loop-e-init
loop-e-init c =
    let f : ℕ → ℕ → ℤ = plane_at c.args.rect.now c.args.samples.now in
    let first = c.in_ok-falling.ensures.first in
    record {
      rect = first.0;
      levels = first.1;
      place = first.2;
      from = omega arith;
      to = c.requires.area.upper;
      given = c.in_ok-falling.ensures.given f;
      keeps = c.in_ok-falling.ensures.none f;
    }

pub cut-requires : goal.cut-requires
cut-requires c =
    let rect = c.args.rect.now in
    cut_fits rect c.loop-e.e c.min-to.result _ c.loop-e.invariant.from (omega (arith, c.min-to.ensures, c.saturating_add.ensures, c.loop-e-test.true)) (omega (arith, c.min-to.ensures)) c.requires.whole

pub give-requires-clause-standing : goal.give-requires-clause-standing
give-requires-clause-standing c =
    let f : ℕ → ℕ → ℤ = plane_at c.args.rect.now c.args.samples.now in
    let now = c.loop-e.invariant in
    (f, subst (λ (r : Rect). AreBelow (2 ^ 17) r f) (sym now.rect) (plane_small c.args.rect.now c.args.samples.now c.requires.small), now.given)

pub give-requires-clause-long : goal.give-requires-clause-long
give-requires-clause-long c =
    let rect = c.args.rect.now in
    let f : ℕ → ℕ → ℤ = plane_at rect c.args.samples.now in
    let now = c.loop-e.invariant in
    let e : ℕ = c.loop-e.e in
    let to : ℕ = c.min-to.result in
    let rows : c.extend_from_slice.new.self.items ≡ raster (rows_between rect e to) f = c.in_ok-extend_from_slice.ensures.items ∙ ap (λ l. l ++ c.cut.result.now) c.clear.ensures.items ∙ c.cut.ensures
    ∙ cut_is rect e to c.args.samples.now now.from (omega (arith, c.min-to.ensures, c.saturating_add.ensures, c.loop-e-test.true)) (omega (arith, c.min-to.ensures)) c.requires.whole in
    ap length rows ∙ raster_length (rows_between rect e to) f ∙ ap (λ (r : Rect). (to - e) * columns_of r) (sym now.rect) ∙ ap (λ y. (to - y) * columns_of c.loop-e.falling.rect) (sym now.place)

pub give-requires-clause-small : goal.give-requires-clause-small
give-requires-clause-small c =
    let e : ℕ = c.loop-e.e in
    let to : ℕ = c.min-to.result in
    let rows : c.extend_from_slice.new.self.items ≡ take _ (drop _ c.args.samples.now) = c.in_ok-extend_from_slice.ensures.items ∙ ap (λ l. l ++ c.cut.result.now) c.clear.ensures.items ∙ c.cut.ensures in
    subst (All (IsBelow (2 ^ 17))) (sym rows) (part_small (2 ^ 17) _ _ c.args.samples.now c.requires.small)

pub into_bands-requires-clause-standing : goal.into_bands-requires-clause-standing
into_bands-requires-clause-standing c =
    let f : ℕ → ℕ → ℤ = plane_at c.args.rect.now c.args.samples.now in
    let now = c.loop-e.invariant in
    (f, subst (λ (r : Rect). AreBelow (2 ^ 17) r f) (sym now.rect) (plane_small c.args.rect.now c.args.samples.now c.requires.small), now.given)

pub loop-e-preserved : goal.loop-e-preserved
loop-e-preserved c =
    let rect = c.args.rect.now in
    let f : ℕ → ℕ → ℤ = plane_at rect c.args.samples.now in
    let now = c.loop-e.invariant in
    let old = c.loop-e.falling in
    let e : ℕ = c.loop-e.e in
    let to : ℕ = c.min-to.result in
    let done = c.in_ok-give.ensures in
    let more : e ≤ to = omega (arith, c.min-to.ensures, c.saturating_add.ensures, c.loop-e-test.true) in
    let rows : c.extend_from_slice.new.self.items ≡ raster (rows_between rect e to) f = c.in_ok-extend_from_slice.ensures.items ∙ ap (λ l. l ++ c.cut.result.now) c.clear.ensures.items ∙ c.cut.ensures
    ∙ cut_is rect e to c.args.samples.now now.from more (omega (arith, c.min-to.ensures)) c.requires.whole in
    let given = rows ∙ ap (λ (r : Rect). raster (rows_between r e to) f) (sym now.rect) ∙ ap (λ y. raster (rows_between old.rect y to) f) (sym now.place) in
    let bands = done.bands f now.given given in
    record {
      rect = done.same.0 ∙ now.rect;
      levels = done.same.1 ∙ now.levels;
      place = done.same.2;
      from = omega (arith, now.from, more);
      to = omega (arith, c.min-to.ensures);
      given = done.given f now.given given;
      keeps = keeps_more f old c.give.new.self to now.given (omega (arith, now.place, more)) done.same.0 done.same.1 done.same.2 bands.0 bands.1 now.keeps;
    }
