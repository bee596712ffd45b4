use Rattle.std.proofs.Common.{◌≡◌, ℕ, suc, ◌+◌, ◌-◌, ◌/◌, sym, ap, ◌∙◌, arith}
use Rattle.jk_geom.specs.Rectangles.{resolution_area}
use Rattle.jk_wave.specs.Levels.{half_bound}
use Rattle.jk_wave.specs.climbing.Intervals.{rows_taken, rows_asked}
use Rattle.jk_wave.proofs.climbing.Taking.{ends_none, ends_more}
use Rattle.jk_wave.proofs.climbing.intervals.rows_asked.Goals as goal

pub loop-below-init : goal.loop-below-init
loop-below-init c = (sym (ends_none c.args.rect.now c.args.levels c.args.top c.args.e), c.requires.e)

pub loop-below-preserved : goal.loop-below-preserved
loop-below-preserved c =
    let rect = c.args.rect.now in
    let levels : ℕ = c.args.levels in
    let top : ℕ = c.args.top in
    let n : ℕ = c.loop-below.below in
    let next : suc n ≡ n + 1 = omega arith in
    let small = c.rows_taken.ensures.small in
    let half : (c.rows_taken.result + 1) / 2 ≡ half_bound c.rows_taken.result 0 = omega arith in (
      half ∙ ap (λ e. half_bound e 0) c.rows_taken.ensures.value ∙ ap (λ a. half_bound (rows_taken a c.loop-below.end) 0) c.resolution.ensures.value
          ∙ ap (λ e. half_bound (rows_taken (resolution_area rect levels (top - n)) e) 0) c.loop-below.invariant.0
          ∙ sym (ends_more rect levels top c.args.e n) ∙ ap (rows_asked rect levels top c.args.e) next,
      omega (arith, small),
    )
