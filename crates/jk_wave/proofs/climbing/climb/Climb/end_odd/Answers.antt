use Rattle.std.proofs.Common.{◌≡◌, ℕ, ◌+◌, ◌-◌, ◌++◌, max, length, refl, ap, ◌∙◌, arith}
use Rattle.jk_math.specs.Raster.{raster}
use Rattle.jk_lift.proofs.Laws.{before_inside, after_last}
use Rattle.jk_wave.proofs.ColumnRows.{row_like, vector_row}
use Rattle.jk_wave.specs.climbing.Held.{column_sample, rows_between}
use Rattle.jk_wave.proofs.climbing.Given.{one_row}
use Rattle.jk_wave.proofs.climbing.climb.Climb.end_odd.Goals as goal

pub returns-clause-samples : goal.returns-clause-samples
returns-clause-samples c f climb =
    let a = c.args.area.now in
    let y1 : ℕ = a.y1 in
    let g = column_sample a f in
    let even = c.args.self.now.even in
    let odd = c.args.self.now.odd in
    let tall = c.requires.tall in
    let last : y1 - 1 + 1 ≡ y1 = omega (arith, tall) in
    let above = before_inside a.y0 a.y1 (y1 - 1) tall (omega (arith, tall)) (omega (arith, tall)) ∙ (let e : y1 - 1 - 1 ≡ y1 - 2 = omega arith in e) in
    let below = after_last a.y0 a.y1 (y1 - 1) tall last ∙ (let e : y1 - 1 - 1 ≡ y1 - 2 = omega arith in e) in
    let from : y1 - 1 ≡ max a.y0 (y1 - 1) = omega (arith, tall) in
    let held = climb.even tall in
    let same = vector_row odd c.make_odd.new.row (c.make_odd.auto.row ∙ ap length c.deref_mut.ensures.value) in
    let row = c.make_odd.ensures f (row_like a f (y1 - 1) (y1 - 1) odd.items _ refl c.deref_mut.ensures.value (climb.odd (omega (arith, tall))))
    (row_like a g (y1 - 2) _ even.items _ above c.deref.ensures.value held) (row_like a g (y1 - 2) _ even.items _ below c.deref-2.ensures.value held) in
    c.in_ok-extend_from_slice.ensures.items
    ∙ ap (λ r. c.args.out.now.items ++ r)
    (c.deref-3.ensures.value ∙ same ∙ one_row a g (y1 - 1) y1 c.make_odd.new.row last row ∙ ap (λ n. raster (rows_between a n y1) g) from)
