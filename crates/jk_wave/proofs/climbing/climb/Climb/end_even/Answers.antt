use Rattle.std.proofs.Common.{ℕ, ◌+◌, ◌-◌, ◌≤◌, ◌++◌, length, refl, ap, ◌∙◌, arith}
use Rattle.jk_math.specs.Raster.{raster}
use Rattle.jk_lift.proofs.Laws.{before_inside, after_last}
use Rattle.jk_wave.proofs.ColumnRows.{row_like, vector_row, on_done}
use Rattle.jk_wave.specs.climbing.Held.{column_sample, rows_between, made}
use Rattle.jk_wave.proofs.climbing.climb.Climb.end_even.Goals as goal

pub returns-clause-samples : goal.returns-clause-samples
returns-clause-samples c =
    let a = c.args.area.now in
    let v : ℕ = c.args.v in
    let even = c.args.even.now in
    let odd = c.args.self.now.odd in
    let tall : a.y0 + 2 ≤ a.y1 = omega (arith, c.requires.behind, c.requires.last) in
    let above = before_inside a.y0 a.y1 v tall c.requires.behind (omega (arith, c.requires.last)) in
    let below = after_last a.y0 a.y1 v tall c.requires.last in
    let same = vector_row even c.make_even.new.row (c.make_even.auto.row ∙ ap length c.deref_mut.ensures.value) in
    on_done c.give.result (λ given f climb here.
    let row = c.make_even.ensures.samples f (row_like a f v v even.items _ refl c.deref_mut.ensures.value here)
    (row_like a f (v - 1) _ odd.items _ above c.deref.ensures.value (climb.odd c.requires.behind)) (row_like a f (v - 1) _ odd.items _ below c.deref-2.ensures.value (climb.odd c.requires.behind)) in
    given f climb (row_like a (column_sample a f) v v c.make_even.new.row _ refl same row)
    ∙ ap (λ n. c.args.out.now.items ++ raster (rows_between a (made a v) n) (column_sample a f)) c.requires.last) c.give.ensures.samples
