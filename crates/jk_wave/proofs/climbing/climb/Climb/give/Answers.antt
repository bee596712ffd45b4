use Rattle.std.proofs.Common.{ℕ, ◌+◌, ◌-◌, ◌≤◌, ◌++◌, max, refl, ap, ◌∙◌, arith}
use Rattle.jk_math.specs.Raster.{raster}
use Rattle.std.proofs.lemmas.List.{append_assoc}
use Rattle.jk_wave.proofs.ColumnRows.{row_like}
use Rattle.jk_wave.specs.climbing.Held.{column_sample, rows_between, made}
use Rattle.jk_wave.proofs.climbing.Given.{one_row, joined}
use Rattle.jk_wave.proofs.climbing.climb.Climb.give.Goals as goal

pub returns-clause-samples : goal.returns-clause-samples
returns-clause-samples c f climb even =
    let a = c.args.area.now in
    let v : ℕ = c.args.v in
    let g = column_sample a f in
    let row = c.args.even.now.items in
    let out = c.args.out.now.items in
    let above = raster (rows_between a (made a v) v) g in
    let here = raster (rows_between a v (v + 1)) g in
    let low : max a.y0 (v - 1) ≤ v = omega (arith, c.requires.from) in
    c.in_ok-extend_from_slice.ensures.items
    ∙ ap (λ r. c.give_odd.new.out.items ++ r) (c.deref-2.ensures.value ∙ one_row a g v (v + 1) row refl even)
    ∙ ap (λ r. r ++ here) (c.in_ok-give_odd.ensures.samples f climb (row_like a g v v row _ refl c.deref.ensures.value even))
    ∙ append_assoc out above here
    ∙ ap (λ r. out ++ r) (joined a (made a v) v (v + 1) g low (omega arith))
