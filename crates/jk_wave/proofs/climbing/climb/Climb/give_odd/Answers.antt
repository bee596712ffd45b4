use Rattle.std.proofs.Common.{◌≡◌, ℕ, ◌+◌, ◌-◌, ◌≤◌, ◌++◌, max, ap, ◌∙◌, arith}
use Rattle.jk_math.specs.Raster.{raster}
use Rattle.jk_wave.specs.climbing.Held.{column_sample, rows_between, made}
use Rattle.jk_wave.proofs.climbing.Given.{one_row, none_given}
use Rattle.jk_wave.proofs.climbing.climb.Climb.give_odd.Goals as goal

pub returns-then-v-area-clause-samples : goal.returns-then-v-area-clause-samples
returns-then-v-area-clause-samples c f climb even =
    let a = c.args.area.now in
    none_given a (made a c.args.v) c.args.v (column_sample a f) c.args.out.now.items (let e : c.args.v ≤ max a.y0 (c.args.v - 1) = omega (arith, c.if-v-area.true) in e)

pub returns-clause-samples : goal.returns-clause-samples
returns-clause-samples c f climb even =
    let a = c.args.area.now in
    let v : ℕ = c.args.v in
    let g = column_sample a f in
    let behind : a.y0 + 1 ≤ v = omega (arith, c.requires.from, c.if-v-area.false) in
    let from : v - 1 ≡ made a v = omega (arith, behind) in
    let row = c.make_held.new.self.odd.items in
    c.in_ok-extend_from_slice.ensures.items
    ∙ ap (λ r. c.args.out.now.items ++ r)
    (c.deref.ensures.value ∙ one_row a g (v - 1) v row (omega (arith, behind)) (c.make_held.ensures.samples f climb even) ∙ ap (λ n. raster (rows_between a n v) g) from)
