use Rattle.std.proofs.Common.{◌≡◌, ℕ, ◌+◌, ◌-◌, ◌≤◌, refl, ap, ◌∙◌, arith}
use Rattle.jk_lift.specs.Lifting.{before}
use Rattle.jk_lift.proofs.Laws.{before_first, before_inside, after_inside}
use Rattle.jk_wave.proofs.ColumnRows.{row_like}
use Rattle.jk_wave.proofs.climbing.climb.Climb.make_row.Goals as goal

pub returns-then-v-area-clause-samples : goal.returns-then-v-area-clause-samples
returns-then-v-area-clause-samples c f climb here next =
    let a = c.args.area.now in
    let v : ℕ = c.args.v in
    let tall : a.y0 + 2 ≤ a.y1 = omega (arith, c.requires.from, c.requires.inside) in
    let first : v ≡ a.y0 = c.if-v-area.true in
    let above = ap (before a.y0 a.y1) first ∙ before_first a.y0 a.y1 tall ∙ (let e : a.y0 + 1 ≡ v + 1 = omega (arith, first) in e) in
    let below = after_inside a.y0 a.y1 v tall c.requires.from c.requires.inside in
    c.make_even.ensures.samples f here (row_like a f (v + 1) _ c.args.odd.now _ above refl next) (row_like a f (v + 1) _ c.args.odd.now _ below refl next)

pub returns-else-v-area-clause-samples : goal.returns-else-v-area-clause-samples
returns-else-v-area-clause-samples c f climb here next =
    let a = c.args.area.now in
    let v : ℕ = c.args.v in
    let tall : a.y0 + 2 ≤ a.y1 = omega (arith, c.requires.from, c.requires.inside) in
    let above = before_inside a.y0 a.y1 v tall (omega arith) (omega arith) in
    let below = after_inside a.y0 a.y1 v tall c.requires.from c.requires.inside in
    c.make_even-else-v-area.ensures.samples f here (row_like a f (v - 1) _ c.args.self.now.odd.items _ above c.deref.ensures.value (climb.odd (omega arith)))
    (row_like a f (v + 1) _ c.args.odd.now _ below refl next)
