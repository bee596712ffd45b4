use Rattle.std.proofs.Common.{◌≡◌, ℕ, ◌+◌, ◌-◌, ◌≤◌, length, refl, ap, ◌∙◌, arith}
use Rattle.jk_lift.specs.Lifting.{before}
use Rattle.jk_lift.proofs.Laws.{before_first, before_inside, after_inside}
use Rattle.jk_wave.proofs.ColumnRows.{row_like, vector_row}
use Rattle.jk_wave.specs.climbing.Held.{column_sample}
use Rattle.jk_wave.proofs.climbing.climb.Climb.make_held.Goals as goal

pub returns-then-v-area-lt2-clause-samples : goal.returns-then-v-area-lt2-clause-samples
returns-then-v-area-lt2-clause-samples c f climb even =
    let a = c.args.area.now in
    let v : ℕ = c.args.v in
    let odd = c.args.self.now.odd in
    let tall : a.y0 + 2 ≤ a.y1 = omega (arith, c.requires.behind, c.requires.inside) in
    let first : v - 1 ≡ a.y0 = omega (arith, c.requires.behind, c.if-v-area-lt2.true) in
    let above = ap (before a.y0 a.y1) first ∙ before_first a.y0 a.y1 tall ∙ (let e : a.y0 + 1 ≡ v = omega (arith, first, c.requires.behind) in e) in
    let below = after_inside a.y0 a.y1 (v - 1) tall (omega arith) (omega (arith, c.requires.behind, c.requires.inside)) ∙ (let e : v - 1 + 1 ≡ v = omega (arith, c.requires.behind) in e) in
    let same = vector_row odd c.make_odd.new.row (c.make_odd.auto.row ∙ ap length c.deref_mut.ensures.value) in
    row_like a (column_sample a f) (v - 1) (v - 1) c.make_odd.new.row _ refl same
    (c.make_odd.ensures f (row_like a f (v - 1) (v - 1) odd.items _ refl c.deref_mut.ensures.value (climb.odd c.requires.behind))
    (row_like a (column_sample a f) v _ c.args.even.now _ above refl even) (row_like a (column_sample a f) v _ c.args.even.now _ below refl even))

pub returns-else-v-area-lt2-clause-samples : goal.returns-else-v-area-lt2-clause-samples
returns-else-v-area-lt2-clause-samples c f climb even =
    let a = c.args.area.now in
    let v : ℕ = c.args.v in
    let odd = c.args.self.now.odd in
    let tall : a.y0 + 2 ≤ a.y1 = omega (arith, c.requires.behind, c.requires.inside) in
    let far : a.y0 + 2 ≤ v = omega (arith, c.requires.behind, c.if-v-area-lt2.false) in
    let above = before_inside a.y0 a.y1 (v - 1) tall (omega (arith, far)) (omega (arith, c.requires.inside)) ∙ (let e : v - 1 - 1 ≡ v - 2 = omega arith in e) in
    let below = after_inside a.y0 a.y1 (v - 1) tall (omega (arith, far)) (omega (arith, far, c.requires.inside)) ∙ (let e : v - 1 + 1 ≡ v = omega (arith, far) in e) in
    let row = c.make_odd-else-v-area-lt2.new.row in
    let same = vector_row odd row (c.make_odd-else-v-area-lt2.auto.row ∙ ap length c.deref_mut-else-v-area-lt2.ensures.value) in
    row_like a (column_sample a f) (v - 1) (v - 1) row _ refl same
    (c.make_odd-else-v-area-lt2.ensures f (row_like a f (v - 1) (v - 1) odd.items _ refl c.deref_mut-else-v-area-lt2.ensures.value (climb.odd c.requires.behind))
    (row_like a (column_sample a f) (v - 2) _ c.args.self.now.even.items _ above c.deref.ensures.value (climb.even far)) (row_like a (column_sample a f) v _ c.args.even.now _ below refl even))
