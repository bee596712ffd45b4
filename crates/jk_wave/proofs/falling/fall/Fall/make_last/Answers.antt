use Rattle.std.proofs.Common.{◌≡◌, ℕ, ◌+◌, ◌-◌, ◌≤◌, length, refl, ap, ◌∙◌, arith}
use Rattle.jk_lift.proofs.Laws.{before_inside, after_last}
use Rattle.jk_wave.proofs.ColumnRows.{row_like, high_like, vector_row}
use Rattle.jk_wave.specs.falling.Intervals.{last_even}
use Rattle.jk_wave.proofs.falling.fall.Fall.make_last.Goals as goal

pub returns-clause-high : goal.returns-clause-high
returns-clause-high c f fall =
    let a = c.args.area.now in
    let y : ℕ = c.args.y in
    let odd = c.args.self.now.odd in
    let even = c.args.self.now.even in
    let tall : a.y0 + 2 ≤ a.y1 = omega (arith, c.requires.behind, c.requires.last) in
    let place : y - 1 ≡ last_even (y + 1) = omega (arith, c.requires.odd) in
    let above = before_inside a.y0 a.y1 y tall c.requires.behind (omega (arith, c.requires.last)) ∙ place in
    let below = after_last a.y0 a.y1 y tall c.requires.last ∙ place in
    let same = vector_row odd c.make_high.new.row (c.make_high.auto.row ∙ ap length c.deref_mut.ensures.value) in
    let here = row_like a f (y + 1 - 1) y odd.items _ (let e : y ≡ y + 1 - 1 = omega arith in e) c.deref_mut.ensures.value (fall.odd (omega (arith, c.requires.behind)) (omega (arith, c.requires.odd))) in
    let last = fall.even (omega (arith, c.requires.behind)) (omega (arith, c.requires.behind, c.requires.odd)) in
    high_like a f y y c.make_high.new.row _ refl same
    (c.make_high.ensures.high f here (row_like a f (last_even (y + 1)) _ even.items _ above c.deref.ensures.value last) (row_like a f (last_even (y + 1)) _ even.items _ below c.deref-2.ensures.value last))
