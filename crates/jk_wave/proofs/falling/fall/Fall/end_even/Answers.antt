use Rattle.std.proofs.Common.{◌≡◌, ℕ, ◌+◌, ◌-◌, ◌≤◌, length, ap, ◌∙◌, arith}
use Rattle.jk_lift.proofs.Laws.{before_inside, after_last}
use Rattle.jk_wave.proofs.ColumnRows.{row_like, high_like, lifted_like, vector_row, on_done}
use Rattle.jk_wave.specs.falling.Intervals.{last_even}
use Rattle.jk_wave.proofs.falling.fall.Fall.end_even.Goals as goal

pub returns-clause-rows : goal.returns-clause-rows
returns-clause-rows c =
    let a = c.args.area.now in
    let y : ℕ = c.args.y in
    let even = c.args.self.now.even in
    let high = c.args.self.now.high in
    let tall : a.y0 + 2 ≤ a.y1 = omega (arith, c.requires.behind, c.requires.last) in
    let last : last_even (y + 1) ≡ y = omega (arith, c.requires.even) in
    let place : y - 1 ≡ last_even (y + 1) - 1 = omega (arith, last) in
    let above = before_inside a.y0 a.y1 y tall c.requires.behind (omega (arith, c.requires.last)) ∙ place in
    let below = after_last a.y0 a.y1 y tall c.requires.last ∙ place in
    let same = vector_row even c.make_low.new.row (c.make_low.auto.row ∙ ap length c.deref_mut.ensures.value) in
    on_done c.add_row.result (λ given f fall.
    let odd = fall.high (omega (arith, last, c.requires.behind)) in
    let here = fall.even (omega (arith, c.requires.behind)) (omega (arith, last, c.requires.behind)) in
    let low = c.make_low.ensures.low f (row_like a f (last_even (y + 1)) y even.items _ (let e : y ≡ last_even (y + 1) = omega (arith, last) in e) c.deref_mut.ensures.value here)
    (high_like a f (last_even (y + 1) - 1) _ high.items _ above c.deref.ensures.value odd) (high_like a f (last_even (y + 1) - 1) _ high.items _ below c.deref-2.ensures.value odd) in
    given f (lifted_like a f y c.make_low.new.row _ (c.deref-3.ensures.value ∙ same) low)) c.add_row.ensures.gives
