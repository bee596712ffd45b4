use Rattle.std.proofs.Common.{◌≡◌, ℕ, ◌+◌, ◌-◌, ◌%◌, ◌<◌, ◌≤◌, max, sym, ap, ◌∙◌, arith}
use Rattle.std.specs.Global.{Vec}
use Rattle.std.proofs.Common.{ℤ}
use Rattle.jk_wave.proofs.ColumnRows.{row_like, on_done}
use Rattle.jk_wave.specs.falling.Intervals.{last_even, rows_fallen}
use Rattle.jk_wave.proofs.falling.Giving.{gives_none, gives_more, gives_like}
use Rattle.jk_wave.proofs.falling.Making.{falls_none, falls_odd, falls_even, falls_all}
use Rattle.jk_wave.proofs.falling.fall.Fall.put.Goals as goal

pub returns-then-area-clause-rows : goal.returns-then-area-clause-rows
returns-then-area-clause-rows c =
    let a = c.args.area.now in
    let y : ℕ = c.args.y in
    let first : y ≡ a.y0 = omega (arith, c.requires.from, c.requires.inside, c.if-area.true) in
    let one = ap (rows_fallen a) first ∙ falls_none a c.requires.area in
    let two = falls_all a (y + 1) (omega (arith, first, c.if-area.true)) in
    on_done c.only.result (λ given f fall here. (
      (λ less. absurd (omega (arith, less, first, c.if-area.true))),
      gives_like a f a.y0 (a.y0 + 1) (rows_fallen a y) (rows_fallen a (y + 1)) c.args.parts.now c.only.new.parts (sym one) (c.if-area.true ∙ sym two)
          (given f (row_like a f y a.y0 c.args.row.now.items _ (sym first) c.deref_mut.ensures.value here)),
    )) c.only.ensures.rows

pub returns-then-y-area-clause-rows : goal.returns-then-y-area-clause-rows
returns-then-y-area-clause-rows c f fall here =
    let a = c.args.area.now in
    let y : ℕ = c.args.y in
    let first : y ≡ a.y0 = c.if-y-area.true in
    let tall : y + 1 < a.y1 = omega (arith, c.requires.inside, c.if-area.false, first) in
    let even : y % 2 ≡ 0 = omega (arith, c.if-y-eq1.false) in
    let one = ap (rows_fallen a) first ∙ falls_none a c.requires.area in
    let two = falls_odd a (y + 1) (omega (arith, even)) tall in (
      (λ _. record {
        even = λ _ _. row_like a f y (last_even (y + 1)) c.args.row.now.items _ (let e : last_even (y + 1) ≡ y = omega (arith, even) in e) (ap (λ (v : Vec ℤ). v.items) c.swap.ensures.x_after) here;
        odd = λ _ odd. absurd (omega (arith, odd, even));
        high = λ behind. absurd (omega (arith, behind, first));
      }),
      gives_none a f (rows_fallen a y) (rows_fallen a (y + 1)) c.args.parts.now (omega (arith, one, two, first)),
    )

pub returns-then-y-area-2-clause-rows : goal.returns-then-y-area-2-clause-rows
returns-then-y-area-2-clause-rows c =
    let a = c.args.area.now in
    let y : ℕ = c.args.y in
    let even : y % 2 ≡ 0 = omega (arith, c.if-y-eq1.false) in
    let last : y + 1 ≡ a.y1 = c.if-y-area-2.true in
    let one = falls_even a y even c.requires.inside in
    let two = falls_all a (y + 1) (omega (arith, last)) in
    on_done c.end_even.result (λ given f fall here.
    let pair = c.in_ok-put_even.ensures.rows f fall here in (
      (λ less. absurd (omega (arith, less, last))),
      gives_like a f (max a.y0 (y - 2)) (y + 1) (rows_fallen a y) (rows_fallen a (y + 1)) c.args.parts.now c.end_even.new.parts (sym one) (last ∙ sym two)
          (gives_more a f (max a.y0 (y - 2)) y (y + 1) c.args.parts.now c.put_even.new.parts c.end_even.new.parts (let e : max a.y0 (y - 2) ≤ y = omega (arith, c.requires.from) in e) (omega arith) pair.1 (given f pair.0)),
    )) c.end_even.ensures.rows

pub returns-clause-rows : goal.returns-clause-rows
returns-clause-rows c f fall here =
    let a = c.args.area.now in
    let y : ℕ = c.args.y in
    let even : y % 2 ≡ 0 = omega (arith, c.if-y-eq1.false) in
    let behind : a.y0 + 1 ≤ y = omega (arith, c.requires.from, c.if-y-area.false) in
    let less : y + 1 < a.y1 = omega (arith, c.requires.inside, c.if-y-area-2.false) in
    let one = falls_even a y even c.requires.inside in
    let two = falls_odd a (y + 1) (omega (arith, even)) less in
    let pair = c.in_ok-put_even.ensures.rows f fall here in (
      (λ _. pair.0),
      gives_like a f (max a.y0 (y - 2)) y (rows_fallen a y) (rows_fallen a (y + 1)) c.args.parts.now c.put_even.new.parts (sym one) (let e : y ≡ rows_fallen a (y + 1) = omega (arith, two, behind) in e) pair.1,
    )
