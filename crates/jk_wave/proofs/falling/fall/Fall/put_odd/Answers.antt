use Rattle.std.proofs.Common.{◌≡◌, ℕ, ◌+◌, ◌-◌, max, refl, sym, ap, ◌∙◌, arith}
use Rattle.std.specs.Global.{Vec}
use Rattle.std.proofs.Common.{ℤ}
use Rattle.jk_wave.proofs.ColumnRows.{row_like, high_like, on_done}
use Rattle.jk_wave.specs.falling.Intervals.{last_even, rows_fallen}
use Rattle.jk_wave.proofs.falling.Giving.{gives_none, gives_like}
use Rattle.jk_wave.proofs.falling.Making.{falls_odd, falls_even, falls_all}
use Rattle.jk_wave.proofs.falling.Standing.{odd_held}
use Rattle.jk_wave.proofs.falling.fall.Fall.put_odd.Goals as goal

pub returns-then-y-area-clause-rows : goal.returns-then-y-area-clause-rows
returns-then-y-area-clause-rows c f fall here =
    let a = c.args.area.now in
    let y : ℕ = c.args.y in
    let one = falls_odd a y c.requires.odd c.requires.inside in
    let two = falls_even a (y + 1) (omega (arith, c.requires.odd)) c.if-y-area.true in (
      (λ _. odd_held a f y c.args.self.now _ c.requires.odd c.requires.from refl refl (row_like a f y y c.args.row.now.items _ refl (ap (λ (v : Vec ℤ). v.items) c.swap.ensures.x_after) here) fall),
      gives_none a f (rows_fallen a y) (rows_fallen a (y + 1)) c.args.parts.now (omega (arith, one, two)),
    )

pub returns-clause-rows : goal.returns-clause-rows
returns-clause-rows c =
    let a = c.args.area.now in
    let y : ℕ = c.args.y in
    let s = c.args.self.now in
    let kept = c.make_last.ensures.same in
    let last : y + 1 ≡ a.y1 = omega (arith, c.requires.inside, c.if-y-area.false) in
    let one = falls_odd a y c.requires.odd c.requires.inside in
    let two = falls_all a (y + 1) (omega (arith, last)) in
    on_done c.give_pair.result (λ given f fall here.
    let held = odd_held a f y s _ c.requires.odd c.requires.from refl refl (row_like a f y y c.args.row.now.items _ refl (ap (λ (v : Vec ℤ). v.items) c.swap.ensures.x_after) here) fall in
    let odd = c.make_last.ensures.high f held in (
      (λ less. absurd (omega (arith, less, last))),
      gives_like a f (max a.y0 (y - 1)) (y + 1) (rows_fallen a y) (rows_fallen a (y + 1)) c.args.parts.now c.give_pair.new.parts (sym one) (last ∙ sym two)
          (given f
          (λ behind. row_like a f (last_even y) (y - 1) s.even.items _ (let e : y - 1 ≡ last_even y = omega (arith, c.requires.odd) in e) (ap (λ (v : Vec ℤ). v.items) kept.1) (fall.even behind (omega (arith, behind, c.requires.odd))))
          (λ behind. high_like a f (last_even y - 1) (y - 2) s.high.items _ (let e : y - 2 ≡ last_even y - 1 = omega (arith, c.requires.odd) in e) (ap (λ (v : Vec ℤ). v.items) kept.0) (fall.high (omega (arith, behind, c.requires.odd)))) odd),
    )) c.give_pair.ensures.rows
