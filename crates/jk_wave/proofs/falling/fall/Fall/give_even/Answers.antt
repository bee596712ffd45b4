use Rattle.std.proofs.Common.{◌≡◌, ℕ, ◌+◌, ◌-◌, ◌<◌, ◌≤◌, max, refl, arith}
use Rattle.jk_wave.proofs.ColumnRows.{high_like, lifted_like, on_done}
use Rattle.jk_wave.proofs.falling.Giving.{gives_none, gives_like}
use Rattle.jk_wave.proofs.falling.fall.Fall.give_even.Goals as goal

pub returns-then-y-area-clause-rows : goal.returns-then-y-area-clause-rows
returns-then-y-area-clause-rows c f even high odd =
    let a = c.args.area.now in
    gives_none a f (max a.y0 (c.args.y - 1)) c.args.y c.args.parts.now (let e : c.args.y ≤ max a.y0 (c.args.y - 1) = omega (arith, c.if-y-area.true) in e)

pub returns-clause-rows : goal.returns-clause-rows
returns-clause-rows c =
    let a = c.args.area.now in
    let y : ℕ = c.args.y in
    let s = c.args.self.now in
    let behind : a.y0 < y = omega (arith, c.requires.from, c.if-y-area.false) in
    on_done c.add_row.result (λ given f even high odd.
    let low = c.make_even.ensures.low f (even behind)
    (λ lt. high_like a f (y - 2) (y - 1 - 1) s.high.items _ (let e : y - 1 - 1 ≡ y - 2 = omega arith in e) refl (high lt))
    (high_like a f y (y - 1 + 1) s.odd.items _ (let e : y - 1 + 1 ≡ y = omega (arith, behind) in e) refl odd) in
    gives_like a f (y - 1) (y - 1 + 1) (max a.y0 (y - 1)) y c.args.parts.now c.add_row.new.self
    (let e : y - 1 ≡ max a.y0 (y - 1) = omega (arith, behind) in e) (let e : y - 1 + 1 ≡ y = omega (arith, behind) in e)
    (given f (lifted_like a f (y - 1) c.make_even.new.self.even.items _ c.deref.ensures.value low))) c.add_row.ensures.gives
