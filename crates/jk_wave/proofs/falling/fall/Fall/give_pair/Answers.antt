use Rattle.std.proofs.Common.{ℕ, ◌+◌, ◌-◌, ◌≤◌, max, refl, ap, ◌∙◌, arith}
use Rattle.std.specs.Global.{Vec}
use Rattle.std.proofs.Common.{ℤ}
use Rattle.jk_wave.proofs.ColumnRows.{high_like, high_is, on_done}
use Rattle.jk_wave.proofs.falling.Giving.{gives_more}
use Rattle.jk_wave.proofs.falling.fall.Fall.give_pair.Goals as goal

pub returns-clause-rows : goal.returns-clause-rows
returns-clause-rows c =
    let a = c.args.area.now in
    let y : ℕ = c.args.y in
    let s = c.args.self.now in
    let same = c.in_ok-give_even.ensures.same in
    on_done c.add_row.result (λ given f even high odd.
    let row = high_is a f y _ c.requires.tall c.requires.odd (high_like a f y y s.odd.items _ refl (c.deref.ensures.value ∙ ap (λ (v : Vec ℤ). v.items) same.1) odd) in
    gives_more a f (max a.y0 (y - 1)) y (y + 1) c.args.parts.now c.give_even.new.parts c.add_row.new.self
    (let e : max a.y0 (y - 1) ≤ y = omega (arith, c.requires.from) in e) (omega arith) (c.in_ok-give_even.ensures.rows f even high odd) (given f row)) c.add_row.ensures.gives
