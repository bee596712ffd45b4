use Rattle.std.proofs.Common.{◌≡◌, ℕ, ◌+◌, ◌-◌, max, sym, ap, subst, ◌∙◌, arith}
use Rattle.std.specs.Global.{Vec}
use Rattle.std.proofs.Common.{ℤ}
use Rattle.jk_wave.proofs.ColumnRows.{row_like, high_like}
use Rattle.jk_wave.specs.falling.Intervals.{last_even}
use Rattle.jk_wave.specs.falling.Held.{IsReady, IsFall}
use Rattle.jk_wave.proofs.falling.Giving.{gives_like}
use Rattle.jk_wave.proofs.falling.fall.Fall.put_even.Goals as goal

pub make_held-requires-clause-ready : goal.make_held-requires-clause-ready
make_held-requires-clause-ready c =
    subst (λ n. IsReady c.args.area.now n c.args.self.now) (let e : c.args.y ≡ c.args.y - 1 + 1 = omega (arith, c.requires.behind) in e) c.requires.ready

pub returns-clause-rows : goal.returns-clause-rows
returns-clause-rows c f fall here =
    let a = c.args.area.now in
    let y : ℕ = c.args.y in
    let s = c.args.self.now in
    let h = c.make_held.new.self in
    let g = c.give_pair.new.self in
    let kept = c.make_held.ensures.same in
    let same = c.in_ok-give_pair.ensures.same in
    let back : y - 1 + 1 ≡ y = omega (arith, c.requires.behind) in
    let odd = c.make_held.ensures.high f (subst (λ n. IsFall a f n s) (sym back) fall) (row_like a f y (y - 1 + 1) c.args.row.now.items _ back c.deref.ensures.value here) in
    let pair = c.in_ok-give_pair.ensures.rows f
    (λ behind. row_like a f (last_even y) (y - 1 - 1) s.even.items _ (let e : y - 1 - 1 ≡ last_even y = omega (arith, c.requires.even) in e) (ap (λ (v : Vec ℤ). v.items) kept.1)
    (fall.even c.requires.behind (omega (arith, behind, c.requires.even))))
    (λ behind. high_like a f (last_even y - 1) (y - 1 - 2) s.high.items _ (let e : y - 1 - 2 ≡ last_even y - 1 = omega (arith, c.requires.even) in e) (ap (λ (v : Vec ℤ). v.items) kept.0)
    (fall.high (omega (arith, behind, c.requires.even)))) odd in
    let last : last_even (y + 1) ≡ y = omega (arith, c.requires.even) in (
      record {
        even = λ _ _. row_like a f y (last_even (y + 1)) c.args.row.now.items _ last (ap (λ (v : Vec ℤ). v.items) c.swap-2.ensures.x_after) here;
        odd = λ _ even. absurd (omega (arith, even, c.requires.even));
        high = λ _. high_like a f (y - 1) (last_even (y + 1) - 1) h.odd.items _ (let e : last_even (y + 1) - 1 ≡ y - 1 = omega (arith, last) in e)
            (ap (λ (v : Vec ℤ). v.items) (c.swap.ensures.x_after ∙ same.1)) odd;
      },
      gives_like a f (max a.y0 (y - 1 - 1)) (y - 1 + 1) (max a.y0 (y - 2)) y c.args.parts.now c.give_pair.new.parts
          (let e : max a.y0 (y - 1 - 1) ≡ max a.y0 (y - 2) = omega arith in e) back pair,
    )
