use Rattle.std.proofs.Common.{◌≡◌, ℕ, ℤ, ◌+◌, ◌-◌, ◌*◌, ◌<◌, length, refl, sym, ◌∙◌, ap, subst, arith}
use Rattle.std.specs.Prelude.{OnOk}
use Rattle.std.specs.Global.{Vec}
use Rattle.jk_math.specs.Raster.{columns_of}
use Rattle.jk_wave.proofs.ColumnRows.{row_like, on_done}
use Rattle.jk_wave.specs.falling.Intervals.{rows_fallen}
use Rattle.jk_wave.specs.falling.Held.{IsReady, IsFall, GivesRows}
use Rattle.jk_wave.proofs.falling.Taken.{row_alone}
use Rattle.jk_wave.proofs.falling.Thin.{thin_held, thin_gives}
use Rattle.jk_wave.proofs.falling.level.FallingLevel.take.Goals as goal

pub returns-then-self-clause-rows : goal.returns-then-self-clause-rows
returns-then-self-clause-rows c f holds is =
    let s = c.args.self.now in (
      (λ less. thin_held s.area f c.args.t s.fall c.if-self.true (c.requires.standing.ready (omega (arith, less, c.requires.order))).held),
      thin_gives s.area f (rows_fallen s.area s.y) (rows_fallen s.area c.args.t) s.parts c.if-self.true,
    )

pub put-requires-clause-long : goal.put-requires-clause-long
put-requires-clause-long c =
    let s = c.args.self.now in
    let one : c.args.t - s.y ≡ 1 = omega (arith, c.if-t-self.true) in
    ap (λ (v : Vec ℤ). length v.items) c.swap.ensures.x_after ∙ c.requires.long ∙ ap (λ n. n * columns_of s.area) one ∙ (let e : 1 * columns_of s.area ≡ columns_of s.area = omega arith in e)

pub returns-then-t-self-clause-ready : goal.returns-then-t-self-clause-ready
returns-then-t-self-clause-ready c =
    let a = c.args.self.now.area in
    subst (λ n. OnOk c.put.result (n < a.y1 → IsReady a n c.put.new.self)) (sym c.if-t-self.true) c.put.ensures.ready

pub returns-then-t-self-clause-rows : goal.returns-then-t-self-clause-rows
returns-then-t-self-clause-rows c =
    let s = c.args.self.now in
    let a = s.area in
    let y : ℕ = s.y in
    let t : ℕ = c.args.t in
    let next : y + 1 ≡ t = sym c.if-t-self.true in
    let less : y < a.y1 = omega (arith, next, c.requires.inside) in
    on_done c.put.result (λ given f holds is.
    subst (λ n. (n < a.y1 → IsFall a f n c.put.new.self) × GivesRows a f (rows_fallen a y) (rows_fallen a n) s.parts c.put.new.parts) next
    (given f (holds less) (row_like a f y y c.args.fresh.now.items _ refl (ap (λ (v : Vec ℤ). v.items) c.swap.ensures.x_after) (row_alone a y t f c.args.fresh.now.items (sym next) is)))) c.put.ensures.rows

pub returns-clause-rows : goal.returns-clause-rows
returns-clause-rows c = on_done c.take_rows.result (λ given f holds is. given f holds (c.deref.ensures.value ∙ is)) c.take_rows.ensures.rows
