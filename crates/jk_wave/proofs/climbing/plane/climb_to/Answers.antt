use Rattle.std.proofs.Common.{◌≡◌, ℕ, ◌<◌, refl, sym, ap, subst, ◌∙◌, arith}
use Rattle.jk_wave.proofs.ColumnRows.{on_done, row_like}
use Rattle.jk_wave.specs.climbing.Held.{column_sample, made, IsClimb}
use Rattle.jk_wave.specs.climbing.Intervals.{rows_reached}
use Rattle.jk_wave.proofs.climbing.Given.{none_given, given_like}
use Rattle.jk_wave.proofs.climbing.Taking.{reached_some, reached_all, reached_none}
use Rattle.jk_wave.proofs.climbing.plane.climb_to.Goals as goal

pub returns-then-v-t-clause-samples : goal.returns-then-v-t-clause-samples
returns-then-v-t-clause-samples g c f agrees climb =
    let a = c.args.area.now in
    let same : c.args.v ≡ c.args.t = c.if-v-t.true in (
      (λ less. subst (λ n. IsClimb a f n c.args.climb.now) same (climb (omega (arith, less, same)))),
      none_given a (rows_reached a c.args.v) (rows_reached a c.args.t) (column_sample a f) c.args.out.now.items (let e = ap (rows_reached a) same in omega (arith, e)),
    )

pub returns-then-area-clause-samples : goal.returns-then-area-clause-samples
returns-then-area-clause-samples g c =
    let a = c.args.area.now in
    let v : ℕ = c.args.v in
    let t : ℕ = c.args.t in
    let first : v ≡ a.y0 = omega (arith, c.requires.from, c.requires.order, c.requires.to, c.if-v-t.false, c.if-area.true) in
    let last : t ≡ a.y1 = omega (arith, c.requires.from, c.requires.order, c.requires.to, c.if-v-t.false, c.if-area.true) in
    on_done c.only.result (λ given f agrees climb. (
      (λ less. absurd (omega (arith, less, last))),
      given_like a a.y0 a.y1 (rows_reached a v) (rows_reached a t) (column_sample a f) c.args.out.now.items c.only.new.out.items
          (sym (ap (rows_reached a) first ∙ reached_none a c.requires.area)) (sym (reached_all a t (omega (arith, last))))
          (given f (row_like a f v a.y0 c.put_row.new.row.items _ (sym first) c.deref_mut.ensures.value (c.put_row.ensures.row f agrees))),
    )) c.only.ensures.samples

pub returns-clause-samples : goal.returns-clause-samples
returns-clause-samples g c =
    let a = c.args.area.now in
    let v : ℕ = c.args.v in
    let t : ℕ = c.args.t in
    let less : v < a.y1 = omega (arith, c.requires.order, c.requires.to, c.if-v-t.false) in
    on_done c.climb_pairs.result (λ given f agrees climb.
    let done = given f agrees (climb less) in
    (done.0, given_like a (made a v) (rows_reached a t) (rows_reached a v) (rows_reached a t) (column_sample a f) c.args.out.now.items c.climb_pairs.new.out.items (sym (reached_some a v less)) refl done.1)) c.climb_pairs.ensures.samples
