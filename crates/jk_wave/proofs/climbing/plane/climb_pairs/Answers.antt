use Rattle.std.proofs.Common.{◌≡◌, ℕ, ◌+◌, ◌-◌, ◌≤◌, ◌<◌, max, refl, sym, ap, subst, ◌∙◌, arith}
use Rattle.jk_wave.proofs.ColumnRows.{on_done}
use Rattle.jk_geom.specs.Rectangles.{IsWithin}
use Rattle.jk_wave.specs.climbing.Held.{column_sample, rows_between, made, IsClimb}
use Rattle.jk_wave.specs.climbing.Intervals.{rows_reached}
use Rattle.jk_wave.proofs.climbing.Given.{none_given, given_more, given_like}
use Rattle.jk_wave.proofs.climbing.Taking.{reached_some, reached_all}
use Rattle.jk_wave.proofs.climbing.plane.climb_pairs.Goals as goal

pub loop-y-init : goal.loop-y-init
loop-y-init g c =
    let a = c.args.area.now in
    let begun = c.start-y.ensures in
    record {
      even = begun.even;
      from = begun.from;
      to = omega (arith, begun.next, c.requires.order);
      ready = record { held = begun.held; even_room = c.requires.ready.even_room; odd_room = begun.long };
      given = λ f agrees climb. (
        begun.climbs f agrees climb,
        none_given a (made a c.args.v) (made a c.start-y.result) (column_sample a f) c.args.out.now.items (omega (arith, begun.made)),
      );
    }

pub loop-y-preserved : goal.loop-y-preserved
loop-y-preserved g c =
    let a = c.args.area.now in
    let v : ℕ = c.args.v in
    let y : ℕ = c.loop-y.y in
    let now = c.loop-y.invariant in
    let done = c.in_ok-add_pair.ensures in
    record {
      even = omega (arith, now.even);
      from = omega (arith, now.from);
      to = omega (arith, c.loop-y-test.true);
      ready = record { held = done.held; even_room = done.even_long; odd_room = done.odd_long };
      given = λ f agrees climb.
          let before = now.given f agrees climb in
          let next = done.climbs f before.0 (c.put_row.ensures.row f agrees) (c.put_row-in-loop-y.ensures.row f agrees) in (
            next.0,
            given_more a (made a v) (made a y) (made a (y + 2)) (column_sample a f) c.args.out.now.items c.loop-y.out.items c.add_pair.new.out.items
                (let e : max a.y0 (v - 1) ≤ max a.y0 (y - 1) = omega (arith, now.from) in e) (let e : max a.y0 (y - 1) ≤ max a.y0 (y + 2 - 1) = omega arith in e) before.1 next.1,
          );
    }

pub returns-then-t-area-clause-samples : goal.returns-then-t-area-clause-samples
returns-then-t-area-clause-samples g c f agrees climb =
    let a = c.args.area.now in
    let v : ℕ = c.args.v in
    let t : ℕ = c.args.t in
    let now = c.loop-y.invariant in
    let behind : a.y0 < t = omega (arith, c.requires.from, c.requires.order) in
    let even = c.requires.even_end c.if-t-area.true in
    let here : c.loop-y.y ≡ t = omega (arith, now.to, now.even, even, c.loop-y-test.false) in
    let before = now.given f agrees climb in (
      (λ less. subst (λ n. IsClimb a f n c.loop-y.climb) here before.0),
      given_like a (made a v) (made a c.loop-y.y) (made a v) (rows_reached a t) (column_sample a f) c.args.out.now.items c.loop-y.out.items refl
          (ap (made a) here ∙ sym (reached_some a t c.if-t-area.true)) before.1,
    )

pub returns-clause-samples : goal.returns-clause-samples
returns-clause-samples g c =
    let a = c.args.area.now in
    let v : ℕ = c.args.v in
    let t : ℕ = c.args.t in
    let y : ℕ = c.loop-y.y in
    let now = c.loop-y.invariant in
    let last : t ≡ a.y1 = omega (arith, c.if-t-area.false, c.requires.to) in
    on_done c.end.result (λ given f agrees climb.
    let before = now.given f agrees climb in
    let rest = given f (λ x z inside. agrees x z (subst (λ n. IsWithin (rows_between a v n) x z) (sym last) inside)) before.0 in (
      (λ less. absurd (omega (arith, less, last))),
      given_more a (made a v) (made a y) (rows_reached a t) (column_sample a f) c.args.out.now.items c.loop-y.out.items c.end.new.out.items
          (let e : max a.y0 (v - 1) ≤ max a.y0 (y - 1) = omega (arith, now.from) in e)
          (let r = reached_all a t (omega (arith, last)) in let e : max a.y0 (y - 1) ≤ rows_reached a t = omega (arith, r, now.to, last, c.requires.area.upper) in e) before.1
          (given_like a (made a y) a.y1 (made a y) (rows_reached a t) (column_sample a f) c.loop-y.out.items c.end.new.out.items refl (sym (reached_all a t (omega (arith, last)))) rest),
    )) c.end.ensures.samples
