use Rattle.std.proofs.Common.{◌≡◌, ◌≢◌, ◌<◌, ℕ, get_or, length, sym, subst, ◌∙◌, arith}
use Rattle.std.proofs.lemmas.List.{get_or-set_other, length-set}
use Rattle.jk_tile.specs.encoding.FallingComponents.{HasSamples}
use Rattle.jk_tile.specs.encoding.FallingTiles.{IsStandingAt}
use Rattle.jk_tile.proofs.encoding.ListsKept.{replaced}
use Rattle.jk_tile.proofs.encoding.TileFalls.{rows_part, rows_values}
use Rattle.jk_tile.proofs.encoding.falling_tile.FallingTile.give.Goals as goal

pub put_values-requires-clause-component : goal.put_values-requires-clause-component
put_values-requires-clause-component c = let count = c.requires.count in omega (arith, c.loop-c-test.true, c.len-c-end.ensures, count)

pub put_values-requires-clause-rect : goal.put_values-requires-clause-rect
put_values-requires-clause-rect c =
    rows_part c.args.source.now c.args.self.now.y c.args.rows.now.end c.args.rows.now.image.now c.rows-part.result c.rows-part.ensures.frame c.requires.rows c.rows-part.ensures.value

pub give-requires-clause-standing : goal.give-requires-clause-standing
give-requires-clause-standing c =
    let k : ℕ = c.loop-c.c in
    let all = c.args.self.now.components.items in
    let was = c.index_mut.result.now in
    let lt : k < length all = omega (arith, c.loop-c-test.true, c.len-c-end.ensures) in
    let first : was ≡ get_or all k was = c.index_mut.ensures.value ∙ c.loop-c.invariant.left k was (omega arith) in
    (subst (IsStandingAt c.args.source.now c.args.self.now.y) (sym first) (c.requires.standing.each k was lt)).standing

pub give-requires-clause-order : goal.give-requires-clause-order
give-requires-clause-order c =
    let k : ℕ = c.loop-c.c in
    let all = c.args.self.now.components.items in
    let was = c.index_mut.result.now in
    let lt : k < length all = omega (arith, c.loop-c-test.true, c.len-c-end.ensures) in
    let first : was ≡ get_or all k was = c.index_mut.ensures.value ∙ c.loop-c.invariant.left k was (omega arith) in
    let place = (subst (IsStandingAt c.args.source.now c.args.self.now.y) (sym first) (c.requires.standing.each k was lt)).next in
    let order = c.requires.rows.order in
    omega (arith, place, order)

pub give-requires-clause-inside : goal.give-requires-clause-inside
give-requires-clause-inside c =
    c.requires.rows.inside

pub give-requires-clause-given : goal.give-requires-clause-given
give-requires-clause-given c =
    let s = c.args.source.now in
    let v = c.args.rows.now.image.now in
    let k : ℕ = c.loop-c.c in
    let all = c.args.self.now.components.items in
    let was = c.index_mut.result.now in
    let count = c.requires.count in
    let lt : k < length all = omega (arith, c.loop-c-test.true, c.len-c-end.ensures) in
    let few : k < length v.planes = omega (arith, lt, count) in
    let first : was ≡ get_or all k was = c.index_mut.ensures.value ∙ c.loop-c.invariant.left k was (omega arith) in
    let place = (subst (IsStandingAt s c.args.self.now.y) (sym first) (c.requires.standing.each k was lt)).next in
    let f = c.requires.given in (
      f.0 k,
      f.1 k few,
      subst (HasSamples s (f.0 k)) (sym first) (f.2.each k was lt),
      rows_values s c.args.rows.now.colours v c.rows-part.result f.0 k c.args.self.now.y c.args.rows.now.end was.y c.put_values.new.values.items few c.rows-part.ensures.value (sym place) f.3 c.in_ok-put_values.ensures.values,
    )

pub loop-c-preserved : goal.loop-c-preserved
loop-c-preserved c =
    let s = c.args.source.now in
    let v = c.args.rows.now.image.now in
    let k : ℕ = c.loop-c.c in
    let now = c.loop-c.invariant in
    let all = c.args.self.now.components.items in
    let held = c.loop-c.self.components.items in
    let was = c.index_mut.result.now in
    let new = c.give.new.self in
    let done = c.in_ok-give.ensures in
    let many = c.requires.count in
    let count = now.count in
    let lt : k < length all = omega (arith, c.loop-c-test.true, c.len-c-end.ensures) in
    let few : k < length v.planes = omega (arith, lt, many) in
    let here : k < length held = omega (arith, lt, count) in
    let first : was ≡ get_or all k was = c.index_mut.ensures.value ∙ now.left k was (omega arith) in
    let place = (subst (IsStandingAt s c.args.self.now.y) (sym first) (c.requires.standing.each k was lt)).next in
    record {
      count = length-set held k new ∙ count;
      done = replaced (λ j y. IsStandingAt s c.args.rows.now.end y) held k new here now.done (record { standing = done.standing; next = done.next });
      left = λ j other from. get_or-set_other held k j new other (let ne : j ≢ k = omega (arith, from) in ne) ∙ now.left j other (omega (arith, from));
      rows = λ f has gives. replaced (λ j y. HasSamples s (f j) y) held k new here (now.rows f has gives)
          (done.rows (f k) (subst (HasSamples s (f k)) (sym first) (has.each k was lt))
          (rows_values s c.args.rows.now.colours v c.rows-part.result f k c.args.self.now.y c.args.rows.now.end was.y c.put_values.new.values.items few c.rows-part.ensures.value (sym place) gives c.in_ok-put_values.ensures.values));
    }

pub returns-clause-standing : goal.returns-clause-standing
returns-clause-standing c =
    let count = c.loop-c.invariant.count in
    record { each = λ k other lt. c.loop-c.invariant.done k other (omega (arith, lt, count, c.loop-c-test.false, c.len-c-end.ensures)) }

pub returns-clause-rows : goal.returns-clause-rows
returns-clause-rows c f has gives =
    let count = c.loop-c.invariant.count in
    record { each = λ k other lt. c.loop-c.invariant.rows f has gives k other (omega (arith, lt, count, c.loop-c-test.false, c.len-c-end.ensures)) }
