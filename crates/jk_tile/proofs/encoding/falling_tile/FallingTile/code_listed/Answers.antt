use Rattle.std.proofs.Common.{◌≡◌, ◌≢◌, ◌<◌, ℕ, get_or, length, sym, subst, ◌∙◌, arith}
use Rattle.std.proofs.lemmas.List.{get_or-set_other, length-set}
use Rattle.jk_tile.specs.encoding.FallingComponents.{HasSamples}
use Rattle.jk_tile.specs.encoding.FallingTiles.{IsStandingAt}
use Rattle.jk_tile.proofs.encoding.ListsKept.{replaced}
use Rattle.jk_tile.proofs.encoding.falling_tile.FallingTile.code_listed.Goals as goal

pub code_listed-requires-clause-standing : goal.code_listed-requires-clause-standing
code_listed-requires-clause-standing c =
    let s = c.args.source.now in
    let y = c.args.self.now.y in
    let k : ℕ = c.loop-c.c in
    let now = c.loop-c.invariant in
    let all = c.args.self.now.components.items in
    let held = c.loop-c.self.components.items in
    let was = c.index_mut.result.now in
    let count = now.count in
    let lt : k < length all = omega (arith, c.loop-c-test.true, c.len-c-end.ensures) in
    let first : was ≡ get_or all k was = c.index_mut.ensures.value ∙ now.left k was (omega arith) in
    (subst (IsStandingAt s y) (sym first) (c.requires.standing.each k was lt)).standing

pub loop-c-preserved : goal.loop-c-preserved
loop-c-preserved c =
    let s = c.args.source.now in
    let y = c.args.self.now.y in
    let k : ℕ = c.loop-c.c in
    let now = c.loop-c.invariant in
    let all = c.args.self.now.components.items in
    let held = c.loop-c.self.components.items in
    let was = c.index_mut.result.now in
    let count = now.count in
    let lt : k < length all = omega (arith, c.loop-c-test.true, c.len-c-end.ensures) in
    let first : was ≡ get_or all k was = c.index_mut.ensures.value ∙ now.left k was (omega arith) in
    let new = c.code_listed.new.self in
    let done = c.in_ok-code_listed.ensures in
    let here : k < length held = omega (arith, lt, count) in
    let place = (subst (IsStandingAt s y) (sym first) (c.requires.standing.each k was lt)).next in
    record {
      count = length-set held k new ∙ count;
      next = now.next;
      done = replaced (λ j x. IsStandingAt s y x) held k new here now.done (record { standing = done.standing; next = done.next ∙ place });
      left = λ j other from. get_or-set_other held k j new other (let ne : j ≢ k = omega (arith, from) in ne) ∙ now.left j other (omega (arith, from));
      rows = λ f has. replaced (λ j x. HasSamples s (f j) x) held k new here (now.rows f has) (done.rows (f k) (subst (HasSamples s (f k)) (sym first) (has.each k was lt)));
      ahead = done.ahead;
    }

pub returns-clause-standing : goal.returns-clause-standing
returns-clause-standing c =
    let count = c.loop-c.invariant.count in
    record { each = λ k other lt. subst (λ m. IsStandingAt c.args.source.now m (get_or c.loop-c.self.components.items k other)) (sym c.loop-c.invariant.next) (c.loop-c.invariant.done k other (omega (arith, lt, count, c.loop-c-test.false, c.len-c-end.ensures))) }

pub returns-clause-rows : goal.returns-clause-rows
returns-clause-rows c f has =
    let count = c.loop-c.invariant.count in
    record { each = λ k other lt. c.loop-c.invariant.rows f has k other (omega (arith, lt, count, c.loop-c-test.false, c.len-c-end.ensures)) }
