use Rattle.std.proofs.Common.{◌≡◌, ◌-◌, ◌<◌, ℕ, get_or, sym, subst, ◌∙◌, arith}
use Rattle.std.proofs.lemmas.Grind.{get_or_default_zero}
use Rattle.jk_tile.proofs.decoding.Chaining.{IsFollowing, to_go, following_starts, following_inside, following_nearer, following_more, following_over}
use Rattle.jk_tile.proofs.decoding.chains.follow.Goals as goal

pub loop-at-init : goal.loop-at-init
loop-at-init c =
    let next = c.args.chains.now.next.items in
    let first = c.args.chains.now.first.items in
    let start = get_or first c.args.precinct 0 in
    let begins = c.index-at.ensures ∙ get_or_default_zero first c.args.precinct c.index-at.result.now c.requires.precinct in
    subst (IsFollowing next start c.clear.new.self.items) (sym begins) (following_starts next start c.clear.new.self.items c.requires.chain c.clear.ensures.items)

pub index-at-requires-in-loop-at : goal.index-at-requires-in-loop-at
index-at-requires-in-loop-at c =
    let next = c.args.chains.now.next.items in
    let start = get_or c.args.chains.now.first.items c.args.precinct 0 in
    let inside = following_inside next start c.loop-at.numbers.items c.loop-at.at c.loop-at.invariant c.loop-at-test.true in
    let long = c.args.chains.now.next.ok.0 in
    omega (arith, inside, long)

pub loop-at-smaller : goal.loop-at-smaller
loop-at-smaller c =
    let next = c.args.chains.now.next.items in
    let start = get_or c.args.chains.now.first.items c.args.precinct 0 in
    let at = c.loop-at.at in
    let inside = following_inside next start c.loop-at.numbers.items at c.loop-at.invariant c.loop-at-test.true in
    let goes = c.index-at-in-loop-at.ensures ∙ get_or_default_zero next (at - 1) c.index-at-in-loop-at.result.now inside in
    subst (λ (i : ℕ). to_go next i < to_go next at) (sym goes) (following_nearer next start c.loop-at.numbers.items at c.loop-at.invariant c.loop-at-test.true)

pub loop-at-preserved : goal.loop-at-preserved
loop-at-preserved c =
    let next = c.args.chains.now.next.items in
    let start = get_or c.args.chains.now.first.items c.args.precinct 0 in
    let at = c.loop-at.at in
    let inside = following_inside next start c.loop-at.numbers.items at c.loop-at.invariant c.loop-at-test.true in
    let goes = c.index-at-in-loop-at.ensures ∙ get_or_default_zero next (at - 1) c.index-at-in-loop-at.result.now inside in
    subst (IsFollowing next start c.push.new.self.items) (sym goes)
    (following_more next start c.loop-at.numbers.items c.push.new.self.items at c.loop-at.invariant c.loop-at-test.true c.in_ok-push.ensures.items)

pub returns-clause-numbers : goal.returns-clause-numbers
returns-clause-numbers c =
    let over : c.loop-at.at ≡ 0 = omega (arith, c.loop-at-test.false) in
    following_over c.args.chains.now.next.items (get_or c.args.chains.now.first.items c.args.precinct 0) c.loop-at.numbers.items c.loop-at.at c.loop-at.invariant over
