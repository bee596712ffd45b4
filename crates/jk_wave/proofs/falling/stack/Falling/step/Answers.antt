use Rattle.std.proofs.Common.{◌≡◌, ◌≢◌, ℕ, ℤ, ◌+◌, ◌-◌, ◌/◌, ◌<◌, get_or, length, refl, sym, ◌∙◌, ap, subst, arith}
use Rattle.std.proofs.lemmas.List.{get_or_default, get_or-set_same, get_or-set_other, length-set}
use Rattle.jk_math.specs.declared.rect.Rect.{Rect}
use Rattle.jk_geom.specs.Rectangles.{resolution_area}
use Rattle.jk_wave.specs.Levels.{half_bound}
use Rattle.jk_wave.specs.Analysis.{reduced}
use Rattle.jk_wave.specs.declared.falling.level.FallingLevel.{FallingLevel}
use Rattle.jk_wave.specs.falling.Intervals.{rows_fallen, rows_given}
use Rattle.jk_wave.specs.falling.Stack.{IsFallenTo}
use Rattle.jk_wave.proofs.falling.Making.{given_first, given_more}
use Rattle.jk_wave.proofs.falling.Stacked.{passed_first, passed_more, passed_still, steps, given_small, given_rows}
use Rattle.jk_wave.proofs.falling.stack.Falling.step.Goals as goal

pub loop-n-init : goal.loop-n-init
loop-n-init c =
    let s = c.args.self.now in
    record {
      rect = refl;
      levels = refl;
      y = refl;
      low = refl;
      count = c.requires.given.2.at.count;
      place = sym (given_first s.rect s.levels c.args.e);
      left = λ k other from. refl;
      passed = λ f given is. passed_first s.rect s.levels s.y c.args.e f s.all.items c.args.rows.now.items is;
    }

pub returns-then-index-t-clause-rows : goal.returns-then-index-t-clause-rows
returns-then-index-t-clause-rows c f given is =
    let s = c.args.self.now in
    let n : ℕ = c.loop-n.n in
    let now = c.loop-n.invariant in
    let level = c.index.result.now in
    let less : n < s.levels = omega (arith, c.loop-n-test.true) in
    let first : level ≡ get_or s.all.items n level = c.index.ensures ∙ now.left n level (omega arith) in
    let place = ap (λ (l : FallingLevel). l.y) first ∙ (given.at.each n level less).place in
    passed_still s.rect s.levels s.y c.args.e n f s.all.items c.loop-n.self.all.items c.loop-n.rows.items (omega (arith, less)) now.count (sym place ∙ c.if-index-t.true ∙ now.place) now.left given.at (now.passed f given is)

pub step-requires-clause-order : goal.step-requires-clause-order
step-requires-clause-order c =
    let s = c.args.self.now in
    let n : ℕ = c.loop-n.n in
    let now = c.loop-n.invariant in
    let level = c.index_mut.result.now in
    let less : n < s.levels = omega (arith, c.loop-n-test.true) in
    let given = c.requires.given in
    let first : level ≡ get_or s.all.items n level = c.index_mut.ensures.value ∙ now.left n level (omega arith) in
    let at = subst (IsFallenTo s.rect s.levels s.y given.0 n) (sym first) (given.2.at.each n level less) in
    (steps s.rect s.levels s.y c.args.e n given.0 level c.loop-n.rows.items c.loop-n.t given.2.area less given.2.upper c.requires.order c.requires.inside at (now.passed given.0 given.2 given.3).left now.place).order

pub step-requires-clause-inside : goal.step-requires-clause-inside
step-requires-clause-inside c =
    let s = c.args.self.now in
    let n : ℕ = c.loop-n.n in
    let now = c.loop-n.invariant in
    let level = c.index_mut.result.now in
    let less : n < s.levels = omega (arith, c.loop-n-test.true) in
    let given = c.requires.given in
    let first : level ≡ get_or s.all.items n level = c.index_mut.ensures.value ∙ now.left n level (omega arith) in
    let at = subst (IsFallenTo s.rect s.levels s.y given.0 n) (sym first) (given.2.at.each n level less) in
    (steps s.rect s.levels s.y c.args.e n given.0 level c.loop-n.rows.items c.loop-n.t given.2.area less given.2.upper c.requires.order c.requires.inside at (now.passed given.0 given.2 given.3).left now.place).inside

pub step-requires-clause-long : goal.step-requires-clause-long
step-requires-clause-long c =
    let s = c.args.self.now in
    let n : ℕ = c.loop-n.n in
    let now = c.loop-n.invariant in
    let level = c.index_mut.result.now in
    let less : n < s.levels = omega (arith, c.loop-n-test.true) in
    let given = c.requires.given in
    let first : level ≡ get_or s.all.items n level = c.index_mut.ensures.value ∙ now.left n level (omega arith) in
    let at = subst (IsFallenTo s.rect s.levels s.y given.0 n) (sym first) (given.2.at.each n level less) in
    (steps s.rect s.levels s.y c.args.e n given.0 level c.loop-n.rows.items c.loop-n.t given.2.area less given.2.upper c.requires.order c.requires.inside at (now.passed given.0 given.2 given.3).left now.place).long

pub step-requires-clause-small : goal.step-requires-clause-small
step-requires-clause-small c =
    let s = c.args.self.now in
    let n : ℕ = c.loop-n.n in
    let less : n < s.levels = omega (arith, c.loop-n-test.true) in
    let given = c.requires.given in
    given_small s.rect s.levels s.y c.args.e n given.0 c.loop-n.rows.items given.2.area given.2.few less given.2.upper c.requires.order c.requires.inside given.1 (c.loop-n.invariant.passed given.0 given.2 given.3).left

pub loop-n-preserved : goal.loop-n-preserved
loop-n-preserved c =
    let s = c.args.self.now in
    let rect = s.rect in
    let levels : ℕ = s.levels in
    let e : ℕ = c.args.e in
    let n : ℕ = c.loop-n.n in
    let t : ℕ = c.loop-n.t in
    let now = c.loop-n.invariant in
    let all = c.loop-n.self.all.items in
    let was = c.index_mut.result.now in
    let is = c.step.new.self in
    let less : n < levels = omega (arith, c.loop-n-test.true) in
    let count = now.count in
    let here : n < length all = omega (arith, less, count) in
    let done = c.in_ok-step.ensures in
    let first : (other : FallingLevel) → was ≡ get_or s.all.items n other = λ other. c.index_mut.ensures.value ∙ get_or_default all n was other here ∙ now.left n other (omega arith) in
    let at : (f : ℕ → ℕ → ℤ) → IsFallenTo rect levels s.y f n (get_or s.all.items n was) → IsFallenTo rect levels s.y f n was = λ f. subst (IsFallenTo rect levels s.y f n) (sym (first was)) in
    let given = c.requires.given in
    let area = done.same.0 ∙ (at given.0 (given.2.at.each n was less)).is in
    let next : c.index-in-loop-n.result.now ≡ is = c.index-in-loop-n.ensures ∙ get_or-set_same all n is c.index-in-loop-n.result.now here in
    let fallen : c.rows_fallen.result ≡ rows_fallen (resolution_area rect levels (levels - n)) (rows_given rect levels e n) =
    c.rows_fallen.ensures.value ∙ ap (λ (l : FallingLevel). rows_fallen l.area t) next ∙ ap (λ (a : Rect). rows_fallen a t) area ∙ ap (rows_fallen (resolution_area rect levels (levels - n))) now.place in
    record {
      rect = now.rect;
      levels = now.levels;
      y = now.y;
      low = now.low;
      count = length-set all n is ∙ count;
      place = (let half : (c.rows_fallen.result + 1) / 2 ≡ half_bound c.rows_fallen.result 0 = omega arith in half) ∙ ap (λ k. half_bound k 0) fallen ∙ sym (given_more rect levels e n);
      left = λ k other from. get_or-set_other all n k is other (let ne : k ≢ n = omega (arith, from) in ne) ∙ now.left k other (omega (arith, from));
      passed = λ f sure rows.
          let g = reduced rect levels f n in
          let standing = at f (sure.at.each n was less) in
          let before = now.passed f sure rows in
          let made = done.rows g standing.holds (given_rows rect levels s.y e n f was c.loop-n.rows.items t standing before.left now.place) in
          passed_more rect levels s.y e n t f s.all.items all was is c.loop-n.rows.items c.step.new.fresh.items less here now.place first standing done.standing done.same.0 done.same.1 made.0 made.1 made.2 before;
    }
