use Rattle.std.proofs.Common.{ℕ, ◌+◌, ◌-◌, ◌/◌, ◌∙◌, arith}
use Rattle.jk_lift.proofs.Laws.{unlifted_same}
use Rattle.jk_wave.specs.climbing.PartRows.{pair_at, coefficient}
use Rattle.jk_wave.proofs.climbing.WovenParts.{row_fits, row_from, low_small, high_small, even_pair, odd_pair}
use Rattle.jk_wave.proofs.climbing.parts.WovenRowsRowSource.put_row.Goals as goal

pub overflow_sub-n : goal.overflow_sub-n
overflow_sub-n c = row_from c.args.self.now 0 c.args.y c.requires.stands c.requires.inside.0 (omega arith) (omega (arith, c.if-y-eq0.true))

pub overflow_sub-n-then-y-eq0 : goal.overflow_sub-n-then-y-eq0
overflow_sub-n-then-y-eq0 c = row_from c.args.self.now 1 c.args.y c.requires.stands c.requires.inside.0 (omega arith) (omega (arith, c.if-y-eq0.true))

pub weave-requires-clause-low_inside : goal.weave-requires-clause-low_inside
weave-requires-clause-low_inside c = row_fits c.args.self.now 0 c.args.y c.requires.stands c.requires.inside.0 c.requires.inside.1 (omega arith) (omega (arith, c.if-y-eq0.true))

pub weave-requires-clause-high_inside : goal.weave-requires-clause-high_inside
weave-requires-clause-high_inside c = row_fits c.args.self.now 1 c.args.y c.requires.stands c.requires.inside.0 c.requires.inside.1 (omega arith) (omega (arith, c.if-y-eq0.true))

pub weave-requires-clause-low_small : goal.weave-requires-clause-low_small
weave-requires-clause-low_small c = low_small c.args.self.now.ll.values.now c.requires.stands.low_small

pub weave-requires-clause-high_small : goal.weave-requires-clause-high_small
weave-requires-clause-high_small c = high_small c.args.self.now.hl.values.now (c.requires.stands.high_small 1 (omega arith) (omega arith))

pub overflow_sub-n-else-y-eq0 : goal.overflow_sub-n-else-y-eq0
overflow_sub-n-else-y-eq0 c = row_from c.args.self.now 2 c.args.y c.requires.stands c.requires.inside.0 (omega arith) (omega (arith, c.if-y-eq0.false))

pub overflow_sub-n-else-y-eq0-2 : goal.overflow_sub-n-else-y-eq0-2
overflow_sub-n-else-y-eq0-2 c = row_from c.args.self.now 3 c.args.y c.requires.stands c.requires.inside.0 (omega arith) (omega (arith, c.if-y-eq0.false))

pub weave-requires-else-y-eq0-clause-low_inside : goal.weave-requires-else-y-eq0-clause-low_inside
weave-requires-else-y-eq0-clause-low_inside c = row_fits c.args.self.now 2 c.args.y c.requires.stands c.requires.inside.0 c.requires.inside.1 (omega arith) (omega (arith, c.if-y-eq0.false))

pub weave-requires-else-y-eq0-clause-high_inside : goal.weave-requires-else-y-eq0-clause-high_inside
weave-requires-else-y-eq0-clause-high_inside c = row_fits c.args.self.now 3 c.args.y c.requires.stands c.requires.inside.0 c.requires.inside.1 (omega arith) (omega (arith, c.if-y-eq0.false))

pub weave-requires-else-y-eq0-clause-low_small : goal.weave-requires-else-y-eq0-clause-low_small
weave-requires-else-y-eq0-clause-low_small c = high_small c.args.self.now.lh.values.now (c.requires.stands.high_small 2 (omega arith) (omega arith))

pub weave-requires-else-y-eq0-clause-high_small : goal.weave-requires-else-y-eq0-clause-high_small
weave-requires-else-y-eq0-clause-high_small c = high_small c.args.self.now.hh.values.now (c.requires.stands.high_small 3 (omega arith) (omega arith))

pub returns-then-y-eq0 : goal.returns-then-y-eq0
returns-then-y-eq0 c k lt =
    let s = c.args.self.now in
    let a = s.area in
    let y : ℕ = c.args.y in
    c.weave.ensures k lt
    ∙ unlifted_same a.x0 a.x1 (pair_at a (y / 2 - s.ll.from) (y / 2 - s.hl.from) s.ll.values.now s.hl.values.now) (λ i. coefficient s i y) (a.x0 + k) (omega arith) (omega (arith, lt)) (λ i from to. even_pair s y i c.if-y-eq0.true)

pub returns-else-y-eq0 : goal.returns-else-y-eq0
returns-else-y-eq0 c k lt =
    let s = c.args.self.now in
    let a = s.area in
    let y : ℕ = c.args.y in
    c.weave-else-y-eq0.ensures k lt
    ∙ unlifted_same a.x0 a.x1 (pair_at a (y / 2 - s.lh.from) (y / 2 - s.hh.from) s.lh.values.now s.hh.values.now) (λ i. coefficient s i y) (a.x0 + k) (omega arith) (omega (arith, lt))
    (λ i from to. odd_pair s y i (omega (arith, c.if-y-eq0.false)))
