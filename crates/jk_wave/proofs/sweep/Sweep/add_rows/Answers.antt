use Rattle.std.proofs.Common.{◌≡◌, ℕ, ℤ, ◌+◌, ◌≤◌, length, refl, sym, ap, subst, ◌∙◌, arith}
use Rattle.jk_lift.specs.Lifting.{before}
use Rattle.jk_lift.proofs.Laws.{before_inside, after_last}
use Rattle.jk_wave.specs.Levels.{part_list, IsPartUpto}
use Rattle.jk_wave.specs.SourceRows.{column_lifted}
use Rattle.jk_wave.proofs.ColumnRows.{row_like, high_like, lifted_like, samples_small, high_small, lifted_small, place_before, vector_row}
use Rattle.jk_wave.proofs.sweep.Sweep.add_rows.Goals as goal

pub make_low-requires-clause-small : goal.make_low-requires-clause-small
make_low-requires-clause-small g c =
    let area = c.args.area.now in
    let f = g.S.RowSource.value_at c.args.source.now in
    let y = c.loop-y.y in
    samples_small area f y _ c.requires.small c.loop-y.invariant.from c.if-y-area.true
    (row_like area f y y c.loop-y.self.even.items _ refl c.deref_mut.ensures.value (c.loop-y.invariant.sweep.even c.if-y-area.true))

pub make_low-requires-clause-above_small : goal.make_low-requires-clause-above_small
make_low-requires-clause-above_small g c =
    let area = c.args.area.now in
    let f = g.S.RowSource.value_at c.args.source.now in
    let y = c.loop-y.y in
    let b : ℕ = before area.y0 area.y1 y in
    let tall : area.y0 + 2 ≤ area.y1 = omega (arith, c.requires.tall) in
    let place = place_before area y tall c.loop-y.invariant.from c.if-y-area.true c.loop-y.invariant.even in
    high_small area f b _ c.requires.small tall place.0 place.1 place.2
    (high_like area f b b c.loop-y.self.before.items _ refl c.deref.ensures.value (c.loop-y.invariant.sweep.high c.if-y-area.true))

pub make_low-requires-clause-below_small : goal.make_low-requires-clause-below_small
make_low-requires-clause-below_small g c =
    let area = c.args.area.now in
    let f = g.S.RowSource.value_at c.args.source.now in
    let y = c.loop-y.y in
    let b : ℕ = before area.y0 area.y1 y in
    let tall : area.y0 + 2 ≤ area.y1 = omega (arith, c.requires.tall) in
    let place = place_before area y tall c.loop-y.invariant.from c.if-y-area.true c.loop-y.invariant.even in
    high_small area f b _ c.requires.small tall place.0 place.1 place.2
    (high_like area f b b c.loop-y.self.before.items _ refl c.deref-then-y-area.ensures.value (c.loop-y.invariant.sweep.high c.if-y-area.true))

pub add_row-requires-clause-small : goal.add_row-requires-clause-small
add_row-requires-clause-small g c =
    let area = c.args.area.now in
    let f = g.S.RowSource.value_at c.args.source.now in
    let y = c.loop-y.y in
    let s = c.loop-y.self in
    let b : ℕ = before area.y0 area.y1 y in
    let here = c.loop-y.invariant.sweep.even c.if-y-area.true in
    let high = c.loop-y.invariant.sweep.high c.if-y-area.true in
    let tall : area.y0 + 2 ≤ area.y1 = omega (arith, c.requires.tall) in
    let end : y + 1 ≡ area.y1 = omega (arith, c.loop-y-test.false, c.if-y-area.true) in
    let last = after_last area.y0 area.y1 y tall end ∙ sym (before_inside area.y0 area.y1 y tall (omega (arith, tall, end)) c.if-y-area.true) in
    let low = c.make_low.ensures f (row_like area f y y s.even.items _ refl c.deref_mut.ensures.value here) (high_like area f b b s.before.items _ refl c.deref.ensures.value high)
    (high_like area f b _ s.before.items _ last c.deref-then-y-area.ensures.value high) in
    let same = vector_row s.even c.make_low.new.row (c.make_low.auto.row ∙ ap length c.deref_mut.ensures.value) in
    lifted_small area f y _ c.requires.small c.loop-y.invariant.from c.if-y-area.true (lifted_like area f y c.make_low.new.row _ (c.deref-then-y-area-2.ensures.value ∙ same) low)

pub returns-in_ok-add_row-clause-parts : goal.returns-in_ok-add_row-clause-parts
returns-in_ok-add_row-clause-parts g c o few =
    let area = c.args.area.now in
    let f = g.S.RowSource.value_at c.args.source.now in
    let y = c.loop-y.y in
    let s = c.loop-y.self in
    let b : ℕ = before area.y0 area.y1 y in
    let here = c.loop-y.invariant.sweep.even c.if-y-area.true in
    let high = c.loop-y.invariant.sweep.high c.if-y-area.true in
    let tall : area.y0 + 2 ≤ area.y1 = omega (arith, c.requires.tall) in
    let end : y + 1 ≡ area.y1 = omega (arith, c.loop-y-test.false, c.if-y-area.true) in
    let last = after_last area.y0 area.y1 y tall end ∙ sym (before_inside area.y0 area.y1 y tall (omega (arith, tall, end)) c.if-y-area.true) in
    let low = c.make_low.ensures f (row_like area f y y s.even.items _ refl c.deref_mut.ensures.value here) (high_like area f b b s.before.items _ refl c.deref.ensures.value high)
    (high_like area f b _ s.before.items _ last c.deref-then-y-area.ensures.value high) in
    let same = vector_row s.even c.make_low.new.row (c.make_low.auto.row ∙ ap length c.deref_mut.ensures.value) in
    let columns : ℕ → ℕ → ℤ = λ x v. column_lifted area f v x in
    subst (λ n. IsPartUpto area o n columns (part_list c.add_row.new.self o)) end
    (c.in_ok-add_row.ensures.parts columns o few (lifted_like area f y c.make_low.new.row _ (c.deref-then-y-area-2.ensures.value ∙ same) low) (c.loop-y.invariant.parts o few))

pub returns-else-y-area-clause-parts : goal.returns-else-y-area-clause-parts
returns-else-y-area-clause-parts g c o few =
    let area = c.args.area.now in
    let f = g.S.RowSource.value_at c.args.source.now in
    let columns : ℕ → ℕ → ℤ = λ x v. column_lifted area f v x in
    subst (λ n. IsPartUpto area o n columns (part_list c.loop-y.parts o)) (let e : c.loop-y.y ≡ area.y1 = omega (arith, c.if-y-area.false, c.loop-y.invariant.to) in e) (c.loop-y.invariant.parts o few)
