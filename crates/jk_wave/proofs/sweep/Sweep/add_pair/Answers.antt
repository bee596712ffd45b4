use Rattle.std.proofs.Common.{◌≡◌, ℕ, ◌+◌, ◌-◌, ◌≤◌, ◌<◌, length, ℤ, refl, sym, ap, subst, ◌∙◌, arith}
use Rattle.std.specs.Global.{Vec}
use Rattle.std.specs.Vec.{with_items}
use Rattle.jk_math.specs.Raster.{columns_of}
use Rattle.jk_lift.specs.Lifting.{before}
use Rattle.jk_lift.proofs.Laws.{before_inside, after_inside}
use Rattle.jk_wave.specs.Levels.{part_list, IsPartUpto}
use Rattle.jk_wave.specs.SourceRows.{IsRow, column_lifted, column_high}
use Rattle.jk_wave.proofs.ColumnRows.{row_like, high_like, lifted_like, high_is, high_small, lifted_small, place_before, vector_row}
use Rattle.jk_wave.proofs.sweep.Sweep.add_pair.Goals as goal

pub make_low-requires-clause-above_small : goal.make_low-requires-clause-above_small
make_low-requires-clause-above_small g c =
    let area = c.args.area.now in
    let f = g.S.RowSource.value_at c.args.source.now in
    let b : ℕ = before area.y0 area.y1 c.args.y in
    let tall : area.y0 + 2 ≤ area.y1 = omega (arith, c.requires.tall) in
    let place = place_before area c.args.y tall c.requires.from (omega (arith, c.requires.inside)) c.requires.even in
    let high : IsRow area (column_high area f b) c.read_odd.new.self.before.items =
    subst (λ (v : Vec ℤ). IsRow area (column_high area f b) v.items) (sym c.read_odd.ensures.same.0) (c.requires.sweep.high (omega (arith, c.requires.inside))) in
    high_small area f b _ c.requires.small tall place.0 place.1 place.2 (high_like area f b b c.read_odd.new.self.before.items _ refl c.deref.ensures.value high)

pub make_low-requires-clause-below_small : goal.make_low-requires-clause-below_small
make_low-requires-clause-below_small g c =
    let area = c.args.area.now in
    let f = g.S.RowSource.value_at c.args.source.now in
    let y : ℕ = c.args.y in
    let tall : area.y0 + 2 ≤ area.y1 = omega (arith, c.requires.tall) in
    high_small area f (y + 1) _ c.requires.small tall (omega (arith, c.requires.from)) c.requires.inside (omega (arith, c.requires.even))
    (high_like area f (y + 1) (y + 1) c.read_odd.new.self.odd.items _ refl c.deref-2.ensures.value c.read_odd.ensures.odd)

pub add_row-requires-clause-small : goal.add_row-requires-clause-small
add_row-requires-clause-small g c =
    let area = c.args.area.now in
    let f = g.S.RowSource.value_at c.args.source.now in
    let y : ℕ = c.args.y in
    let b : ℕ = before area.y0 area.y1 y in
    let t = c.read_odd.new.self in
    let tall : area.y0 + 2 ≤ area.y1 = omega (arith, c.requires.tall) in
    let here : IsRow area (λ x. f x y) t.even.items =
    subst (λ (v : Vec ℤ). IsRow area (λ x. f x y) v.items) (sym c.read_odd.ensures.same.1) (c.requires.sweep.even (omega (arith, c.requires.inside))) in
    let high : IsRow area (column_high area f b) t.before.items =
    subst (λ (v : Vec ℤ). IsRow area (column_high area f b) v.items) (sym c.read_odd.ensures.same.0) (c.requires.sweep.high (omega (arith, c.requires.inside))) in
    let low = c.make_low.ensures f (row_like area f y y t.even.items _ refl c.deref_mut.ensures.value here) (high_like area f b b t.before.items _ refl c.deref.ensures.value high)
    (high_like area f (y + 1) _ t.odd.items _ (after_inside area.y0 area.y1 y tall c.requires.from c.requires.inside) c.deref-2.ensures.value c.read_odd.ensures.odd) in
    let same = vector_row t.even c.make_low.new.row (c.make_low.auto.row ∙ ap length c.deref_mut.ensures.value) in
    lifted_small area f y _ c.requires.small c.requires.from (omega (arith, c.requires.inside)) (lifted_like area f y c.make_low.new.row _ (c.deref-3.ensures.value ∙ same) low)

pub add_row-requires-2-clause-small : goal.add_row-requires-2-clause-small
add_row-requires-2-clause-small g c =
    let area = c.args.area.now in
    let f = g.S.RowSource.value_at c.args.source.now in
    let y : ℕ = c.args.y in
    let tall : area.y0 + 2 ≤ area.y1 = omega (arith, c.requires.tall) in
    lifted_small area f (y + 1) _ c.requires.small (omega (arith, c.requires.from)) c.requires.inside
    (lifted_like area f (y + 1) c.read_odd.new.self.odd.items _ c.deref-4.ensures.value (high_is area f (y + 1) c.read_odd.new.self.odd.items tall (omega (arith, c.requires.even)) c.read_odd.ensures.odd))

pub returns-clause-sweep : goal.returns-clause-sweep
returns-clause-sweep g c =
    let area = c.args.area.now in
    let f = g.S.RowSource.value_at c.args.source.now in
    let y : ℕ = c.args.y in
    let t = c.read_odd.new.self in
    let tall : area.y0 + 2 ≤ area.y1 = omega (arith, c.requires.tall) in
    let long = c.read_odd.ensures.long in
    let even = vector_row t.even c.make_low.new.row (c.make_low.auto.row ∙ ap length c.deref_mut.ensures.value) in
    let even_long : length c.make_low.new.row ≡ columns_of area = c.make_low.auto.row ∙ ap length c.deref_mut.ensures.value ∙ long.even in
    let line = vector_row t.line c.add_row.new.line (c.add_row.auto.line ∙ ap length c.deref_mut-2.ensures.value) in
    let line_long : length c.add_row.new.line ≡ length t.line.items = c.add_row.auto.line ∙ ap length c.deref_mut-2.ensures.value in
    let again = vector_row (with_items t.line c.add_row.new.line) c.add_row-2.new.line (c.add_row-2.auto.line ∙ ap length c.deref_mut-3.ensures.value) in
    let again_long : length c.add_row-2.new.line ≡ length (with_items t.line c.add_row.new.line).items = c.add_row-2.auto.line ∙ ap length c.deref_mut-3.ensures.value in
    record {
      long = record {
        before = ap (λ (v : Vec ℤ). length v.items) c.swap.ensures.x_after ∙ long.odd;
        even = ap (λ (v : Vec ℤ). length v.items) c.swap-2.ensures.x_after ∙ long.next;
        odd = ap (λ (v : Vec ℤ). length v.items) c.swap.ensures.y_after ∙ long.before;
        next = ap (λ (v : Vec ℤ). length v.items) c.swap-2.ensures.y_after ∙ ap length even ∙ even_long;
        line = ap length again ∙ again_long ∙ ap length line ∙ line_long ∙ long.line;
      };
      even = λ lt.
          let next = c.read_odd.ensures.next (let e : y + 1 + 1 < area.y1 = omega (arith, lt) in e) in
          row_like area f (y + 1 + 1) (y + 2) t.next.items _ (let e : y + 2 ≡ y + 1 + 1 = omega arith in e) (ap (λ (v : Vec ℤ). v.items) c.swap-2.ensures.x_after) next;
      high = λ lt.
          let at : before area.y0 area.y1 (y + 2) ≡ y + 1 = before_inside area.y0 area.y1 (y + 2) tall (omega (arith, c.requires.from)) lt ∙ (let e : y + 2 - 1 ≡ y + 1 = omega arith in e) in
          high_like area f (y + 1) (before area.y0 area.y1 (y + 2)) t.odd.items _ at (ap (λ (v : Vec ℤ). v.items) c.swap.ensures.x_after) c.read_odd.ensures.odd;
    }

pub returns-clause-parts : goal.returns-clause-parts
returns-clause-parts g c o few before_y =
    let area = c.args.area.now in
    let f = g.S.RowSource.value_at c.args.source.now in
    let y : ℕ = c.args.y in
    let b : ℕ = before area.y0 area.y1 y in
    let t = c.read_odd.new.self in
    let tall : area.y0 + 2 ≤ area.y1 = omega (arith, c.requires.tall) in
    let here : IsRow area (λ x. f x y) t.even.items =
    subst (λ (v : Vec ℤ). IsRow area (λ x. f x y) v.items) (sym c.read_odd.ensures.same.1) (c.requires.sweep.even (omega (arith, c.requires.inside))) in
    let high : IsRow area (column_high area f b) t.before.items =
    subst (λ (v : Vec ℤ). IsRow area (column_high area f b) v.items) (sym c.read_odd.ensures.same.0) (c.requires.sweep.high (omega (arith, c.requires.inside))) in
    let low = c.make_low.ensures f (row_like area f y y t.even.items _ refl c.deref_mut.ensures.value here) (high_like area f b b t.before.items _ refl c.deref.ensures.value high)
    (high_like area f (y + 1) _ t.odd.items _ (after_inside area.y0 area.y1 y tall c.requires.from c.requires.inside) c.deref-2.ensures.value c.read_odd.ensures.odd) in
    let same = vector_row t.even c.make_low.new.row (c.make_low.auto.row ∙ ap length c.deref_mut.ensures.value) in
    let columns : ℕ → ℕ → ℤ = λ x v. column_lifted area f v x in
    let first = c.in_ok-add_row.ensures.parts columns o few (lifted_like area f y c.make_low.new.row _ (c.deref-3.ensures.value ∙ same) low) before_y in
    let second = c.in_ok-add_row-2.ensures.parts columns o few
    (lifted_like area f (y + 1) t.odd.items _ c.deref-4.ensures.value (high_is area f (y + 1) t.odd.items tall (omega (arith, c.requires.even)) c.read_odd.ensures.odd)) first in
    subst (λ n. IsPartUpto area o n columns (part_list c.add_row-2.new.self o)) (let e : y + 1 + 1 ≡ y + 2 = omega arith in e) second
