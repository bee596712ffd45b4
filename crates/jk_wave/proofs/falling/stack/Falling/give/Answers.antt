use Rattle.std.proofs.Common.{ℕ, ◌^◌, refl, sym, subst}
use Rattle.jk_math.specs.declared.rect.Rect.{Rect}
use Rattle.jk_wave.specs.SourceRows.{AreBelow}
use Rattle.jk_wave.proofs.falling.Alone.{with_rows, above_rows, rows_with, small_with, levels_alone}
use Rattle.jk_wave.proofs.falling.Stacked.{given_on}
use Rattle.jk_wave.proofs.falling.stack.Falling.give.Goals as goal

pub step-requires-clause-given : goal.step-requires-clause-given
step-requires-clause-given c =
    let s = c.args.self.now in
    let rows = c.args.rows.now.items in
    let some = c.requires.standing in
    let g = with_rows s.rect s.y c.args.e some.0 rows in
    (g, small_with s.rect s.y c.args.e some.0 rows some.1 c.requires.small, levels_alone some.0 g s (above_rows s.rect s.y c.args.e some.0 rows) some.2, rows_with s.rect s.y c.args.e some.0 rows c.requires.long)

pub returns-clause-standing : goal.returns-clause-standing
returns-clause-standing c =
    let s = c.args.self.now in
    let e : ℕ = c.args.e in
    let rows = c.args.rows.now.items in
    let some = c.requires.standing in
    let g = with_rows s.rect s.y e some.0 rows in
    let given = levels_alone some.0 g s (above_rows s.rect s.y e some.0 rows) some.2 in
    let same = c.in_ok-step.ensures.same in (
      g,
      subst (λ (r : Rect). AreBelow (2 ^ 17) r g) (sym same.0) (small_with s.rect s.y e some.0 rows some.1 c.requires.small),
      given_on g s _ e given c.requires.order c.requires.inside same.0 same.1 refl (c.in_ok-step.ensures.rows g given (rows_with s.rect s.y e some.0 rows c.requires.long)).0,
    )
