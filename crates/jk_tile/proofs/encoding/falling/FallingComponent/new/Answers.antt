use Rattle.std.proofs.Common.{ℕ, ℤ, pos, sym, ap, subst, ◌∙◌}
use Rattle.jk_math.specs.declared.rect.Rect.{Rect}
use Rattle.jk_marks.specs.declared.coding.Coding.{Coding}
use Rattle.jk_wave.specs.Analysis.{analysed}
use Rattle.jk_tile.specs.encoding.FallingComponents.{AreBandsUpto}
use Rattle.jk_tile.proofs.encoding.ComponentFalls.{first_left}
use Rattle.jk_tile.proofs.encoding.falling.FallingComponent.new.Goals as goal

pub returns-clause-standing : goal.returns-clause-standing
returns-clause-standing c =
    let s = c.args.source.now in
    let w = c.in_ok-new.field-0 in
    let rect = c.rect-rect.ensures.value in
    let first = c.in_ok-new.ensures.first in
    let none : ℕ → ℕ → ℤ = λ _ _. pos 0 in
    record {
      frame = c.rect-rect.ensures.frame;
      rect = first.0 ∙ rect;
      levels = first.1 ∙ ap (λ (k : Coding). k.levels) c.coding.ensures.value;
      place = first.2;
      taken = first_left w none (first.2 ∙ ap (λ (a : Rect). a.y0) (sym first.0)) (c.in_ok-new.ensures.none none);
      bands = subst (λ (a : Rect). AreBandsUpto s a.y0 c.in_ok-first_bands.field-0.items) (sym rect) c.in_ok-first_bands.ensures.bands;
    }

pub returns-clause-rows : goal.returns-clause-rows
returns-clause-rows c f = record { given = c.in_ok-new.ensures.given f; bands = c.in_ok-first_bands.ensures.rows (analysed c.args.source.now.rect c.args.source.now.coding.levels f) }
