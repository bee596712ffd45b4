use Rattle.std.proofs.Common.{◌≡◌, ℕ, ◌≤◌, ◌++◌, sym, ◌∙◌, ap, subst, arith}
use Rattle.jk_math.specs.declared.rect.Rect.{Rect}
use Rattle.jk_math.specs.Raster.{raster}
use Rattle.jk_wave.specs.Bands.{coefficients_of}
use Rattle.jk_wave.specs.Resolutions.{resolution_of}
use Rattle.jk_wave.specs.climbing.Held.{rows_between}
use Rattle.jk_wave.specs.climbing.Stack.{made_of, AreLevelsAt}
use Rattle.jk_wave.proofs.climbing.Given.{no_rows, joined}
use Rattle.jk_wave.proofs.climbing.Stacking.{first_made, last_made, made_within, made_more}
use Rattle.jk_wave.proofs.climbing.stack.synthesise_by_rows.Goals as goal

pub loop-e-init : goal.loop-e-init
loop-e-init c =
    let b = c.args.bands.now in
    let bands = coefficients_of b.rect b.levels b.bands in
    let top : ℕ = c.args.top in
    let area = c.resolution-area.result in
    let is = c.resolution-area.ensures.value in
    let upper = ap (λ (a : Rect). a.y0) is in
    let none = first_made b.rect b.levels top top c.requires.area c.requires.top c.requires.some (omega arith) in
    let made = ap (λ e. made_of b.rect b.levels top e top) upper in
    record {
      to = c.resolution-area.ensures.area.upper;
      at = subst (λ e. AreLevelsAt b.rect b.levels top e bands c.in_ok-levels.levels.items) (sym upper) c.in_ok-levels.ensures.at;
      rows = c.in_ok-out.ensures.items ∙ sym (no_rows area area.y0 (made_of b.rect b.levels top area.y0 top) (resolution_of b.rect b.levels bands top) (omega (arith, made, none, upper)));
    }

pub loop-e-preserved : goal.loop-e-preserved
loop-e-preserved c =
    let b = c.args.bands.now in
    let bands = coefficients_of b.rect b.levels b.bands in
    let top : ℕ = c.args.top in
    let area = c.resolution-area.result in
    let is = c.resolution-area.ensures.value in
    let g = resolution_of b.rect b.levels bands top in
    let e : ℕ = c.loop-e.e in
    let to : ℕ = c.min-to.result in
    let p = made_of b.rect b.levels top e top in
    let r = made_of b.rect b.levels top to top in
    let upper = ap (λ (a : Rect). a.y0) is in
    let within = made_within b.rect b.levels top e top c.requires.area c.requires.top c.requires.some in
    let order : e ≤ to = omega (arith, c.min-to.ensures, c.saturating_add.ensures, c.loop-e-test.true) in
    let more = made_more b.rect b.levels top e to top c.requires.area order in
    record {
      to = omega (arith, c.min-to.ensures);
      at = c.in_ok-step_all.ensures.at;
      rows = c.in_ok-extend_from_slice.ensures.items
          ∙ ap (λ l. c.loop-e.out.items ++ l) (c.deref.ensures.value ∙ c.in_ok-step_all.ensures.rows ∙ ap (λ (a : Rect). raster (rows_between a p r) g) (sym is))
          ∙ ap (λ l. l ++ raster (rows_between area p r) g) c.loop-e.invariant.rows
          ∙ joined area area.y0 p r g (omega (arith, within.0, upper)) more;
    }

pub returns-clause-samples : goal.returns-clause-samples
returns-clause-samples c =
    let b = c.args.bands.now in
    let bands = coefficients_of b.rect b.levels b.bands in
    let top : ℕ = c.args.top in
    let area = c.resolution-area.result in
    let is = c.resolution-area.ensures.value in
    let g = resolution_of b.rect b.levels bands top in
    let last : c.loop-e.e ≡ area.y1 = omega (arith, c.loop-e-test.false, c.loop-e.invariant.to) in
    let end : made_of b.rect b.levels top c.loop-e.e top ≡ area.y1 =
    ap (λ e. made_of b.rect b.levels top e top) (last ∙ ap (λ (a : Rect). a.y1) is) ∙ last_made b.rect b.levels top c.requires.area c.requires.top c.requires.some ∙ sym (ap (λ (a : Rect). a.y1) is) in
    c.loop-e.invariant.rows ∙ ap (λ n. raster (rows_between area area.y0 n) g) end ∙ ap (λ (a : Rect). raster a g) is
