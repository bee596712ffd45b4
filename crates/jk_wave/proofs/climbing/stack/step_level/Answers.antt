use Rattle.std.proofs.Common.{ℕ, ◌+◌, ◌*◌, ◌++◌, Result, Ok, Err, ℤ, refl, sym, ◌∙◌, ap, subst, arith}
use Rattle.std.specs.Prelude.{OnOk}
use Rattle.jk_math.specs.declared.rect.Rect.{Rect}
use Rattle.jk_math.specs.Raster.{raster}
use Rattle.jk_geom.specs.Rectangles.{resolution_area}
use Rattle.jk_wave.specs.Bands.{coefficients_of}
use Rattle.jk_wave.specs.Levels.{half_area, unlifted_over}
use Rattle.jk_wave.specs.Resolutions.{resolution_of}
use Rattle.jk_wave.proofs.Equations.{level_of}
use Rattle.jk_wave.specs.climbing.Held.{rows_between}
use Rattle.jk_wave.specs.climbing.Intervals.{rows_reached}
use Rattle.jk_wave.specs.climbing.Standing.{AreHigh, ShowHigh}
use Rattle.jk_wave.specs.climbing.Stack.{made_of}
use Rattle.jk_wave.proofs.climbing.WovenParts.{resolved}
use Rattle.jk_wave.proofs.climbing.Stacking.{steps, bands_small, made_above, half_is}
use Rattle.jk_wave.proofs.climbing.stack.step_level.Goals as goal

-- what follows of three facts where a step is done
on_three : {A E P Q R S : Type 0} (r : Result A E) → (P → Q → R → S) → OnOk r P → OnOk r Q → OnOk r R → OnOk r S
on_three (Ok x) go p q s = go p q s
on_three (Err e) go p q s = p

pub step-requires-clause-may : goal.step-requires-clause-may
step-requires-clause-may c =
    let b = c.args.bands.now in
    (steps b.rect b.levels c.args.top c.args.at.from c.args.at.to c.args.at.below (coefficients_of b.rect b.levels b.bands) c.args.level.now c.args.fresh.now c.asked-t.result c.requires.area c.requires.levels c.requires.top c.requires.q (bands_small b.rect b.levels c.args.top b.bands c.requires.bands) c.requires.order
    c.requires.at c.requires.fresh c.asked-t.ensures.value).may

pub step-requires-clause-high : goal.step-requires-clause-high
step-requires-clause-high c =
    let b = c.args.bands.now in
    let at = c.requires.at in
    let upper = ap (λ (r : Rect). r.y0) at.is in
    let lower = ap (λ (r : Rect). r.y1) at.is in
    let can = steps b.rect b.levels c.args.top c.args.at.from c.args.at.to c.args.at.below (coefficients_of b.rect b.levels b.bands) c.args.level.now c.args.fresh.now c.asked-t.result c.requires.area c.requires.levels c.requires.top c.requires.q (bands_small b.rect b.levels c.args.top b.bands c.requires.bands)
    c.requires.order at c.requires.fresh c.asked-t.ensures.value in
    subst (λ (a : Rect). AreHigh a c.args.level.now.v c.asked-t.result c.high_of.result) (sym at.is)
    (c.high_of.ensures.are c.args.level.now.v c.asked-t.result (omega (arith, upper, at.standing.upper)) (omega (arith, lower, can.may.inside)))

pub returns-clause-at : goal.returns-clause-at
returns-clause-at c =
    let b = c.args.bands.now in
    let bands = coefficients_of b.rect b.levels b.bands in
    let q : ℕ = c.args.at.below in
    let at = c.requires.at in
    let can = steps b.rect b.levels c.args.top c.args.at.from c.args.at.to q (coefficients_of b.rect b.levels b.bands) c.args.level.now c.args.fresh.now c.asked-t.result c.requires.area c.requires.levels c.requires.top c.requires.q (bands_small b.rect b.levels c.args.top b.bands c.requires.bands) c.requires.order
    at c.requires.fresh c.asked-t.ensures.value in
    let low = resolution_of b.rect b.levels bands q in
    let high : ℕ → ℕ → ℕ → ℤ = λ o. bands (3 * q + o) in
    let p = made_of b.rect b.levels c.args.top c.args.at.from q in
    let r = made_of b.rect b.levels c.args.top c.args.at.to q in
    let half = ap (λ (a : Rect). half_area a 0) at.is ∙ half_is b.rect b.levels q (omega (arith, c.requires.q, c.requires.top)) in
    on_three c.step.result (λ standing same given. record {
      standing = standing;
      is = same.0 ∙ at.is;
      place = same.1 ∙ c.asked-t.ensures.value;
      holds = (given low high p r at.holds (subst (λ (a : Rect). ShowHigh a c.args.level.now.v c.asked-t.result high c.high_of.result) (sym at.is) (c.high_of.ensures.show c.args.level.now.v c.asked-t.result))
          (c.requires.fresh ∙ ap (λ (a : Rect). raster (rows_between a p r) low) (sym half)) can.above can.more can.under).0;
    }) c.step.ensures.standing c.step.ensures.same c.step.ensures.samples

pub returns-clause-rows : goal.returns-clause-rows
returns-clause-rows c =
    let b = c.args.bands.now in
    let bands = coefficients_of b.rect b.levels b.bands in
    let top : ℕ = c.args.top in
    let q : ℕ = c.args.at.below in
    let at = c.requires.at in
    let a = resolution_area b.rect b.levels (q + 1) in
    let here = c.args.level.now.area in
    let v : ℕ = c.args.level.now.v in
    let t : ℕ = c.asked-t.result in
    let can = steps b.rect b.levels top c.args.at.from c.args.at.to q (coefficients_of b.rect b.levels b.bands) c.args.level.now c.args.fresh.now t c.requires.area c.requires.levels c.requires.top c.requires.q (bands_small b.rect b.levels c.args.top b.bands c.requires.bands) c.requires.order at c.requires.fresh
    c.asked-t.ensures.value in
    let low = resolution_of b.rect b.levels bands q in
    let high : ℕ → ℕ → ℕ → ℤ = λ o. bands (3 * q + o) in
    let whole = level_of b.rect b.levels bands q in
    let p = made_of b.rect b.levels top c.args.at.from q in
    let r = made_of b.rect b.levels top c.args.at.to q in
    let half = ap (λ (d : Rect). half_area d 0) at.is ∙ half_is b.rect b.levels q (omega (arith, c.requires.q, c.requires.top)) in
    on_three c.step.result (λ standing same given.
    (given low high p r at.holds (subst (λ (d : Rect). ShowHigh d v t high c.high_of.result) (sym at.is) (c.high_of.ensures.show v t))
    (c.requires.fresh ∙ ap (λ (d : Rect). raster (rows_between d p r) low) (sym half)) can.above can.more can.under).1
    ∙ ap (λ l. l ++ raster (rows_between here (rows_reached here v) (rows_reached here t)) (unlifted_over here whole)) c.clear.ensures.items
    ∙ ap (λ (d : Rect). raster (rows_between d (rows_reached d v) (rows_reached d t)) (unlifted_over d whole)) at.is
    ∙ ap (λ n. raster (rows_between a n (rows_reached a t)) (unlifted_over a whole)) (ap (rows_reached a) at.place ∙ sym (made_above b.rect b.levels top c.args.at.from q))
    ∙ ap (λ n. raster (rows_between a (made_of b.rect b.levels top c.args.at.from (q + 1)) n) (unlifted_over a whole)) (ap (rows_reached a) c.asked-t.ensures.value ∙ sym (made_above b.rect b.levels top c.args.at.to q))
    ∙ resolved a b.rect b.levels q bands (made_of b.rect b.levels top c.args.at.from (q + 1)) (made_of b.rect b.levels top c.args.at.to (q + 1)) refl) c.step.ensures.standing c.step.ensures.same c.step.ensures.samples
