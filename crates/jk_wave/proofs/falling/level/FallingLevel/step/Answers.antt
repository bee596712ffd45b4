use Rattle.std.proofs.Common.{ℕ, ◌++◌, ap, subst, sym, ◌∙◌, arith, ℤ}
use Rattle.std.specs.Global.{Vec}
use Rattle.jk_math.specs.declared.rect.Rect.{Rect}
use Rattle.jk_wave.specs.falling.Held.{IsFall}
use Rattle.jk_wave.specs.falling.Stack.{part_fallen}
use Rattle.jk_wave.proofs.falling.Thin.{kept_bands}
use Rattle.jk_wave.proofs.falling.level.FallingLevel.step.Goals as goal

pub returns-clause-rows : goal.returns-clause-rows
returns-clause-rows c f holds is =
    let s = c.args.self.now in
    let t : ℕ = c.args.t in
    let n = c.take.new.self in
    let same = c.in_ok-take.ensures.same in
    let done = c.in_ok-take.ensures.rows f holds is in (
      (λ less. subst (λ (b : Rect). IsFall b f t n.fall) (sym same.0) (done.0 (let lower = ap (λ (b : Rect). b.y1) same.0 in omega (arith, less, lower)))),
      ap (λ (v : Vec ℤ). v.items) c.swap.ensures.x_after ∙ done.1 0 (omega arith) ∙ ap (λ l. l ++ part_fallen s.area s.y t f 0) c.requires.standing.none,
      (λ o some few. kept_bands c.swap.new.y n.parts o some ∙ done.1 o few),
    )
