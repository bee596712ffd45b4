use Rattle.std.proofs.Common.{◌≡◌, ℕ, ◌-◌, ◌∙◌, ap, sym, arith}
use Rattle.jk_math.specs.declared.rect.Rect.{Rect}
use Rattle.jk_wave.specs.climbing.Intervals.{rows_taken, rows_asked}
use Rattle.jk_rows.specs.Components.{area_at, taken_rows}
use Rattle.jk_rows.proofs.Taken.{taken_low, taken_at, asked_is, area_is}
use Rattle.jk_rows.proofs.taking.taken.Goals as goal

pub returns-then-r-eq0-clause-value : goal.returns-then-r-eq0-clause-value
returns-then-r-eq0-clause-value c =
    let s = c.args.source.now in
    let r : ℕ = c.args.r in
    let none : r ≡ 0 = c.if-r-eq0.true in
    let all : s.region.top - r ≡ s.region.top = omega (arith, none) in
    asked_is s r c.args.e c.rows_asked-end.result c.rect-rect.result c.region-region.result c.rect-rect.ensures.value c.region-region.ensures.value c.rows_asked-end.ensures.value
    ∙ ap (rows_asked s.region.rect s.region.levels s.region.top c.args.e) all ∙ sym (taken_low s c.args.e) ∙ ap (λ n. taken_rows s n c.args.e) (sym none)

pub returns-clause-value : goal.returns-clause-value
returns-clause-value c =
    let s = c.args.source.now in
    let r : ℕ = c.args.r in
    let end = asked_is s r c.args.e c.rows_asked-end.result c.rect-rect.result c.region-region.result c.rect-rect.ensures.value c.region-region.ensures.value c.rows_asked-end.ensures.value in
    let area = area_is s r c.rect-rect.result c.region-region.result c.resolution.result c.rect-rect.ensures.value c.region-region.ensures.value c.resolution.ensures.value in
    c.rows_taken.ensures.value ∙ ap (λ (a : Rect). rows_taken a c.rows_asked-end.result) area ∙ ap (rows_taken (area_at s r)) end ∙ taken_at s r c.args.e (omega (arith, c.if-r-eq0.false))
