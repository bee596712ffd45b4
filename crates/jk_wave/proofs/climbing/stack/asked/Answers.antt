use Rattle.std.proofs.Common.{◌+◌, ap, ◌∙◌}
use Rattle.jk_math.specs.declared.rect.Rect.{Rect}
use Rattle.jk_geom.specs.Rectangles.{resolution_area}
use Rattle.jk_wave.specs.climbing.Intervals.{rows_taken}
use Rattle.jk_wave.proofs.climbing.stack.asked.Goals as goal

pub returns-clause-value : goal.returns-clause-value
returns-clause-value c =
    let b = c.args.bands.now in
    c.rows_taken.ensures.value ∙ ap (λ (a : Rect). rows_taken a c.rows_asked.result) c.resolution-area.ensures.value ∙ ap (rows_taken (resolution_area b.rect b.levels (c.args.q + 1))) c.rows_asked.ensures.value
