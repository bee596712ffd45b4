use Rattle.std.proofs.Common.{◌+◌, ◌∙◌, ap}
use Rattle.jk_math.specs.declared.rect.Rect.{Rect}
use Rattle.jk_rows.proofs.Taken.{area_is}
use Rattle.jk_rows.proofs.Standing.{level_new}
use Rattle.jk_rows.proofs.level.RowLevel.new.Goals as goal

pub returns-clause-at : goal.returns-clause-at
returns-clause-at c =
    let s = c.args.source.now in
    let area = area_is s (c.args.q + 1) c.rect.result c.region.result c.resolution-area.result c.rect.ensures.value c.region.ensures.value c.resolution-area.ensures.value in
    let made = c.in_ok-new.ensures.first in
    level_new s c.args.q _ c.requires.source c.requires.q c.in_ok-new.ensures.standing (made.0 ∙ area) (made.1 ∙ ap (λ (a : Rect). a.y0) area) made.2 c.in_ok-chains.ensures.chains
