use Rattle.std.proofs.Common.{ap, sym, subst, ◌∙◌}
use Rattle.jk_math.specs.declared.rect.Rect.{Rect}
use Rattle.jk_marks.specs.declared.siz.Siz.{Siz}
use Rattle.jk_geom.specs.Rectangles.{IsArea, tile_area}
use Rattle.jk_tile.specs.Filling.{IsPartOf}
use Rattle.jk_window.specs.Views.{frame_of}
use Rattle.jk_code.proofs.Placing.{part_is, tile_part}
use Rattle.jk_code.proofs.viewing.shown.Goals as goal

pub returns-clause-part : goal.returns-clause-part
returns-clause-part c =
    let h = c.args.headers.now in
    let t = c.args.number in
    let part = part_is h t c.args.reduce c.siz.result.now c.tile.result c.reduced.result c.siz.ensures c.tile.ensures.value c.reduced.ensures.value in
    let is : IsArea (tile_area h.siz t) = subst IsArea (c.tile.ensures.value ∙ ap (λ (s : Siz). tile_area s t) c.siz.ensures) c.tile.ensures.area in
    subst (λ (b : Rect). IsPartOf b (frame_of h c.args.reduce)) (sym part) (tile_part h t c.args.reduce is)
