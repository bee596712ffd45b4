use Rattle.std.proofs.Common.{ap, subst, sym, ◌∙◌}
use Rattle.jk_math.specs.declared.rect.Rect.{Rect}
use Rattle.jk_marks.specs.declared.siz.Siz.{Siz}
use Rattle.jk_geom.specs.Rectangles.{tile_area}
use Rattle.jk_tile.specs.encoding.Strips.{IsFrame}
use Rattle.jk_code.proofs.ComingLaws.{component_framed}
use Rattle.jk_code.proofs.coming.component_at.Goals as goal

pub new-requires : goal.new-requires
new-requires c =
    let s = c.args.coming.now in
    subst (λ (a : Rect). IsFrame (record { rect = a; coding = s.coding.now; layers = s.parameters.now.layers })) (sym (c.tile-rect.ensures.value ∙ ap (λ (z : Siz). tile_area z c.args.number) c.siz_for.ensures.value)) (component_framed s c.args.number c.requires.coming c.requires.number)
