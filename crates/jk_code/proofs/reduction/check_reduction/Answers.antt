use Rattle.std.proofs.Common.{◌≡◌, sym, ap, subst, ◌∙◌, arith}
use Rattle.jk_marks.specs.declared.siz.Siz.{Siz}
use Rattle.jk_marks.specs.Siz.{tile_count}
use Rattle.jk_geom.specs.Rectangles.{is_empty}
use Rattle.jk_geom.specs.Partitions.{image_area, reduced_area}
use Rattle.jk_code.proofs.HeaderFacts.{reduced_frame, sides_of}
use Rattle.jk_window.proofs.Laws.{few_levels, levels_found}
use Rattle.jk_code.proofs.Planes.{HasFrame}
use Rattle.jk_code.proofs.reduction.check_reduction.Goals as goal

pub overflow_cast-reduce : goal.overflow_cast-reduce
overflow_cast-reduce c = let few = few_levels c.requires.0 c.args.reduce c.args.headers.now c.requires.1 (sym c.if-not-has_levels.ensures) in omega (arith, few)

pub reduced_image-area-requires-clause-levels : goal.reduced_image-area-requires-clause-levels
reduced_image-area-requires-clause-levels c = few_levels c.requires.0 c.args.reduce c.args.headers.now c.requires.1 (sym c.if-not-has_levels.ensures)

pub returns-clause-frame : goal.returns-clause-frame
returns-clause-frame c =
    let s = c.args.headers.now.siz in
    let a = reduced_area (image_area s) c.args.reduce in
    let is : c.reduced_image-area.result ≡ a = c.reduced_image-area.ensures.value ∙ ap (λ (z : Siz). reduced_area (image_area z) c.args.reduce) c.siz.ensures in
    let sides = sides_of a (ap is_empty (sym is) ∙ sym c.is_empty.ensures ∙ c.if-is_empty.false) in
    subst HasFrame (sym is) (reduced_frame s c.args.reduce c.requires.1.siz sides.0 sides.1)

pub returns-clause-levels : goal.returns-clause-levels
returns-clause-levels c = levels_found c.args.reduce (tile_count c.args.headers.now.siz) c.args.headers.now.tiles c.requires.1.tiles (sym c.if-not-has_levels.ensures)

pub returns-clause-few : goal.returns-clause-few
returns-clause-few c = few_levels c.requires.0 c.args.reduce c.args.headers.now c.requires.1 (sym c.if-not-has_levels.ensures)
