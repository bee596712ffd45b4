use Rattle.std.proofs.Common.{◌≡◌, ◌+◌, cond, refl, ◌∙◌, ap, sym}
use Rattle.jk_math.specs.Raster.{columns_of}
use Rattle.jk_wave.specs.Levels.{half_area}
use Rattle.jk_wave.specs.LevelRows.{part_rows}
use Rattle.jk_wave.proofs.BandPlaces.{start_is, rows_are}
use Rattle.jk_wave.proofs.places.part_rows.Goals.{then-across, else-across}
use Rattle.jk_wave.proofs.places.part_rows.Goals as goal

pub returns-clause-value : goal.returns-clause-value
returns-clause-value c =
    let a = c.args.area.now in
    let left : c.if-across.left ≡ cond c.args.across (columns_of (half_area a 0)) 0 = elim c.if-across.branch [
      | then-across w ↦ w.left-is ∙ w.low_width-left.ensures ∙ ap (λ t. cond t (columns_of (half_area a 0)) 0) (sym w.if-across.true)
      | else-across w ↦ w.left-is ∙ ap (λ t. cond t (columns_of (half_area a 0)) 0) (sym w.if-across.false)
    ] in
    rows_are _ (part_rows a (cond c.args.across 1 0 + cond c.args.down 2 0)) c.half_area-part.ensures.value
    (start_is a c.args.across c.args.down c.half_area-part.result c.if-across.left c.half_area-part.ensures.value left) refl
