use Rattle.std.proofs.Common.{◌∙◌, ap, arith}
use Rattle.jk_marks.specs.Siz.{tiles_across}
use Rattle.jk_code.specs.Sources.{ImageSource}
use Rattle.jk_code.proofs.TileRowing.{row_whole, beside}
use Rattle.jk_code.proofs.WalkLaws.{count_is}
use Rattle.jk_code.proofs.row_walk.walk_from.Goals as goal

pub tile_row-requires-clause-whole : goal.tile_row-requires-clause-whole
tile_row-requires-clause-whole c =
    let s = c.args.coded.now in
    let count = count_is _ s c.tile_count.result c.coded.view_is c.coded.invariant c.tile_count.ensures in
    let across = c.tiles_across-across.ensures.value ∙ ap tiles_across c.siz.ensures ∙ ap (λ (x : ImageSource). tiles_across x.headers.siz) c.coded.view_is in
    let whole = row_whole s.headers.siz c.args.first c.requires.begins (omega (arith, count, c.if-first-tile_count.false)) in
    omega (arith, whole, across)

pub tile_row-requires-clause-beside : goal.tile_row-requires-clause-beside
tile_row-requires-clause-beside c = λ k few.
    let s = c.args.coded.now in
    let across = c.tiles_across-across.ensures.value ∙ ap tiles_across c.siz.ensures ∙ ap (λ (x : ImageSource). tiles_across x.headers.siz) c.coded.view_is in
    (beside s.headers.siz s.reduce c.args.first k c.requires.begins (omega (arith, few, across))).0
