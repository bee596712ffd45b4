use Rattle.std.proofs.Common.{◌≡◌, ◌+◌, ◌<◌, ◌∙◌, ℕ, ap, sym, subst, arith}
use Rattle.jk_marks.specs.Siz.{tiles_across}
use Rattle.jk_code.specs.Rows.{IsTileRow, area_of_tile}
use Rattle.jk_code.specs.Sources.{ImageSource}
use Rattle.jk_code.proofs.TileRowing.{row_whole, beside}
use Rattle.jk_code.proofs.rows_with.first_blocks.Goals as goal

pub tile_row-requires-clause-whole : goal.tile_row-requires-clause-whole
tile_row-requires-clause-whole c =
    let s = c.args.coded.now in
    let across = c.tiles_across.ensures.value ∙ ap tiles_across c.siz.ensures ∙ ap (λ (x : ImageSource). tiles_across x.headers.siz) c.coded.view_is in
    let whole = row_whole s.headers.siz c.args.first c.requires.begins c.requires.few in
    omega (arith, whole, across)

pub tile_row-requires-clause-beside : goal.tile_row-requires-clause-beside
tile_row-requires-clause-beside c = λ k few.
    let s = c.args.coded.now in
    let across = c.tiles_across.ensures.value ∙ ap tiles_across c.siz.ensures ∙ ap (λ (x : ImageSource). tiles_across x.headers.siz) c.coded.view_is in
    (beside s.headers.siz s.reduce c.args.first k c.requires.begins (omega (arith, few, across))).0

pub stripe_blocks-requires-clause-row : goal.stripe_blocks-requires-clause-row
stripe_blocks-requires-clause-row c =
    let s = c.args.coded.now in
    let y : ℕ = (area_of_tile s c.args.first).y0 in
    let across = c.tiles_across.ensures.value ∙ ap tiles_across c.siz.ensures ∙ ap (λ (x : ImageSource). tiles_across x.headers.siz) c.coded.view_is in
    let row = c.in_ok-row.row in
    (y, subst (λ n. IsTileRow s n (tiles_across s.headers.siz) y row) (sym c.in_ok-row.ensures.row.begins) (subst (λ n. IsTileRow s c.args.first n y row) across c.in_ok-row.ensures.row))
