use Rattle.std.proofs.Common.{◌≡◌, ◌+◌, ◌%◌, ◌∙◌, ap, sym, subst, arith}
use Rattle.jk_marks.specs.Siz.{tiles_across}
use Rattle.jk_code.specs.Sources.{ImageSource, IsImageSource}
use Rattle.jk_code.proofs.TileRowing.{next_shown}
use Rattle.jk_code.proofs.WalkLaws.{count_is}
use Rattle.jk_code.proofs.rows_with.blocks_behind.Goals as goal

pub first_blocks-requires-clause-begins : goal.first_blocks-requires-clause-begins
first_blocks-requires-clause-begins c =
    let s = c.args.coded.now in
    let first = c.args.walk.now.row.first in
    let is = subst IsImageSource c.coded.view_is c.coded.invariant in
    let across = c.tiles_across.ensures.value ∙ ap tiles_across c.siz.ensures ∙ ap (λ (x : ImageSource). tiles_across x.headers.siz) c.coded.view_is in
    subst (λ n. (first + n) % tiles_across s.headers.siz ≡ 0) (sym across) (next_shown s.headers.siz s.reduce first is.sound.siz c.requires.walk.begins c.requires.some).0

pub first_blocks-requires-clause-few : goal.first_blocks-requires-clause-few
first_blocks-requires-clause-few c =
    let s = c.args.coded.now in
    let count = count_is _ s c.tile_count.result c.coded.view_is c.coded.invariant c.tile_count.ensures in
    omega (arith, count, c.if-first-tile_count.false)
