use Rattle.std.proofs.Common.{◌≡◌, ◌<◌, ◌+◌, length, ap, sym, subst, ◌∙◌, arith}
use Rattle.jk_math.specs.declared.rect.Rect.{Rect}
use Rattle.jk_marks.specs.declared.siz.Siz.{Siz}
use Rattle.jk_marks.specs.Siz.{tile_count, tiles_across}
use Rattle.jk_geom.specs.Rectangles.{tile_area}
use Rattle.jk_params.specs.Profile.{siz_for}
use Rattle.jk_code.specs.ComingRows.{area_of_coming, AreFalling}
use Rattle.jk_code.proofs.TileRowing.{row_whole}
use Rattle.jk_code.proofs.ComingLaws.{beside_first}
use Rattle.jk_code.proofs.ComingWalkLaws.{row_begun}
use Rattle.jk_code.proofs.coming_walk.walk_from.Goals as goal

pub first_of_tiles-requires-clause-whole : goal.first_of_tiles-requires-clause-whole
first_of_tiles-requires-clause-whole c =
    let s = c.args.coming.now in
    let siz = c.siz_for-siz.ensures.value in
    let across = c.tiles_across.ensures.value ∙ ap (λ (x : Siz). tiles_across x) siz in
    let count = c.tile_count.ensures ∙ ap (λ (x : Siz). tile_count x) siz in
    let first : c.len-first.result ≡ length c.args.fallen.items = omega (arith, c.len-first.ensures) in
    let whole = row_whole (siz_for s.frame s.parameters.now) (length c.args.fallen.items) c.requires.between.begins (omega (arith, c.if-first-tile_count.false, first, count)) in
    omega (arith, whole, first, across)

pub first_of_tiles-requires-clause-beside : goal.first_of_tiles-requires-clause-beside
first_of_tiles-requires-clause-beside c k lt =
    let s = c.args.coming.now in
    let across = c.tiles_across.ensures.value ∙ ap (λ (x : Siz). tiles_across x) c.siz_for-siz.ensures.value in
    let first : c.len-first.result ≡ length c.args.fallen.items = omega (arith, c.len-first.ensures) in
    subst (λ t. (area_of_coming s (t + k)).y0 ≡ (area_of_coming s t).y0) (sym first) (beside_first s (length c.args.fallen.items) c.args.y k c.requires.between (omega (arith, lt, across))).0

pub returns-clause-walk : goal.returns-clause-walk
returns-clause-walk c =
    let s = c.args.coming.now in
    let siz = c.siz_for-siz.ensures.value in
    let across = c.tiles_across.ensures.value ∙ ap (λ (x : Siz). tiles_across x) siz in
    let count = c.tile_count.ensures ∙ ap (λ (x : Siz). tile_count x) siz in
    let n = length c.args.fallen.items in
    let first : c.len-first.result ≡ n = omega (arith, c.len-first.ensures) in
    let area : c.tile-area.result ≡ area_of_coming s n = c.tile-area.ensures.value ∙ ap (λ (x : Siz). tile_area x c.len-first.result) siz ∙ ap (λ t. area_of_coming s t) first in
    row_begun s _ c.requires.coming c.requires.step c.requires.fallen c.requires.between (omega (arith, c.if-first-tile_count.false, first, count)) (c.in_ok-tiles.ensures.count ∙ across)
    (subst (λ t. AreFalling s t (area_of_coming s t).y0 c.in_ok-tiles.tiles.items) first c.in_ok-tiles.ensures.tiles) (ap (λ (a : Rect). a.y1) area) (subst (λ (a : Rect). a.y0 < a.y1) area c.tile-area.ensures.some.1)
