use Rattle.std.proofs.Common.{◌≡◌, ℕ, suc, ◌+◌, ◌<◌, replicate, max, sym, ap, subst, ◌∙◌, arith}
use Rattle.std.specs.Prelude.{slice_index}
use Rattle.std.proofs.lemmas.List.{get_or-replicate}
use Rattle.jk_marks.specs.declared.siz.Siz.{Siz}
use Rattle.jk_marks.specs.Siz.{tile_count}
use Rattle.jk_geom.specs.Rectangles.{tile_area}
use Rattle.jk_geom.proofs.Laws.{some_tile}
use Rattle.jk_params.specs.declared.picture_frame.PictureFrame.{PictureFrame}
use Rattle.jk_params.specs.Profile.{siz_of, siz_for}
use Rattle.jk_tile.specs.encoding.Forward.{tile_value}
use Rattle.jk_tile.specs.encoding.Needs.{most, tile_need}
use Rattle.jk_tile.specs.encoding.Strips.{ComponentFrame}
use Rattle.jk_tile.specs.encoding.FallenTiles.{fallen_in, band_need, IsCodedTile}
use Rattle.jk_tile.proofs.Laws.{need_is}
use Rattle.jk_code.proofs.ComingLaws.{coming_levels}
use Rattle.jk_code.proofs.NeedLaws.{need_of_tile}
use Rattle.jk_code.proofs.image_tiles.needs_of_image.Goals as goal

pub loop-number-init : goal.loop-number-init
loop-number-init c b lt =
    let s = c.args.coming.now in
    let q = s.parameters.now in
    let p = c.args.image.now in
    let x = c.args.first.now in
    let f = tile_value p q.colour in
    let source = c.component_at.ensures in
    let levels : c.component_at.result.coding.levels ≡ q.levels = ap (λ (g : ComponentFrame). g.coding.levels) source ∙ coming_levels s c.requires.coming in
    let here : IsCodedTile c.component_at.result f x = subst (λ (g : ComponentFrame). IsCodedTile g f x) (sym source) c.requires.coded in
    let few = c.requires.coming.written.levels in
    let zero : slice_index (replicate 16 0) b ≡ 0 = get_or-replicate 16 b 0 0 (omega (arith, lt, few)) in
    let siz : siz_of p q ≡ siz_for s.frame q = ap (λ (g : PictureFrame). siz_for g q) c.requires.frame in
    let need = need_of_tile p q 0 b (fallen_in x) c.component_at.result (ap (λ (g : ComponentFrame). g.rect) source ∙ ap (λ (w : Siz). tile_area w 0) (sym siz)) levels
    (c.requires.fallen.components ∙ sym (ap (λ (g : PictureFrame). g.components) c.requires.frame)) in
    c.raise.ensures.needs f here b (omega (arith, lt, levels)) ∙ ap (λ n. max n (most (λ k. band_need c.component_at.result (f k) b) (fallen_in x))) zero ∙ ap (max 0) need

pub loop-number-preserved : goal.loop-number-preserved
loop-number-preserved c b lt =
    let q = c.args.coming.now.parameters.now in
    let p = c.args.image.now in
    let t : ℕ = c.loop-number.number in
    let one : t + 1 ≡ suc t = omega arith in
    c.in_ok-raise_by_tile.ensures.needs b lt ∙ ap (λ n. max n (tile_need p q t b)) (c.loop-number.invariant b lt) ∙ ap (λ n. most (λ k. tile_need p q k b) n) (sym one)

pub returns-clause-needs : goal.returns-clause-needs
returns-clause-needs c b lt =
    let s = c.args.coming.now in
    let q = s.parameters.now in
    let p = c.args.image.now in
    let siz : siz_of p q ≡ siz_for s.frame q = ap (λ (g : PictureFrame). siz_for g q) c.requires.frame in
    let some = some_tile (siz_for s.frame q) c.requires.coming.written.siz in
    let count : c.tile_count-count.result ≡ tile_count (siz_for s.frame q) = c.tile_count-count.ensures ∙ ap (λ (z : Siz). tile_count z) c.siz_for.ensures.value in
    let last : c.loop-number.number ≡ tile_count (siz_for s.frame q) = omega (arith, count, some, c.loop-number-test.false, c.loop-number.auto.number, c.loop-number.auto.number-end) in
    c.loop-number.invariant b lt ∙ need_is p q b c.loop-number.number (last ∙ ap (λ (z : Siz). tile_count z) (sym siz))
