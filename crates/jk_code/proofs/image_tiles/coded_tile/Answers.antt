use Rattle.std.proofs.Common.{◌≡◌, ℕ, length, refl, sym, ap, subst, ◌∙◌, arith}
use Rattle.jk_math.specs.declared.rect.Rect.{Rect}
use Rattle.jk_tile.specs.encoding.Forward.{tile_value}
use Rattle.jk_tile.specs.encoding.Strips.{ComponentFrame}
use Rattle.jk_tile.specs.encoding.FallingTiles.{HasRowsFor, HasTileSamples, AreTileSixteen}
use Rattle.jk_code.proofs.ComingLaws.{coming_sixteen}
use Rattle.jk_code.proofs.ImageTileLaws.{rows_of_image}
use Rattle.jk_code.proofs.image_tiles.coded_tile.Goals as goal

pub give-requires-clause-rows : goal.give-requires-clause-rows
give-requires-clause-rows c =
    let s = c.args.coming.now in
    let t = c.args.number in
    let x = c.loop-y.tile in
    let end : ℕ = c.step_end-end.result in
    let now = c.loop-y.invariant in
    let place = now.tile.next in
    let low = now.low in
    let source = c.component_at-source.ensures in
    let bottom = ap (λ (a : Rect). a.y1) (c.rect-rect.ensures.value ∙ ap (λ (g : ComponentFrame). g.rect) source) in
    let more = c.step_end-end.ensures.more in
    let to = c.step_end-end.ensures.to in
    subst (λ (g : ComponentFrame). HasRowsFor g x.y end c.args.image.now) (sym source)
    (rows_of_image s t x.y end c.args.image.now c.requires.frame (omega (arith, low, place)) (omega (arith, more, place)) (omega (arith, to, bottom)))

pub give-requires-clause-given : goal.give-requires-clause-given
give-requires-clause-given c =
    let s = c.args.coming.now in
    let p = c.args.image.now in
    let f = tile_value p s.parameters.now.colour in
    let source = sym c.component_at-source.ensures in (
      f,
      subst (λ (g : ComponentFrame). AreTileSixteen g (length p.planes) f) source (coming_sixteen s c.args.number (length p.planes) p c.requires.coming c.requires.picture c.requires.frame c.requires.number refl),
      subst (λ (g : ComponentFrame). HasTileSamples g f c.loop-y.tile) source c.loop-y.invariant.rows,
      λ k x z lt within. refl,
    )
