use Rattle.std.proofs.Common.{◌≡◌, ℕ, suc, ◌+◌, ◌<◌, length, max, refl, sym, ap, subst, ◌∙◌, arith}
use Rattle.std.specs.Prelude.{slice_index}
use Rattle.jk_marks.specs.declared.siz.Siz.{Siz}
use Rattle.jk_geom.specs.Rectangles.{tile_area}
use Rattle.jk_params.specs.declared.picture_frame.PictureFrame.{PictureFrame}
use Rattle.jk_params.specs.Profile.{siz_of, siz_for}
use Rattle.jk_tile.specs.Filling.{IsPartOf}
use Rattle.jk_tile.specs.encoding.Forward.{picture_area, tile_value}
use Rattle.jk_tile.specs.encoding.Needs.{most}
use Rattle.jk_tile.specs.encoding.Strips.{ComponentFrame}
use Rattle.jk_tile.specs.encoding.FallingComponents.{AreSixteen}
use Rattle.jk_tile.specs.encoding.FallenTiles.{band_need}
use Rattle.jk_code.specs.ComingRows.{component_of}
use Rattle.jk_code.proofs.ComingLaws.{coming_sixteen, coming_levels}
use Rattle.jk_code.proofs.NeedLaws.{need_of_tile}
use Rattle.jk_code.proofs.ImageTileLaws.{part_of_image}
use Rattle.jk_code.proofs.image_tiles.raise_by_tile.Goals as goal

pub raise_needs-requires-clause-inside : goal.raise_needs-requires-clause-inside
raise_needs-requires-clause-inside c =
    let p = c.args.image.now in
    subst (λ (g : ComponentFrame). IsPartOf g.rect (picture_area p)) (sym c.component_at-source.ensures)
    (part_of_image c.args.coming.now c.args.number p c.requires.coming c.requires.frame c.requires.number)

pub raise_needs-requires-clause-sixteen : goal.raise_needs-requires-clause-sixteen
raise_needs-requires-clause-sixteen c =
    let s = c.args.coming.now in
    let p = c.args.image.now in
    let k : ℕ = c.loop-c.c in
    let many : length p.planes ≡ s.frame.components = ap (λ (f : PictureFrame). f.components) c.requires.frame in
    subst (λ (g : ComponentFrame). AreSixteen g (tile_value p s.parameters.now.colour k)) (sym c.component_at-source.ensures)
    (coming_sixteen s c.args.number (length p.planes) p c.requires.coming c.requires.picture c.requires.frame c.requires.number refl k (omega (arith, c.loop-c-test.true, many)))

pub loop-c-preserved : goal.loop-c-preserved
loop-c-preserved c b lt =
    let s = c.args.coming.now in
    let q = s.parameters.now in
    let k : ℕ = c.loop-c.c in
    let f = tile_value c.args.image.now q.colour in
    let source = c.component_at-source.ensures in
    let levels = ap (λ (g : ComponentFrame). g.coding.levels) source ∙ coming_levels s c.requires.coming in
    let need : ℕ → ℕ = λ i. band_need (component_of s c.args.number) (f i) b in
    let old : ℕ = slice_index c.args.needs.now b in
    let now : ℕ = slice_index c.loop-c.needs b in
    let joined : max (max old (most need k)) (need k) ≡ max old (max (most need k) (need k)) = omega arith in
    let one : k + 1 ≡ suc k = omega arith in
    c.in_ok-raise_needs.ensures.needs b (omega (arith, lt, levels)) ∙ ap (λ (g : ComponentFrame). max now (band_need g (f k) b)) source ∙ ap (λ n. max n (need k)) (c.loop-c.invariant b lt) ∙ joined ∙ ap (λ n. max old (most need n)) (sym one)

pub returns-clause-needs : goal.returns-clause-needs
returns-clause-needs c b lt =
    let s = c.args.coming.now in
    let q = s.parameters.now in
    let p = c.args.image.now in
    let t = c.args.number in
    let many : length p.planes ≡ s.frame.components = ap (λ (f : PictureFrame). f.components) c.requires.frame in
    let siz : siz_of p q ≡ siz_for s.frame q = ap (λ (f : PictureFrame). siz_for f q) c.requires.frame in
    c.loop-c.invariant b lt
    ∙ ap (max (slice_index c.args.needs.now b)) (need_of_tile p q t b c.loop-c.c (component_of s t) (ap (λ (z : Siz). tile_area z t) (sym siz)) (coming_levels s c.requires.coming) (omega (arith, many, c.loop-c-test.false, c.loop-c.auto.c-end)))
