use Rattle.std.proofs.Common.{◌≤◌, ◌-◌, ◌*◌, Some, None, Option, IfSome, map, ◌∙◌, ap, sym, subst}
use Rattle.jk_math.specs.Raster.{places_of}
use Rattle.jk_math.specs.declared.rect.Rect.{Rect}
use Rattle.jk_marks.specs.declared.coding.Coding.{Coding}
use Rattle.jk_scan.specs.declared.shape.BlockShape.{BlockShape}
use Rattle.jk_walk.specs.TilePackets.{band_number, planes_of}
use Rattle.jk_tile.specs.decoding.Gathered.{body_of}
use Rattle.jk_tile.proofs.Places.{block_is_part}
use Rattle.jk_tile.proofs.Showing.{place_is, few_is, due_is}
use Rattle.jk_tile.proofs.decoding.strips.decoded_before.Goals as goal

pub shape_at-shape-requires-clause-left : goal.shape_at-shape-requires-clause-left
shape_at-shape-requires-clause-left c =
    let s = c.args.source.now in
    let p = c.args.block.part in
    let place = place_is s p.resolution p.precinct p.band c.args.block.number c.args.block.grid.now c.block-place.result c.requires.grid c.block-place.ensures in
    subst (λ (b : Rect). b.x0 ≤ b.x1) (sym place) (block_is_part s.region.rect s.coding p.resolution p.precinct p.band c.args.block.number (few_is s p.resolution p.precinct p.band c.args.block.number c.args.block.grid.now c.requires.grid c.requires.number)).across

pub shape_at-shape-requires-clause-upper : goal.shape_at-shape-requires-clause-upper
shape_at-shape-requires-clause-upper c =
    let s = c.args.source.now in
    let p = c.args.block.part in
    let place = place_is s p.resolution p.precinct p.band c.args.block.number c.args.block.grid.now c.block-place.result c.requires.grid c.block-place.ensures in
    subst (λ (b : Rect). b.y0 ≤ b.y1) (sym place) (block_is_part s.region.rect s.coding p.resolution p.precinct p.band c.args.block.number (few_is s p.resolution p.precinct p.band c.args.block.number c.args.block.grid.now c.requires.grid c.requires.number)).down

-- what holds of what was found, if something was
found_so : {A : Type 0} (P Q : A → Type 0) (r : Option A) → ((v : A) → P v → Q v) → IfSome r P → IfSome r Q
found_so P Q (Some v) step found = step v found
found_so P Q None step found = tt

pub returns-clause-exact : goal.returns-clause-exact
returns-clause-exact c =
    let s = c.args.source.now in
    let p = c.args.block.part in
    let place = place_is s p.resolution p.precinct p.band c.args.block.number c.args.block.grid.now c.block-place.result c.requires.grid c.block-place.ensures in
    let planes = c.band_planes-planes.ensures.value ∙ ap (λ (k : Coding). planes_of k (band_number p.resolution p.band)) c.coding-coding.ensures.value in
    let due = due_is s p.resolution p.precinct p.band c.args.block.number c.band_planes-planes.result c.block-place.result c.orientation-orientation.result c.coding-coding.result.now.style c.shape_at-shape.result
    (map (body_of s.bytes) c.args.bodies.now) place c.orientation-orientation.ensures (ap (λ (k : Coding). k.style) c.coding-coding.ensures.value) c.shape_at-shape.ensures planes c.requires.bodies in
    found_so _ _ c.find.result (λ v found. sym due ∙ found.exact) (c.find.ensures s.bytes c.decoded.ensures)

pub returns-clause-long : goal.returns-clause-long
returns-clause-long c =
    let s = c.args.source.now in
    let shape = c.shape_at-shape.ensures in
    let place = c.block-place.result in
    found_so _ _ c.find.result (λ v found. found.long ∙ ap (λ n. n * c.shape_at-shape.result.width) (ap (λ (x : BlockShape). x.height) shape)
    ∙ ap (λ n. (place.y1 - place.y0) * n) (ap (λ (x : BlockShape). x.width) shape) ∙ ap places_of c.block-place.ensures) (c.find.ensures s.bytes c.decoded.ensures)
