use Rattle.std.proofs.Common.{◌≡◌, ◌≤◌, ◌-◌, ◌*◌, Ok, Err, Result, IfOk, List, ℤ, length, map, ◌∙◌, ap, sym, subst}
use Rattle.jk_math.specs.Answer.{Answers}
use Rattle.jk_math.specs.Raster.{places_of}
use Rattle.jk_math.specs.declared.rect.Rect.{Rect}
use Rattle.jk_marks.specs.declared.coding.Coding.{Coding}
use Rattle.jk_scan.specs.declared.shape.BlockShape.{BlockShape}
use Rattle.jk_walk.specs.TilePackets.{band_number, planes_of}
use Rattle.jk_tile.specs.decoding.Gathered.{body_of}
use Rattle.jk_tile.proofs.Places.{block_is_part}
use Rattle.jk_tile.proofs.Showing.{place_is, few_is, shape_is, due_is}
use Rattle.jk_tile.proofs.decoding.strips.read_band_block.Goals as goal

pub shape_at-shape-requires-clause-left : goal.shape_at-shape-requires-clause-left
shape_at-shape-requires-clause-left c =
    let s = c.args.source.now in
    let p = c.args.block.part in
    let place = place_is s p.resolution p.precinct p.band c.args.block.number c.args.block.grid.now c.block-place.result c.requires.grid c.block-place.ensures in
    subst (λ (b : Rect). b.x0 ≤ b.x1) (sym place) (block_is_part s.region.rect s.coding p.resolution p.precinct p.band c.args.block.number (few_is s p.resolution p.precinct p.band c.args.block.number c.args.block.grid.now c.requires.grid c.requires.number)).across

pub shape_at-shape-requires-clause-upper : goal.shape_at-shape-requires-clause-upper
shape_at-shape-requires-clause-upper c =
    let s = c.args.source.now in
    let p = c.args.block.part in
    let place = place_is s p.resolution p.precinct p.band c.args.block.number c.args.block.grid.now c.block-place.result c.requires.grid c.block-place.ensures in
    subst (λ (b : Rect). b.y0 ≤ b.y1) (sym place) (block_is_part s.region.rect s.coding p.resolution p.precinct p.band c.args.block.number (few_is s p.resolution p.precinct p.band c.args.block.number c.args.block.grid.now c.requires.grid c.requires.number)).down

pub read_block-requires-clause-shape : goal.read_block-requires-clause-shape
read_block-requires-clause-shape c =
    let s = c.args.source.now in
    let p = c.args.block.part in
    let place = place_is s p.resolution p.precinct p.band c.args.block.number c.args.block.grid.now c.block-place.result c.requires.grid c.block-place.ensures in
    shape_is s p.resolution p.precinct p.band c.args.block.number c.block-place.result c.orientation-orientation.result c.coding-coding.result.now.style c.shape_at-shape.result c.coding-coding.ensures.source place c.orientation-orientation.ensures (ap (λ (k : Coding). k.style) c.coding-coding.ensures.value)
    c.shape_at-shape.ensures (few_is s p.resolution p.precinct p.band c.args.block.number c.args.block.grid.now c.requires.grid c.requires.number)

pub returns-clause-exact : goal.returns-clause-exact
returns-clause-exact c =
    let s = c.args.source.now in
    let p = c.args.block.part in
    let place = place_is s p.resolution p.precinct p.band c.args.block.number c.args.block.grid.now c.block-place.result c.requires.grid c.block-place.ensures in
    let bodies = ap (λ bs. map (body_of bs) c.args.bodies.now) c.bytes.ensures ∙ c.requires.bodies in
    let planes = c.band_planes-planes.ensures.value ∙ ap (λ (k : Coding). planes_of k (band_number p.resolution p.band)) c.coding-coding.ensures.value in
    let due = due_is s p.resolution p.precinct p.band c.args.block.number c.band_planes-planes.result c.block-place.result c.orientation-orientation.result c.coding-coding.result.now.style c.shape_at-shape.result
    (map (body_of c.bytes.result.now) c.args.bodies.now) place c.orientation-orientation.ensures (ap (λ (k : Coding). k.style) c.coding-coding.ensures.value) c.shape_at-shape.ensures planes bodies in
    subst (Answers (λ b. b.values.items) c.read_block.result) due c.read_block.ensures.exact

-- as long as the shape has places
long_is : {X E : Type 0} (items : X → List ℤ) (r : Result X E) (shape : BlockShape) (place other : Rect) → shape.width ≡ place.x1 - place.x0 → shape.height ≡ place.y1 - place.y0 → place ≡ other
    → IfOk r (λ b. length (items b) ≡ shape.height * shape.width) → IfOk r (λ b. length (items b) ≡ places_of other)
long_is items (Ok b) shape place other w h same e = e ∙ ap (λ n. n * shape.width) h ∙ ap (λ n. (place.y1 - place.y0) * n) w ∙ ap places_of same
long_is items (Err e) shape place other w h same x = tt

pub returns-clause-long : goal.returns-clause-long
returns-clause-long c =
    let shape = c.shape_at-shape.ensures in
    long_is (λ b. b.values.items) c.read_block.result c.shape_at-shape.result c.block-place.result _ (ap (λ (x : BlockShape). x.width) shape) (ap (λ (x : BlockShape). x.height) shape) c.block-place.ensures c.read_block.ensures.long
