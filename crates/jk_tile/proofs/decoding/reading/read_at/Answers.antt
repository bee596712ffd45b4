use Rattle.std.proofs.Common.{◌≤◌, ◌≡◌, ℕ, Bool, true, false, if◌then◌else◌, Ok, map, length, ◌∙◌, ap, sym, subst}
use Rattle.jk_math.specs.declared.rect.Rect.{Rect}
use Rattle.jk_marks.specs.declared.coding.Coding.{Coding}
use Rattle.jk_walk.specs.TilePackets.{band_number, planes_of}
use Rattle.jk_geom.specs.Rectangles.{IsWithin}
use Rattle.jk_wave.specs.declared.region.Region.{Region}
use Rattle.jk_tile.specs.decoding.Gathered.{body_of}
use Rattle.jk_tile.specs.decoding.Source.{Source, source_bodies, source_part, source_rows}
use Rattle.jk_wave.specs.declared.places.BandRows.{BandRows}
use Rattle.jk_wave.specs.LevelRows.{FitsIn}
use Rattle.jk_wave.specs.RegionRows.{band_rows}
use Rattle.jk_wave.proofs.Laws.{has_rows}
use Rattle.jk_math.specs.Raster.{columns_of}
use Rattle.jk_tile.proofs.decoding.Filled.{IsPutInto, StaysOff, put_fills, put_at_place, fills_same, part_lies}
use Rattle.jk_tile.specs.Filling.{touches}
use Rattle.jk_tile.specs.TileBlocks.{block_at_place}
use Rattle.jk_tile.specs.decoding.TileReading.{is_met, tested, block_values}
use Rattle.jk_tile.proofs.Fillings.{touches_at}
use Rattle.jk_tile.proofs.Places.{block_is_part}
use Rattle.jk_tile.proofs.Showing.{place_is, few_is, shape_is, due_is, values_agree, few_levels}
use Rattle.jk_tile.proofs.decoding.reading.read_at.Goals as goal

pub shape_at-shape-requires-clause-left : goal.shape_at-shape-requires-clause-left
shape_at-shape-requires-clause-left c =
    let s = c.args.source.now in
    let p = c.args.block.part in
    let place = place_is s p.resolution p.precinct p.band c.args.block.number c.args.block.grid.now c.block-place.result c.requires.grid c.block-place.ensures in
    subst (λ (b : Rect). b.x0 ≤ b.x1) (sym place) (block_is_part s.region.rect s.coding p.resolution p.precinct p.band c.args.block.number (few_is s p.resolution p.precinct p.band c.args.block.number c.args.block.grid.now c.requires.grid c.requires.number)).across

pub shape_at-shape-requires-clause-upper : goal.shape_at-shape-requires-clause-upper
shape_at-shape-requires-clause-upper c =
    let s = c.args.source.now in
    let p = c.args.block.part in
    let place = place_is s p.resolution p.precinct p.band c.args.block.number c.args.block.grid.now c.block-place.result c.requires.grid c.block-place.ensures in
    subst (λ (b : Rect). b.y0 ≤ b.y1) (sym place) (block_is_part s.region.rect s.coding p.resolution p.precinct p.band c.args.block.number (few_is s p.resolution p.precinct p.band c.args.block.number c.args.block.grid.now c.requires.grid c.requires.number)).down

pub read_block-requires-clause-shape : goal.read_block-requires-clause-shape
read_block-requires-clause-shape c =
    let s = c.args.source.now in
    let p = c.args.block.part in
    let place = place_is s p.resolution p.precinct p.band c.args.block.number c.args.block.grid.now c.block-place.result c.requires.grid c.block-place.ensures in
    shape_is s p.resolution p.precinct p.band c.args.block.number c.block-place.result c.orientation-orientation.result c.coding-coding.result.now.style c.shape_at-shape.result c.coding-coding.ensures.source place c.orientation-orientation.ensures (ap (λ (k : Coding). k.style) c.coding-coding.ensures.value)
    c.shape_at-shape.ensures (few_is s p.resolution p.precinct p.band c.args.block.number c.args.block.grid.now c.requires.grid c.requires.number)

-- where the part lies
lies_is : (s : Source) (r i : ℕ) (lies : BandRows) (region : Region) (number : ℕ) → lies ≡ band_rows region number → region ≡ s.region → number ≡ band_number r i → lies ≡ source_rows s r i
lies_is s r i lies region number el er en = el ∙ ap (λ (q : Region). band_rows q number) er ∙ ap (band_rows s.region) en

pub put_common-requires-clause-apart : goal.put_common-requires-clause-apart
put_common-requires-clause-apart c =
    let s = c.args.source.now in
    let p = c.args.block.part in
    let lies = lies_is s p.resolution p.band c.band_rows-lies.result c.region.result c.band_number.result c.band_rows-lies.ensures.value c.region.ensures.value c.band_number.ensures in
    subst (λ (v : BandRows). columns_of v.area ≤ v.step) (sym lies) (has_rows s.region (band_number p.resolution p.band)).0

pub put_common-requires-clause-fits : goal.put_common-requires-clause-fits
put_common-requires-clause-fits c =
    let s = c.args.source.now in
    let p = c.args.block.part in
    let lies = lies_is s p.resolution p.band c.band_rows-lies.result c.region.result c.band_number.result c.band_rows-lies.ensures.value c.region.ensures.value c.band_number.ensures in
    subst (λ (v : BandRows). FitsIn v (length c.args.rows.now)) (sym lies) (part_lies s p.resolution p.band c.args.rows.now c.requires.part.band c.requires.filling.level)

pub put_common-requires-2-clause-apart : goal.put_common-requires-2-clause-apart
put_common-requires-2-clause-apart c =
    let s = c.args.source.now in
    let p = c.args.block.part in
    let lies = lies_is s p.resolution p.band c.band_rows-lies.result c.region.result c.band_number.result c.band_rows-lies.ensures.value c.region.ensures.value c.band_number.ensures in
    subst (λ (v : BandRows). columns_of v.area ≤ v.step) (sym lies) (has_rows s.region (band_number p.resolution p.band)).0

pub put_common-requires-2-clause-fits : goal.put_common-requires-2-clause-fits
put_common-requires-2-clause-fits c =
    let s = c.args.source.now in
    let p = c.args.block.part in
    let lies = lies_is s p.resolution p.band c.band_rows-lies.result c.region.result c.band_number.result c.band_rows-lies.ensures.value c.region.ensures.value c.band_number.ensures in
    subst (λ (v : BandRows). FitsIn v (length c.args.rows.now)) (sym lies) (part_lies s p.resolution p.band c.args.rows.now c.requires.part.band c.requires.filling.level)

pub returns-clause-fills : goal.returns-clause-fills
returns-clause-fills c =
    let s = c.args.source.now in
    let p = c.args.block.part in
    let place = place_is s p.resolution p.precinct p.band c.args.block.number c.args.block.grid.now c.block-place.result c.requires.grid c.block-place.ensures in
    let lies = lies_is s p.resolution p.band c.band_rows-lies.result c.region.result c.band_number.result c.band_rows-lies.ensures.value c.region.ensures.value c.band_number.ensures in
    let lt = few_is s p.resolution p.precinct p.band c.args.block.number c.args.block.grid.now c.requires.grid c.requires.number in
    let bodies = ap (λ bs. map (body_of bs) c.args.bodies.now) c.bytes.ensures ∙ c.requires.bodies in
    let planes = c.band_planes-planes.ensures.value ∙ ap (λ (k : Coding). planes_of k (band_number p.resolution p.band)) c.coding-coding.ensures.value in
    let due = due_is s p.resolution p.precinct p.band c.args.block.number c.band_planes-planes.result c.block-place.result c.orientation-orientation.result c.coding-coding.result.now.style c.shape_at-shape.result
    (map (body_of c.bytes.result.now) c.args.bodies.now) place c.orientation-orientation.ensures (ap (λ (k : Coding). k.style) c.coding-coding.ensures.value) c.shape_at-shape.ensures planes bodies in
    let agrees = values_agree s p.resolution p.precinct p.band c.args.block.number c.block-place.result c.in_ok-read.read.values.items c.coding-coding.ensures.source
    (few_levels s p.resolution c.coding-coding.ensures.source c.requires.part.resolution) c.requires.part.precinct c.requires.part.band lt place (sym due ∙ c.in_ok-read.ensures.exact) in
    let put = subst (λ (v : BandRows). IsPutInto v c.block-place.result c.args.rows.now c.put_common-2.new.rows c.in_ok-read.read.values.items) lies
    (subst (λ vs. IsPutInto c.band_rows-lies.result c.block-place.result c.args.rows.now c.put_common-2.new.rows vs) c.deref.ensures.value c.put_common-2.ensures.value) in
    put_fills s p.resolution p.band c.block-place.result c.in_ok-read.read.values.items c.args.rows.now c.put_common-2.new.rows c.requires.filling (record {
      band = c.requires.part.band;
      long = c.put_common-2.ensures.long;
      put = put;
      stays = subst (λ (v : BandRows). StaysOff v c.args.rows.now c.put_common-2.new.rows) lies c.put_common-2.ensures.others;
      agrees = agrees;
      small = c.in_ok-read.ensures.small;
    })

pub returns-clause-shows : goal.returns-clause-shows
returns-clause-shows c = λ x y h inside.
    let s = c.args.source.now in
    let p = c.args.block.part in
    let place = place_is s p.resolution p.precinct p.band c.args.block.number c.args.block.grid.now c.block-place.result c.requires.grid c.block-place.ensures in
    let lies = lies_is s p.resolution p.band c.band_rows-lies.result c.region.result c.band_number.result c.band_rows-lies.ensures.value c.region.ensures.value c.band_number.ensures in
    let lt = few_is s p.resolution p.precinct p.band c.args.block.number c.args.block.grid.now c.requires.grid c.requires.number in
    let bodies = ap (λ bs. map (body_of bs) c.args.bodies.now) c.bytes.ensures ∙ c.requires.bodies in
    let planes = c.band_planes-planes.ensures.value ∙ ap (λ (k : Coding). planes_of k (band_number p.resolution p.band)) c.coding-coding.ensures.value in
    let due = due_is s p.resolution p.precinct p.band c.args.block.number c.band_planes-planes.result c.block-place.result c.orientation-orientation.result c.coding-coding.result.now.style c.shape_at-shape.result
    (map (body_of c.bytes.result.now) c.args.bodies.now) place c.orientation-orientation.ensures (ap (λ (k : Coding). k.style) c.coding-coding.ensures.value) c.shape_at-shape.ensures planes bodies in
    let agrees = values_agree s p.resolution p.precinct p.band c.args.block.number c.block-place.result c.in_ok-read.read.values.items c.coding-coding.ensures.source
    (few_levels s p.resolution c.coding-coding.ensures.source c.requires.part.resolution) c.requires.part.precinct c.requires.part.band lt place (sym due ∙ c.in_ok-read.ensures.exact) in
    let put = subst (λ (v : BandRows). IsPutInto v c.block-place.result c.args.rows.now c.put_common-2.new.rows c.in_ok-read.read.values.items) lies
    (subst (λ vs. IsPutInto c.band_rows-lies.result c.block-place.result c.args.rows.now c.put_common-2.new.rows vs) c.deref.ensures.value c.put_common-2.ensures.value) in
    let here : IsWithin c.block-place.result x y = subst (λ (b : Rect). IsWithin b x y) (sym place) h in
    put_at_place s p.resolution p.band x y c.block-place.result c.in_ok-read.read.values.items c.args.rows.now c.put_common-2.new.rows put agrees here inside

pub returns-in-Some-clause-fills : goal.returns-in-Some-clause-fills
returns-in-Some-clause-fills c =
    let s = c.args.source.now in
    let p = c.args.block.part in
    let place = place_is s p.resolution p.precinct p.band c.args.block.number c.args.block.grid.now c.block-place.result c.requires.grid c.block-place.ensures in
    let lies = lies_is s p.resolution p.band c.band_rows-lies.result c.region.result c.band_number.result c.band_rows-lies.ensures.value c.region.ensures.value c.band_number.ensures in
    let lt = few_is s p.resolution p.precinct p.band c.args.block.number c.args.block.grid.now c.requires.grid c.requires.number in
    let planes = c.band_planes-planes.ensures.value ∙ ap (λ (k : Coding). planes_of k (band_number p.resolution p.band)) c.coding-coding.ensures.value in
    let due = due_is s p.resolution p.precinct p.band c.args.block.number c.band_planes-planes.result c.block-place.result c.orientation-orientation.result c.coding-coding.result.now.style c.shape_at-shape.result
    (map (body_of s.bytes) c.args.bodies.now) place c.orientation-orientation.ensures (ap (λ (k : Coding). k.style) c.coding-coding.ensures.value) c.shape_at-shape.ensures planes c.requires.bodies in
    let found = c.in-Some.ensures s.bytes c.decoded.ensures in
    let agrees = values_agree s p.resolution p.precinct p.band c.args.block.number c.block-place.result c.in-Some.values.now c.coding-coding.ensures.source
    (few_levels s p.resolution c.coding-coding.ensures.source c.requires.part.resolution) c.requires.part.precinct c.requires.part.band lt place (sym due ∙ found.exact) in
    let put = subst (λ (v : BandRows). IsPutInto v c.block-place.result c.args.rows.now c.put_common.new.rows c.in-Some.values.now) lies
    c.put_common.ensures.value in
    put_fills s p.resolution p.band c.block-place.result c.in-Some.values.now c.args.rows.now c.put_common.new.rows c.requires.filling (record {
      band = c.requires.part.band;
      long = c.put_common.ensures.long;
      put = put;
      stays = subst (λ (v : BandRows). StaysOff v c.args.rows.now c.put_common.new.rows) lies c.put_common.ensures.others;
      agrees = agrees;
      small = found.small;
    })

pub returns-in-Some-clause-shows : goal.returns-in-Some-clause-shows
returns-in-Some-clause-shows c = λ x y h inside.
    let s = c.args.source.now in
    let p = c.args.block.part in
    let place = place_is s p.resolution p.precinct p.band c.args.block.number c.args.block.grid.now c.block-place.result c.requires.grid c.block-place.ensures in
    let lies = lies_is s p.resolution p.band c.band_rows-lies.result c.region.result c.band_number.result c.band_rows-lies.ensures.value c.region.ensures.value c.band_number.ensures in
    let lt = few_is s p.resolution p.precinct p.band c.args.block.number c.args.block.grid.now c.requires.grid c.requires.number in
    let planes = c.band_planes-planes.ensures.value ∙ ap (λ (k : Coding). planes_of k (band_number p.resolution p.band)) c.coding-coding.ensures.value in
    let due = due_is s p.resolution p.precinct p.band c.args.block.number c.band_planes-planes.result c.block-place.result c.orientation-orientation.result c.coding-coding.result.now.style c.shape_at-shape.result
    (map (body_of s.bytes) c.args.bodies.now) place c.orientation-orientation.ensures (ap (λ (k : Coding). k.style) c.coding-coding.ensures.value) c.shape_at-shape.ensures planes c.requires.bodies in
    let found = c.in-Some.ensures s.bytes c.decoded.ensures in
    let agrees = values_agree s p.resolution p.precinct p.band c.args.block.number c.block-place.result c.in-Some.values.now c.coding-coding.ensures.source
    (few_levels s p.resolution c.coding-coding.ensures.source c.requires.part.resolution) c.requires.part.precinct c.requires.part.band lt place (sym due ∙ found.exact) in
    let put = subst (λ (v : BandRows). IsPutInto v c.block-place.result c.args.rows.now c.put_common.new.rows c.in-Some.values.now) lies
    c.put_common.ensures.value in
    let here : IsWithin c.block-place.result x y = subst (λ (b : Rect). IsWithin b x y) (sym place) h in
    put_at_place s p.resolution p.band x y c.block-place.result c.in-Some.values.now c.args.rows.now c.put_common.new.rows put agrees here inside

pub returns-then-not-touches-clause-fills : goal.returns-then-not-touches-clause-fills
returns-then-not-touches-clause-fills c = fills_same c.args.source.now c.args.block.part.resolution c.args.rows.now c.requires.filling

-- a code-block that doesn't touch the part isn't met
none_met_at : (s : Source) (r n i j : ℕ) (place : Rect) (lies : BandRows) (b : Bool) → place ≡ block_at_place s.region.rect s.coding r n i j → lies ≡ source_rows s r i → b ≡ touches place lies.area → b ≡ false
    → is_met s.region s.coding r n i j ≡ false
none_met_at s r n i j place lies b ep el et none =
    ap (λ u. touches u (source_part s r i)) (sym ep) ∙ ap (touches place) (sym (ap (λ (v : BandRows). v.area) el)) ∙ sym et ∙ none

pub returns-then-not-touches-clause-exact : goal.returns-then-not-touches-clause-exact
returns-then-not-touches-clause-exact c =
    let s = c.args.source.now in
    let p = c.args.block.part in
    let place = place_is s p.resolution p.precinct p.band c.args.block.number c.args.block.grid.now c.block-place.result c.requires.grid c.block-place.ensures in
    let lies = lies_is s p.resolution p.band c.band_rows-lies.result c.region.result c.band_number.result c.band_rows-lies.ensures.value c.region.ensures.value c.band_number.ensures in
    let none = none_met_at s p.resolution p.precinct p.band c.args.block.number c.block-place.result c.band_rows-lies.result c.touches.result place lies c.touches.ensures c.if-not-touches.true in
    ap (λ (b : Bool). if b then tested (block_values s.region.rect s.coding p.resolution p.precinct p.band c.args.block.number (source_bodies s p.resolution p.precinct)) else Ok tt) none

pub returns-then-not-touches-clause-shows : goal.returns-then-not-touches-clause-shows
returns-then-not-touches-clause-shows c = λ x y h inside.
    let s = c.args.source.now in
    let p = c.args.block.part in
    let place = place_is s p.resolution p.precinct p.band c.args.block.number c.args.block.grid.now c.block-place.result c.requires.grid c.block-place.ensures in
    let lies = lies_is s p.resolution p.band c.band_rows-lies.result c.region.result c.band_number.result c.band_rows-lies.ensures.value c.region.ensures.value c.band_number.ensures in
    let none = none_met_at s p.resolution p.precinct p.band c.args.block.number c.block-place.result c.band_rows-lies.result c.touches.result place lies c.touches.ensures c.if-not-touches.true in
    absurd (let f : true ≡ false = sym (touches_at (block_at_place s.region.rect s.coding p.resolution p.precinct p.band c.args.block.number) (source_part s p.resolution p.band) x y h inside) ∙ none in cc)
