use Rattle.std.proofs.Common.{rules, ◌≤◌, length, sym, subst, ap}
use Rattle.std.proofs.lemmas.List.Elements.{All-push, All-same}
use Rattle.jk_math.specs.declared.rect.Rect.{Rect}
use Rattle.jk_marks.specs.declared.coding.Coding.{Coding}
use Rattle.jk_tile.specs.decoding.Decoded.{IsBlockSegment}
use Rattle.jk_tile.proofs.Places.{block_is_part}
use Rattle.jk_tile.proofs.Showing.{place_is, few_is, shape_is}
use Rattle.jk_tile.proofs.decoding.jobs.add_block.Goals as goal

pub shape_at-shape-requires-clause-left : goal.shape_at-shape-requires-clause-left
shape_at-shape-requires-clause-left c =
    let s = c.args.source.now in
    let p = c.args.block.part in
    let place = place_is s p.resolution p.precinct p.band c.args.block.number c.args.block.grid.now c.block-place.result c.requires.grid c.block-place.ensures in
    subst (λ (b : Rect). b.x0 ≤ b.x1) (sym place) (block_is_part s.region.rect s.coding p.resolution p.precinct p.band c.args.block.number (few_is s p.resolution p.precinct p.band c.args.block.number c.args.block.grid.now c.requires.grid c.requires.number)).across

pub shape_at-shape-requires-clause-upper : goal.shape_at-shape-requires-clause-upper
shape_at-shape-requires-clause-upper c =
    let s = c.args.source.now in
    let p = c.args.block.part in
    let place = place_is s p.resolution p.precinct p.band c.args.block.number c.args.block.grid.now c.block-place.result c.requires.grid c.block-place.ensures in
    subst (λ (b : Rect). b.y0 ≤ b.y1) (sym place) (block_is_part s.region.rect s.coding p.resolution p.precinct p.band c.args.block.number (few_is s p.resolution p.precinct p.band c.args.block.number c.args.block.grid.now c.requires.grid c.requires.number)).down

pub returns-clause-segments : goal.returns-clause-segments
returns-clause-segments c = λ all.
    let s = c.args.source.now in
    let p = c.args.block.part in
    let size = length s.bytes in
    let place = place_is s p.resolution p.precinct p.band c.args.block.number c.args.block.grid.now c.block-place.result c.requires.grid c.block-place.ensures in
    let shape = shape_is s p.resolution p.precinct p.band c.args.block.number c.block-place.result c.orientation-orientation.result c.coding-coding.result.now.style c.shape_at-shape.result c.coding-coding.ensures.source place c.orientation-orientation.ensures (ap (λ (k : Coding). k.style) c.coding-coding.ensures.value)
    c.shape_at-shape.ensures (few_is s p.resolution p.precinct p.band c.args.block.number c.args.block.grid.now c.requires.grid c.requires.number) in
    All-same (IsBlockSegment size) c.push.new.self.items _ c.in_ok-push.ensures.items (All-push (IsBlockSegment size) c.args.segments.now.items _ all (record {
      shape = shape;
      planes = c.band_planes-planes.ensures.few;
      inside = search rules;
    }))
