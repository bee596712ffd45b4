use Rattle.std.proofs.Common.{◌≡◌}
use Rattle.jk_block.specs.CodedBlocks.{shape_of}
use Rattle.jk_math.specs.Raster.{raster, plane_at}
use Rattle.jk_tile.specs.TileBlocks.{shape_of_area}
use Rattle.jk_tile.specs.encoding.Ahead.{layered_block}
use Rattle.jk_tile.specs.encoding.Strips.{row_values, layered_at}
use Rattle.jk_tile.proofs.encoding.StripBlocks.{part_of_strip, part_fits, part_block}
use Rattle.jk_tile.proofs.encoding.AheadLaws.{both_ok}
use Rattle.jk_tile.proofs.encoding.row_coding.cut_part.Goals as goal

pub cut_block-requires-clause-part : goal.cut_block-requires-clause-part
cut_block-requires-clause-part c =
    let p = c.args.part.now in
    part_of_strip c.args.source.now c.args.strip p.precinct c.args.j p.grid c.block-place.result c.requires.strip c.requires.part.grid c.block-place.ensures c.requires.j

pub cut_block-requires-clause-fits : goal.cut_block-requires-clause-fits
cut_block-requires-clause-fits c =
    let p = c.args.part.now in
    part_fits c.args.source.now c.args.strip p.precinct c.args.j p.grid c.block-place.result c.coding.result.now c.orientation-orientation.result c.coding.ensures.frame c.requires.part.grid c.block-place.ensures c.coding.ensures.value c.orientation-orientation.ensures c.requires.j

pub returns-clause-value : goal.returns-clause-value
returns-clause-value c =
    let s = c.args.source.now in
    let w = c.args.strip in
    let p = c.args.part.now in
    both_ok (λ b. shape_of b ≡ shape_of_area c.block-place.result c.orientation-orientation.result c.coding.result.now.style) (λ b. b.values.items ≡ raster c.block-place.result (plane_at w.area w.values.now))
    (λ b. layered_block s.layers b ≡ layered_at s (row_values w) w.resolution p.precinct w.band c.args.j) c.cut_block.result
    (λ b shape values. part_block s w p.precinct c.args.j p.grid c.block-place.result c.coding.result.now c.orientation-orientation.result (shape_of b) b.values.items c.coding.ensures.frame c.requires.part.grid c.block-place.ensures c.coding.ensures.value c.orientation-orientation.ensures shape values)
    c.cut_block.ensures.shape c.cut_block.ensures.values
