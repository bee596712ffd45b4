use Rattle.jk_tile.proofs.encoding.StripBlocks.{part_of_strip}
use Rattle.jk_tile.proofs.encoding.row_coding.is_part.Goals as goal

pub shape_at-shape-requires-clause-left : goal.shape_at-shape-requires-clause-left
shape_at-shape-requires-clause-left c =
    let p = c.args.part.now in
    let is = part_of_strip c.args.source.now c.args.strip p.precinct c.args.j p.grid c.block-place.result c.requires.strip c.requires.part.grid c.block-place.ensures c.requires.j in
    is.across

pub shape_at-shape-requires-clause-upper : goal.shape_at-shape-requires-clause-upper
shape_at-shape-requires-clause-upper c =
    let p = c.args.part.now in
    let is = part_of_strip c.args.source.now c.args.strip p.precinct c.args.j p.grid c.block-place.result c.requires.strip c.requires.part.grid c.block-place.ensures c.requires.j in
    is.down

pub is_cut-requires-clause-part : goal.is_cut-requires-clause-part
is_cut-requires-clause-part c =
    let p = c.args.part.now in
    part_of_strip c.args.source.now c.args.strip p.precinct c.args.j p.grid c.block-place.result c.requires.strip c.requires.part.grid c.block-place.ensures c.requires.j
