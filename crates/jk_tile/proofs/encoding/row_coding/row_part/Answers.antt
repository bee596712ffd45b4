use Rattle.std.proofs.Common.{[], inl, inr, refl, sym}
use Rattle.jk_tile.specs.encoding.Strips.{row_values}
use Rattle.jk_tile.proofs.encoding.StripBlocks.{grid_given, part_none, row_part_is}
use Rattle.jk_tile.proofs.encoding.row_coding.row_part.Goals.{then-row-grid-via-then-row-grid, then-row-grid-via-else-row-grid+then-grid-row}
use Rattle.jk_tile.proofs.encoding.row_coding.row_part.Goals as goal

pub returns-then-row-grid-clause-none : goal.returns-then-row-grid-clause-none
returns-then-row-grid-clause-none c same =
    let s = c.args.source.now in
    let w = c.args.strip in
    let e = grid_given s w c.args.precinct c.rect-rect.result c.coding.result.now c.orientation-orientation.result c.blocks-grid.result c.rect-rect.ensures.value c.coding.ensures.value c.orientation-orientation.ensures c.blocks-grid.ensures.value in
    sym (elim c.then-row-grid.branch [
      | then-row-grid-via-then-row-grid b ↦ part_none s w (row_values w) c.args.precinct c.blocks-grid.result [] c.requires.strip e (inl b.if-row-grid.true)
      | then-row-grid-via-else-row-grid+then-grid-row b ↦ part_none s w (row_values w) c.args.precinct c.blocks-grid.result [] c.requires.strip e (inr b.if-grid-row.true)
    ])

pub returns-clause-some : goal.returns-clause-some
returns-clause-some c =
    let s = c.args.source.now in
    let w = c.args.strip in
    let e = grid_given s w c.args.precinct c.rect-rect.result c.coding.result.now c.orientation-orientation.result c.blocks-grid.result c.rect-rect.ensures.value c.coding.ensures.value c.orientation-orientation.ensures c.blocks-grid.ensures.value in
    (row_part_is s w _ c.requires.strip e c.blocks-grid.ensures.grid c.blocks-grid.ensures.few.0 c.blocks-grid.ensures.few.1 c.if-row-grid.false c.if-grid-row.false refl, refl)
