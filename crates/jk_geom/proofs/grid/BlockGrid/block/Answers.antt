-- A code-block's column and row are among those of the grid.
use Rattle.std.proofs.Common.{◌/◌, ◌%◌, arith}
use Rattle.jk_geom.proofs.GridLaws.{column_fits, row_fits}
use Rattle.jk_geom.proofs.Ceilings.{raster_column, raster_row}
use Rattle.jk_geom.proofs.grid.BlockGrid.block.Goals as goal

pub overflow_add-column : goal.overflow_add-column
overflow_add-column c =
    let g = c.args.self.now in
    let fits = column_fits g (c.args.i % g.across) c.requires.grid (raster_column c.args.i g.across g.down c.requires.i) in
    omega arith

pub overflow_add-row : goal.overflow_add-row
overflow_add-row c =
    let g = c.args.self.now in
    let fits = row_fits g (c.args.i / g.across) c.requires.grid (raster_row c.args.i g.across g.down c.requires.i) in
    omega arith
