use Rattle.std.proofs.Common.{arith}
use Rattle.jk_wave.proofs.MovedRows.{row_moved}
use Rattle.jk_wave.proofs.cropping.move_rows.Goals as goal

pub loop-row-preserved : goal.loop-row-preserved
loop-row-preserved c =
    let moved = c.copy_within.ensures.by_index in
    row_moved c.args.area.now c.args.part.now c.loop-row.row _ _ c.args.plane.now c.loop-row.plane c.copy_within.new.self
    c.requires.part (omega arith) moved.0 moved.1 moved.2 (omega arith) c.loop-row.invariant
