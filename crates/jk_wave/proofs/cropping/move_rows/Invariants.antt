use Rattle.jk_wave.proofs.MovedRows.{AreMoved}
use Rattle.jk_wave.proofs.cropping.move_rows.Given as goal

abbrev pub invariant-loop-row : goal.invariant-loop-row
invariant-loop-row l = AreMoved l.area l.part l.row l.initial.plane l.plane
