use Rattle.jk_wave.proofs.RowsMade.{AreMade}
use Rattle.jk_wave.proofs.level.synthesise_level.Given as goal

abbrev pub invariant-loop-row : goal.invariant-loop-row
invariant-loop-row l = AreMade l.area l.row l.initial.rows l.rows
