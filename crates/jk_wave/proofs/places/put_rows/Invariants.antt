use Rattle.jk_wave.proofs.PutRows.{ArePut}
use Rattle.jk_wave.proofs.places.put_rows.Given as goal

abbrev pub invariant-loop-row : goal.invariant-loop-row
invariant-loop-row l = ArePut l.place l.row l.band l.initial.rows l.rows
