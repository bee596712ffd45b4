use Rattle.jk_wave.proofs.PartSamples.{ArePutBelow}
use Rattle.jk_wave.proofs.backward.put_bands.Given as goal

abbrev pub invariant-loop-b : goal.invariant-loop-b
invariant-loop-b l = ArePutBelow l.region l.r l.b l.bands l.initial.rows l.rows
