use Rattle.jk_pnm.proofs.Tails.{IsReadBack}
use Rattle.jk_pnm.proofs.reading.last_samples.Given as goal

abbrev pub invariant-loop : goal.invariant-loop
invariant-loop l = IsReadBack l.fn.bytes.items l.left.items l.samples.items l.counter
