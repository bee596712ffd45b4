use Rattle.jk_tile.specs.Samples.{sample_of}
use Rattle.jk_tile.proofs.Sampling.{IsMapped}
use Rattle.jk_tile.proofs.samples.to_samples.Given as goal

abbrev pub invariant-loop-k : goal.invariant-loop-k
invariant-loop-k l = IsMapped (sample_of l.siz) l.k l.fn.values l.values
