use Rattle.jk_tile.specs.Samples.{sample_of}
use Rattle.jk_tile.proofs.Sampling.{AreMapped}
use Rattle.jk_tile.proofs.samples.all_to_samples.Given as goal

abbrev pub invariant-loop-c : goal.invariant-loop-c
invariant-loop-c l = AreMapped (sample_of l.siz) l.c l.fn.values.items l.values.items
