use Rattle.std.proofs.Common.{◌≡◌, length}
use Rattle.jk_params.specs.Levels.{least_in}
use Rattle.jk_params.proofs.levels.least_in.Given as goal

abbrev pub invariant-loop-i : goal.invariant-loop-i
invariant-loop-i l = record {
  end_is : l.i-end ≡ length l.codings;
  least : l.least ≡ least_in l.codings l.i;
}
