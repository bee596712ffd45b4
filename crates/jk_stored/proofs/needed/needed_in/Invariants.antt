use Rattle.std.proofs.Common.{◌≡◌, ◌<◌, ℕ, get_or, length}
use Rattle.jk_stored.specs.declared.needed.NeededIn.{NeededIn}
use Rattle.jk_stored.specs.Contents.{IsNeededIn}
use Rattle.jk_stored.proofs.needed.needed_in.Given as goal

-- what is needed of the first resolutions
abbrev pub invariant-loop-number : goal.invariant-loop-number
invariant-loop-number l = record {
  count : length l.all.items ≡ l.number;
  each : (i : ℕ) (other : NeededIn) → i < l.number → IsNeededIn l.shape l.top l.reduce i (get_or l.all.items i other);
}
