use Rattle.std.proofs.Common.{◌≡◌, ℕ, None, get_or, length}
use Rattle.jk_jobs.proofs.dealing.empty_slots.Given as goal

abbrev pub invariant-loop : goal.invariant-loop
invariant-loop g l = record {
  long : length l.slots.items ≡ l.counter;
  empty : (i : ℕ) → get_or l.slots.items i None ≡ None;
}
