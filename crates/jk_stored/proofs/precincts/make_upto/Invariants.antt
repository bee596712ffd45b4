use Rattle.std.proofs.Common.{◌≡◌, ℕ, length}
use Rattle.jk_packet.specs.Reading.{PrecinctState}
use Rattle.jk_walk.specs.Keeping.{seen}
use Rattle.jk_stored.proofs.precincts.make_upto.Given as goal

-- of what was added nothing is kept
abbrev pub invariant-loop : goal.invariant-loop
invariant-loop l = record {
  long : length l.slots.items ≡ l.counter;
  same : (blank : ℕ → PrecinctState) (k : ℕ) → seen blank l.slots.items k ≡ seen blank l.fn.slots.items k;
}
