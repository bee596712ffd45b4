use Rattle.std.proofs.Common.{◌≡◌, ℕ, ◌*◌, ◌^◌, ◌<◌, ◌≤◌, List, [], length, take}
use Rattle.std.specs.Prelude.{sum_by}
use Rattle.jk_packet.specs.Written.{part_in}
use Rattle.vectors_packet.proofs.writing.sums_of.Given as goal

abbrev pub invariant-loop-layer : goal.invariant-loop-layer
invariant-loop-layer l = record {
  within : l.layer ≤ l.layers;
  few : (k : ℕ) → k < l.layer → (part_in l.table k).0 ≤ 164;
  bare : (k : ℕ) → k < l.layer → (part_in l.table k).0 ≡ 0 → (part_in l.table k).1 ≡ [];
  passes_are : l.passes ≡ sum_by (λ (p : ℕ × List ℕ). p.0) (take l.layer l.table.parts);
  size_is : l.size ≡ sum_by (λ (p : ℕ × List ℕ). length p.1) (take l.layer l.table.parts);
  bound : l.passes ≤ 164 * l.layer;
  small : l.size < 2 ^ 25;
}
