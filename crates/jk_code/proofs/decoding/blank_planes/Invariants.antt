use Rattle.std.proofs.Common.{◌≡◌, ◌<◌, ◌*◌, ℕ, length}
use Rattle.jk_code.specs.Tiles.{plane_in}
use Rattle.jk_code.proofs.decoding.blank_planes.Given as goal

abbrev pub invariant-loop : goal.invariant-loop
invariant-loop l = record {
  count : length l.planes.items ≡ l.counter;
  each : (c : ℕ) → c < l.counter → length (plane_in l.planes.items c) ≡ l.height * l.width;
}
