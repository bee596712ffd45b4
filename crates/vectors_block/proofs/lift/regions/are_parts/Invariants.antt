use Rattle.std.proofs.Common.{◌≡◌, ◌^◌, ◌<◌, ℕ, [], length, get_or}
use Rattle.std.specs.List.{All}
use Rattle.jk_math.specs.Signed.{IsBelow}
use Rattle.jk_math.specs.Raster.{places_of}
use Rattle.jk_wave.specs.Regions.{part_area}
use Rattle.vectors_block.proofs.lift.regions.are_parts.Given as goal

abbrev pub invariant-loop-b : goal.invariant-loop-b
invariant-loop-b l = record {
  lengths : (b : ℕ) → b < l.b → length (get_or l.parts.bands b []) ≡ places_of (part_area l.parts.region b);
  small : (b : ℕ) → b < l.b → All (IsBelow (2 ^ 23)) (get_or l.parts.bands b []);
}
