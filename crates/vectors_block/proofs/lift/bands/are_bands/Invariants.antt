use Rattle.std.proofs.Common.{◌≡◌, ◌^◌, ◌<◌, ℕ, [], length, get_or}
use Rattle.std.specs.List.{All}
use Rattle.jk_math.specs.Signed.{IsBelow}
use Rattle.jk_math.specs.Raster.{places_of}
use Rattle.jk_wave.specs.Bands.{numbered_area}
use Rattle.vectors_block.proofs.lift.bands.are_bands.Given as goal

abbrev pub invariant-loop-b : goal.invariant-loop-b
invariant-loop-b l = record {
  lengths : (b : ℕ) → b < l.b → length (get_or l.bands.bands b []) ≡ places_of (numbered_area l.bands.rect l.bands.levels b);
  small : (b : ℕ) → b < l.b → All (IsBelow (2 ^ 23)) (get_or l.bands.bands b []);
}
