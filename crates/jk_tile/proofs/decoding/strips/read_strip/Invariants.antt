use Rattle.std.proofs.Common.{◌≡◌, ℕ, ◌+◌, ◌<◌, ◌≤◌, length}
use Rattle.jk_math.specs.Raster.{places_of}
use Rattle.jk_tile.specs.decoding.Strips.{ShowsPartIn, IsPartFine}
use Rattle.jk_tile.proofs.decoding.strips.read_strip.Given as goal

abbrev pub invariant-loop-k : goal.invariant-loop-k
invariant-loop-k l = record {
  long : length l.strip.items ≡ places_of l.area;
  fine : (n : ℕ) → l.first ≤ n → n < l.first + l.k → IsPartFine l.source l.at n;
  shows : (n : ℕ) → l.first ≤ n → n < l.first + l.k → ShowsPartIn l.source l.at l.area n l.strip.items;
}
