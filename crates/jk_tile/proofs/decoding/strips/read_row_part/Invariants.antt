use Rattle.std.proofs.Common.{◌≡◌, ℕ, ◌+◌, ◌<◌, ◌≤◌, length}
use Rattle.jk_tile.specs.decoding.Strips.{KeepsPlaces, ShowsBlockIn, IsFine}
use Rattle.jk_tile.proofs.decoding.strips.read_row_part.Given as goal

abbrev pub invariant-loop-k : goal.invariant-loop-k
invariant-loop-k l = record {
  long : length l.strip ≡ length l.fn.strip;
  fine : (j : ℕ) → l.first ≤ j → j < l.first + l.k → IsFine l.source l.at.resolution l.part.precinct l.at.band j;
  shows : (j : ℕ) → l.first ≤ j → j < l.first + l.k → ShowsBlockIn l.source l.at.resolution l.part.precinct l.at.band j l.part.area.now l.strip;
  keeps : KeepsPlaces l.source l.at.resolution l.at.band l.part.area.now l.fn.strip l.strip;
}
