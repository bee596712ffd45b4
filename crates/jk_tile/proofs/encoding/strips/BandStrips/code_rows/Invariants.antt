use Rattle.std.proofs.Common.{◌≡◌, ◌+◌, ℕ, ℤ, length}
use Rattle.jk_tile.specs.encoding.Ahead.{IsCodedAhead}
use Rattle.jk_tile.specs.encoding.Strips.{IsBetweenRows, HasRowsOf}
use Rattle.jk_tile.proofs.encoding.strips.BandStrips.code_rows.Given as goal

abbrev pub invariant-loop : goal.invariant-loop
invariant-loop l = record {
  resolution : l.self.resolution ≡ l.fn.self.resolution;
  band : l.self.band ≡ l.fn.self.band;
  area : l.self.area ≡ l.fn.self.area;
  left : length l.self.waiting.items + l.counter ≡ length l.fn.self.waiting.items;
  holds : IsBetweenRows l.source l.self;
  rows : (f : ℕ → ℕ → ℕ → ℤ) → HasRowsOf l.source f l.fn.self → HasRowsOf l.source f l.self;
  ahead : IsCodedAhead l.ahead;
}
