use Rattle.std.proofs.Common.{◌≡◌, ◌≤◌, ◌-◌, ℕ, ℤ}
use Rattle.jk_math.specs.Raster.{raster}
use Rattle.jk_wave.specs.climbing.Held.{rows_between}
use Rattle.jk_walk.specs.TilePackets.{band_number}
use Rattle.jk_tile.specs.encoding.Strips.{own_band, IsBetweenRows, HasRowsOf}
use Rattle.jk_tile.proofs.encoding.strips.BandStrips.put.Given as goal

abbrev pub invariant-loop-self : goal.invariant-loop-self
invariant-loop-self l = record {
  resolution : l.self.resolution ≡ l.fn.self.resolution;
  band : l.self.band ≡ l.fn.self.band;
  from : l.fn.self.area.y1 ≤ l.self.area.y1;
  to : l.self.area.y1 ≤ l.to;
  holds : IsBetweenRows l.source l.self;
  rows : (f : ℕ → ℕ → ℕ → ℤ) → HasRowsOf l.source f l.fn.self
      → l.rows ≡ raster (rows_between (own_band l.source l.fn.self) l.fn.self.area.y1 l.to) (f (band_number l.fn.self.resolution l.fn.self.band))
      → HasRowsOf l.source f l.self;
}

abbrev pub decreases-loop-self : goal.decreases-loop-self
decreases-loop-self l = l.to - l.self.area.y1
