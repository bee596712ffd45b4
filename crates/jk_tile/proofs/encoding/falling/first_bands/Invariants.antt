use Rattle.std.proofs.Common.{◌≡◌, ◌<◌, ℕ, ℤ, get_or, length}
use Rattle.jk_tile.specs.encoding.Strips.{HasRowsOf}
use Rattle.jk_tile.specs.encoding.FallingComponents.{IsBandUpto}
use Rattle.jk_tile.specs.declared.encoding.strips.BandStrips.{BandStrips}
use Rattle.jk_tile.proofs.encoding.falling.first_bands.Given as goal

abbrev pub invariant-loop-b : goal.invariant-loop-b
invariant-loop-b l = record {
  count : length l.bands.items ≡ l.b;
  each : (k : ℕ) (other : BandStrips) → k < l.b → IsBandUpto l.source l.source.rect.y0 k (get_or l.bands.items k other);
  rows : (f : ℕ → ℕ → ℕ → ℤ) (k : ℕ) (other : BandStrips) → k < l.b → HasRowsOf l.source f (get_or l.bands.items k other);
}
