use Rattle.std.proofs.Common.{◌≡◌, ◌<◌, ◌≤◌, ℕ, ℤ, get_or, length}
use Rattle.jk_tile.specs.encoding.Strips.{HasRowsOf}
use Rattle.jk_tile.specs.encoding.FallingComponents.{IsBandUpto, AreBandsUpto, HaveRowsOf}
use Rattle.jk_tile.specs.declared.encoding.strips.BandStrips.{BandStrips}
use Rattle.jk_tile.proofs.encoding.falling.code_all.Given as goal

abbrev pub invariant-loop-b : goal.invariant-loop-b
invariant-loop-b l = record {
  count : length l.bands.items ≡ length l.fn.bands.items;
  left : (k : ℕ) (other : BandStrips) → l.b ≤ k → get_or l.bands.items k other ≡ get_or l.fn.bands.items k other;
  done : (e : ℕ) → AreBandsUpto l.source e l.fn.bands.items → (k : ℕ) (other : BandStrips) → k < l.b → IsBandUpto l.source e k (get_or l.bands.items k other);
  rows : (f : ℕ → ℕ → ℕ → ℤ) → HaveRowsOf l.source f l.fn.bands.items → (k : ℕ) (other : BandStrips) → k < l.b → HasRowsOf l.source f (get_or l.bands.items k other);
  none : (k : ℕ) (other : BandStrips) → k < l.b → length (get_or l.bands.items k other).waiting.items ≡ 0;
}
