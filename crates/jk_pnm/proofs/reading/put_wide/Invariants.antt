use Rattle.std.proofs.Common.{◌≡◌, ◌<◌, ◌*◌, ◌+◌, ℕ, length, pos, get_or}
use Rattle.jk_pnm.proofs.reading.put_wide.Given as goal

-- the samples before a pixel
abbrev pub invariant-loop-pixel : goal.invariant-loop-pixel
invariant-loop-pixel l = record {
  count : length l.samples ≡ length l.fn.samples;
  each : (k : ℕ) → k < l.pixel → get_or l.samples k (pos 0)
      ≡ pos (256 * get_or l.raster (2 * (k * l.components + l.component)) 0 + get_or l.raster (2 * (k * l.components + l.component) + 1) 0);
}
