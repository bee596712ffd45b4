use Rattle.std.proofs.Common.{◌≡◌, ◌<◌, ◌*◌, ◌+◌, ℕ, length, pos, get_or}
use Rattle.jk_pnm.proofs.reading.put_narrow.Given as goal

-- the samples before a pixel
abbrev pub invariant-loop-pixel : goal.invariant-loop-pixel
invariant-loop-pixel l = record {
  count : length l.samples ≡ length l.fn.samples;
  each : (k : ℕ) → k < l.pixel → get_or l.samples k (pos 0) ≡ pos (get_or l.raster (k * 3 + l.component) 0);
}
