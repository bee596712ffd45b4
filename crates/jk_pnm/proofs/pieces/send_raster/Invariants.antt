use Rattle.std.proofs.Common.{◌≡◌, ◌-◌, ◌≤◌, ℕ, List}
use Rattle.std.specs.Io.KnownBytes.{Appends}
use Rattle.jk_pnm.specs.Written.{raster_text}
use Rattle.jk_pnm.proofs.pieces.send_raster.Given as goal

-- the pixels before this one are written
abbrev pub invariant-loop-from : goal.invariant-loop-from
invariant-loop-from g l = record {
  within : l.from ≤ l.pixels;
  written : (part : List ℕ) × Appends (g.W.Write.contents l.initial.writer) (g.W.Write.contents l.writer) part × (part ≡ raster_text l.maxval l.image.planes l.from);
}

abbrev pub decreases-loop-from : goal.decreases-loop-from
decreases-loop-from g l = l.pixels - l.from
