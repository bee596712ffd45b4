use Rattle.std.proofs.Common.{◌≡◌, ◌<◌, ◌-◌, ℕ, max}
use Rattle.std.specs.Prelude.{slice_index}
use Rattle.jk_wave.specs.Analysis.{analysed}
use Rattle.jk_tile.specs.encoding.Forward.{tile_value}
use Rattle.jk_tile.specs.encoding.Strips.{bands_in}
use Rattle.jk_tile.specs.encoding.FallingComponents.{made_need}
use Rattle.jk_tile.proofs.encoding.MeasuredRows.{IsMeasured}
use Rattle.jk_tile.proofs.encoding.measuring.raise_needs.Given as goal

-- raised by the rows before
abbrev pub invariant-loop-y : goal.invariant-loop-y
invariant-loop-y l = record {
  levels : IsMeasured l.source (tile_value l.image l.colours l.component) l.y l.falling;
  needs : (b : ℕ) → b < bands_in l.source
      → slice_index l.needs b ≡ max (slice_index l.fn.needs b) (made_need l.source l.source.rect.y0 l.y (analysed l.source.rect l.source.coding.levels (tile_value l.image l.colours l.component)) b);
}

abbrev pub decreases-loop-y : goal.decreases-loop-y
decreases-loop-y l = l.rect.y1 - l.y
