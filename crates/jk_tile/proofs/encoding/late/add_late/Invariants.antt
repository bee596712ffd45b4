use Rattle.std.proofs.Common.{◌≡◌, ◌≤◌, ◌++◌, ℕ, ℤ, get_or, length}
use Rattle.std.specs.List.{flat_map, range_with_len}
use Rattle.jk_math.specs.Lists.{lists_of}
use Rattle.jk_wave.specs.Analysis.{analysed}
use Rattle.jk_walk.specs.TilePackets.{band_number}
use Rattle.jk_tile.specs.encoding.LateTables.{HaveBlocks, bands_from}
use Rattle.jk_tile.specs.encoding.TileWriters.{resolution_lists}
use Rattle.jk_tile.specs.declared.encoding.fallen.FallenBand.{FallenBand}
use Rattle.jk_tile.proofs.encoding.late.add_late.Given as goal

-- the resolutions before are appended
abbrev pub invariant-loop-r : goal.invariant-loop-r
invariant-loop-r l = record {
  tables : (f : ℕ → ℕ → ℤ) → ((r : ℕ) → r ≤ l.source.coding.levels → HaveBlocks l.source (analysed l.source.rect l.source.coding.levels f) r l.fn.bands.items)
      → lists_of l.tables.items ≡ lists_of l.fn.tables.items ++ flat_map (resolution_lists (bands_from l.source l.coding f)) (range_with_len 0 l.r);
  count : length l.bands.items ≡ length l.fn.bands.items;
  left : (k : ℕ) (other : FallenBand) → band_number l.r 0 ≤ k → get_or l.bands.items k other ≡ get_or l.fn.bands.items k other;
}
