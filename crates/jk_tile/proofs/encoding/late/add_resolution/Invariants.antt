use Rattle.std.proofs.Common.{◌≡◌, ◌<◌, ◌≤◌, ◌+◌, ℕ, ℤ, get_or, length}
use Rattle.jk_math.specs.Lists.{list_at}
use Rattle.jk_geom.specs.Precincts.{precinct_number}
use Rattle.jk_wave.specs.Analysis.{analysed}
use Rattle.jk_walk.specs.TilePackets.{band_number}
use Rattle.jk_tile.specs.encoding.LateTables.{first_tables, HaveBlocks}
use Rattle.jk_tile.specs.declared.encoding.fallen.FallenBand.{FallenBand}
use Rattle.jk_tile.proofs.encoding.late.add_resolution.Given as goal

-- the sub-bands before are appended
abbrev pub invariant-loop-i : goal.invariant-loop-i
invariant-loop-i l = record {
  count : length l.tables.items ≡ l.first + precinct_number l.source.rect l.source.coding l.r;
  front : (m : ℕ) → m < l.first → list_at l.tables.items m ≡ list_at l.fn.tables.items m;
  made : (f : ℕ → ℕ → ℤ) → HaveBlocks l.source (analysed l.source.rect l.source.coding.levels f) l.r l.fn.bands.items
      → (n : ℕ) → n < precinct_number l.source.rect l.source.coding l.r → list_at l.tables.items (l.first + n) ≡ first_tables l.source l.coding (analysed l.source.rect l.source.coding.levels f) l.r l.i n;
  bands : length l.bands.items ≡ length l.fn.bands.items;
  left : (k : ℕ) (other : FallenBand) → band_number l.r 0 + l.i ≤ k → get_or l.bands.items k other ≡ get_or l.fn.bands.items k other;
}
