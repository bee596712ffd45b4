use Rattle.std.proofs.Common.{◌≡◌, ◌≤◌, ℕ, ℤ, drop, length}
use Rattle.std.specs.List.{flat_map, range_with_len}
use Rattle.jk_math.specs.Lists.{lists_of}
use Rattle.jk_tile.specs.encoding.TileWriters.{component_lists}
use Rattle.jk_tile.specs.encoding.LateTables.{bands_from}
use Rattle.jk_tile.specs.encoding.FallenTiles.{IsCodedTile}
use Rattle.jk_tile.proofs.encoding.fallen_tile.FallenTile.tables.Given as goal

-- so many components are appended
abbrev pub invariant-loop-component : goal.invariant-loop-component
invariant-loop-component l = (n : ℕ) × (n ≤ length l.fn.self.components.items) × (l.component-iterator.rest.items ≡ drop n l.fn.self.components.items)
    × ((f : ℕ → ℕ → ℕ → ℤ) → IsCodedTile l.source f l.fn.self → lists_of l.tables.items ≡ flat_map (λ c. component_lists (bands_from l.source l.coding (f c))) (range_with_len 0 n))
