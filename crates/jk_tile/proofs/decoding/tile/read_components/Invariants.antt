use Rattle.std.proofs.Common.{◌≡◌, ◌^◌, ℕ, map, All}
use Rattle.std.specs.List.{range_with_len}
use Rattle.jk_math.specs.Lists.{lists_of, list_at}
use Rattle.jk_math.specs.Raster.{raster}
use Rattle.jk_math.specs.Signed.{IsBelow}
use Rattle.jk_tile.specs.decoding.TileReading.{component_values}
use Rattle.jk_tile.proofs.Steps.{fine}
use Rattle.jk_tile.proofs.Components.{parts_tested}
use Rattle.jk_tile.proofs.decoding.tile.read_components.Given as goal

abbrev pub invariant-loop-c : goal.invariant-loop-c
invariant-loop-c l = record {
  tested : parts_tested l.bytes l.headers l.number l.reduce l.area l.packets l.c ≡ fine;
  lists : lists_of l.values.items ≡ map (λ c. raster l.area (component_values l.bytes l.headers l.number l.reduce l.packets c)) (range_with_len 0 l.c);
  small : (c : ℕ) → All (IsBelow (2 ^ 29)) (list_at l.values.items c);
}
