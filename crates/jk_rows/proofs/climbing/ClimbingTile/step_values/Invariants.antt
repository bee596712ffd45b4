use Rattle.std.proofs.Common.{◌≡◌, ℕ, ◌^◌, ◌<◌, ◌≤◌, get_or, length, map, All}
use Rattle.std.specs.List.{range_with_len}
use Rattle.jk_math.specs.Lists.{lists_of, list_at}
use Rattle.jk_math.specs.Raster.{raster}
use Rattle.jk_math.specs.Signed.{IsBelow}
use Rattle.jk_wave.specs.climbing.Held.{rows_between}
use Rattle.jk_tile.specs.TileMeaning.{shown_area}
use Rattle.jk_tile.specs.decoding.TileReading.{component_values}
use Rattle.jk_rows.specs.declared.component.ComponentRows.{ComponentRows}
use Rattle.jk_rows.specs.Components.{IsComponentRows}
use Rattle.jk_rows.specs.Tiles.{component_in}
use Rattle.jk_rows.proofs.TileRowLaws.{IsSound}
use Rattle.jk_rows.proofs.climbing.ClimbingTile.step_values.Given as goal

abbrev pub invariant-loop-c : goal.invariant-loop-c
invariant-loop-c l = record {
  count : length l.self.components.items ≡ l.coded.headers.siz.components;
  done : (k : ℕ) (other : ComponentRows) → k < l.c → IsComponentRows (component_in l.coded k) l.to (get_or l.self.components.items k other);
  left : (k : ℕ) (other : ComponentRows) → l.c ≤ k → k < l.coded.headers.siz.components → IsComponentRows (component_in l.coded k) l.from (get_or l.self.components.items k other);
  sound : (k : ℕ) → k < l.c → IsSound l.coded k;
  lists : lists_of l.values.items ≡ map (λ c. raster (rows_between (shown_area l.coded.headers.siz l.coded.number l.coded.reduce) l.from l.to)
      (component_values l.coded.bytes l.coded.headers l.coded.number l.coded.reduce l.coded.packets c)) (range_with_len 0 l.c);
  small : (c : ℕ) → All (IsBelow (2 ^ 29)) (list_at l.values.items c);
}
