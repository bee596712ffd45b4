use Rattle.std.proofs.Common.{◌≡◌, ℕ, ◌<◌, get_or, length}
use Rattle.jk_tile.specs.TileMeaning.{shown_area}
use Rattle.jk_rows.specs.declared.component.ComponentRows.{ComponentRows}
use Rattle.jk_rows.specs.Components.{IsComponentRows}
use Rattle.jk_rows.specs.Tiles.{component_in}
use Rattle.jk_rows.proofs.climbing.ClimbingTile.new.Given as goal

abbrev pub invariant-loop-c : goal.invariant-loop-c
invariant-loop-c l = record {
  count : length l.components.items ≡ l.c;
  each : (k : ℕ) (other : ComponentRows) → k < l.c → IsComponentRows (component_in l.coded k) (shown_area l.coded.headers.siz l.coded.number l.coded.reduce).y0 (get_or l.components.items k other);
}
