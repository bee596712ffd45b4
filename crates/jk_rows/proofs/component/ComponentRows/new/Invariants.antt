use Rattle.std.proofs.Common.{◌≡◌, ℕ, ◌<◌, get_or, length}
use Rattle.jk_rows.specs.declared.level.RowLevel.{RowLevel}
use Rattle.jk_rows.specs.Components.{area_at, IsRowLevel}
use Rattle.jk_rows.proofs.component.ComponentRows.new.Given as goal

abbrev pub invariant-loop-q : goal.invariant-loop-q
invariant-loop-q l = record {
  count : length l.levels.items ≡ l.q;
  each : (k : ℕ) (other : RowLevel) → k < l.q → IsRowLevel l.source (area_at l.source l.source.region.top).y0 k (get_or l.levels.items k other);
}
