use Rattle.std.proofs.Common.{◌≡◌, ℕ, ◌<◌, ◌≤◌, get_or, length}
use Rattle.jk_rows.specs.declared.level.RowLevel.{RowLevel}
use Rattle.jk_rows.specs.Components.{step_rows, IsLowest, IsRowLevel}
use Rattle.jk_rows.proofs.component.ComponentRows.step.Given as goal

abbrev pub invariant-loop-q : goal.invariant-loop-q
invariant-loop-q l = record {
  count : length l.self.levels.items ≡ l.source.region.top;
  lowest : IsLowest l.source l.e l.self.lowest;
  done : (k : ℕ) (other : RowLevel) → k < l.q → IsRowLevel l.source l.e k (get_or l.self.levels.items k other);
  left : (k : ℕ) (other : RowLevel) → l.q ≤ k → k < l.source.region.top → IsRowLevel l.source l.d k (get_or l.self.levels.items k other);
  rows : l.fresh.items ≡ step_rows l.source l.d l.e l.q;
}
