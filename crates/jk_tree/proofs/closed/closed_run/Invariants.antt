use Rattle.std.proofs.Common.{ℕ, ◌-◌, ◌<◌, ◌≤◌}
use Rattle.jk_tree.specs.TagTree.{Shape}
use Rattle.jk_tree.specs.Asking.{IsClosed}
use Rattle.jk_tree.proofs.closed.closed_run.Given as goal

abbrev pub invariant-loop-end : goal.invariant-loop-end
invariant-loop-end l =
    let s : Shape = record { width = l.levels.width; height = l.levels.height } in
    record {
      from : l.column ≤ l.end;
      within : l.end ≤ l.levels.width;
      under : l.row < l.below;
      deep : l.below ≤ l.levels.height;
      closed : (x y : ℕ) → l.column ≤ x → x < l.end → l.row ≤ y → y < l.below → (i : ℕ) × IsClosed s l.nodes l.threshold i x y;
    }

abbrev pub decreases-loop-end : goal.decreases-loop-end
decreases-loop-end l = l.width - l.end
