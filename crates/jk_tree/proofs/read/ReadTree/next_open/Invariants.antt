use Rattle.std.proofs.Common.{ℕ, ◌+◌, ◌-◌, ◌*◌, ◌/◌, ◌%◌, ◌<◌, ◌≤◌}
use Rattle.jk_tree.specs.TagTree.{Shape}
use Rattle.jk_tree.specs.Asking.{IsClosed}
use Rattle.jk_tree.proofs.read.ReadTree.next_open.Given as goal

abbrev pub invariant-loop-row : goal.invariant-loop-row
invariant-loop-row l =
    let s : Shape = record { width = l.self-inside.levels.width; height = l.self-inside.levels.height } in
    record {
      column : l.column < l.width;
      within : l.row ≤ l.height;
      from : l.from ≤ l.row * l.width + l.column;
      closed : (leaf : ℕ) → l.from ≤ leaf → leaf < l.row * l.width + l.column → (i : ℕ) × IsClosed s l.self-inside.nodes.items l.threshold i (leaf % l.width) (leaf / l.width);
    }

abbrev pub decreases-loop-row : goal.decreases-loop-row
decreases-loop-row l = l.height - l.row
