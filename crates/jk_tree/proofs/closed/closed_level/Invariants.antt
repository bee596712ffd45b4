use Rattle.std.proofs.Common.{◌≡◌, ℕ, ◌+◌, ◌<◌, ◌≤◌, true}
use Rattle.jk_tree.specs.TagTree.{Shape, start, top}
use Rattle.jk_tree.specs.Asking.{over_leaf}
use Rattle.jk_tree.proofs.closed.closed_level.Given as goal

abbrev pub invariant-loop-level : goal.invariant-loop-level
invariant-loop-level l =
    let s : Shape = record { width = l.levels.width; height = l.levels.height } in
    record {
      from : l.start ≡ start s l.level;
      within : l.level ≤ l.levels.root + 1;
      above : (j : ℕ) → l.level ≤ j → j ≤ top s → ((over_leaf s l.nodes j l.column l.row).known ≡ true) × ((over_leaf s l.nodes j l.column l.row).low < l.threshold);
    }

abbrev pub decreases-loop-level : goal.decreases-loop-level
decreases-loop-level l = l.level
