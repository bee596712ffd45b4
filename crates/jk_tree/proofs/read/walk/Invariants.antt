use Rattle.std.proofs.Common.{◌≡◌, ℕ, ◌+◌, ◌≤◌, true, length}
use Rattle.jk_tree.specs.TagTree.{Shape, Query, start, count}
use Rattle.jk_bits.specs.Giving.{Moves}
use Rattle.jk_tree.specs.Asking.{node_at, walk}
use Rattle.jk_tree.proofs.read.walk.Given as goal

abbrev pub invariant-loop-level : goal.invariant-loop-level
invariant-loop-level l =
    let s : Shape = record { width = l.levels.width; height = l.levels.height } in
    let q : Query = record { leaf = l.leaf; threshold = l.threshold } in
    record {
      from : l.start ≡ start s l.level;
      within : l.level ≤ l.levels.root + 1;
      under : l.over ≤ l.threshold;
      long : length l.nodes.items ≡ count s;
      still : (p : ℕ) → (node_at l.fn.nodes.items p).known ≡ true → node_at l.nodes.items p ≡ node_at l.fn.nodes.items p;
      moved : Moves l.fn.reader l.reader;
      told : walk s q l.level l.over l.nodes.items l.reader ≡ walk s q (l.levels.root + 1) 0 l.fn.nodes.items l.fn.reader;
    }

abbrev pub decreases-loop-level : goal.decreases-loop-level
decreases-loop-level l = l.level
