use Rattle.std.proofs.Common.{◌≡◌, ◌*◌, ◌^◌, ◌≤◌}
use Rattle.jk_tree.specs.TagTree.{start}
use Rattle.jk_tree.proofs.levels.node_count.Given as goal

abbrev pub invariant-loop-level : goal.invariant-loop-level
invariant-loop-level l = record {
  counted : l.count ≡ start record { width = l.width; height = l.height } l.level;
  small : l.count ≤ l.level * 2 ^ 32;
}
