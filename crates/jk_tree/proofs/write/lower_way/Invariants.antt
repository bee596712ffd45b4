use Rattle.std.proofs.Common.{◌≡◌, ◌+◌, ◌≤◌}
use Rattle.jk_tree.specs.TagTree.{Shape, start}
use Rattle.jk_tree.specs.declared.write.WriteNode.{WriteNode}
use Rattle.jk_tree.proofs.Ways.{Changed}
use Rattle.jk_tree.proofs.Speeches.{silent_node}
use Rattle.jk_tree.proofs.Written.{old_node, low_node}
use Rattle.jk_tree.proofs.write.lower_way.Given as goal

abbrev pub invariant-loop-level : goal.invariant-loop-level
invariant-loop-level l =
    let s : Shape = record { width = l.levels.width; height = l.levels.height } in
    record {
      from : l.start ≡ start s l.level;
      within : l.level ≤ l.levels.root + 1;
      changed : Changed WriteNode silent_node s l.leaf (old_node s l.fn.nodes.items) (low_node s l.value l.fn.nodes.items) l.level l.nodes.items;
    }

abbrev pub decreases-loop-level : goal.decreases-loop-level
decreases-loop-level l = l.level
