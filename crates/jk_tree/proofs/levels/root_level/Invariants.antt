use Rattle.std.proofs.Common.{◌≡◌, ◌-◌, ◌≤◌}
use Rattle.jk_tree.specs.TagTree.{level_from}
use Rattle.jk_tree.proofs.levels.root_level.Given as goal

abbrev pub invariant-loop-level : goal.invariant-loop-level
invariant-loop-level l = record {
  small : l.level ≤ 16;
  found : level_from (l.most - l.level) l.most l.level ≡ level_from l.most l.most 0;
}

abbrev pub decreases-loop-level : goal.decreases-loop-level
decreases-loop-level l = l.most - l.level
