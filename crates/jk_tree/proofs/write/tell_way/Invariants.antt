use Rattle.std.proofs.Common.{◌≡◌, ◌+◌, ◌≤◌, List, length}
use Rattle.jk_tree.specs.TagTree.{Shape, Query, Values, start, count}
use Rattle.jk_tree.specs.Telling.{Grows, Speaks}
use Rattle.jk_tree.proofs.Speeches.{HalfSpoken}
use Rattle.jk_tree.proofs.write.tell_way.Given as goal

abbrev pub invariant-loop-level : goal.invariant-loop-level
invariant-loop-level l =
    let s : Shape = record { width = l.levels.width; height = l.levels.height } in
    let q : Query = record { leaf = l.leaf; threshold = l.threshold } in
    record {
      from : l.start ≡ start s l.level;
      within : l.level ≤ l.levels.root + 1;
      long : length l.nodes.items ≡ count s;
      grown : Grows l.fn.writer l.writer;
      spoken : (v : Values) (queries : List Query) → Speaks s v queries l.fn.nodes.items → HalfSpoken s v queries q l.level l.over l.nodes.items l.fn.writer l.writer;
    }

abbrev pub decreases-loop-level : goal.decreases-loop-level
decreases-loop-level l = l.level
