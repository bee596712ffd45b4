use Rattle.std.proofs.Common.{◌+◌, ◌*◌, ap, sym, ◌∙◌, arith}
use Rattle.jk_tree.specs.TagTree.{Shape, wide, start}
use Rattle.jk_tree.proofs.Heights.{start-zero, start-suc, level_fits}
use Rattle.jk_tree.proofs.levels.node_count.Goals as goal

pub loop-level-init : goal.loop-level-init
loop-level-init c = record { counted = sym (start-zero record { width = c.args.width; height = c.args.height }); small = omega arith }

pub loop-level-preserved : goal.loop-level-preserved
loop-level-preserved c =
    let s : Shape = record { width = c.args.width; height = c.args.height } in
    let a = c.nodes_over.ensures in
    let b = c.nodes_over-in-loop-level.ensures in
    let fits = level_fits c.nodes_over.result c.nodes_over-in-loop-level.result a.small b.small in
    let i = c.loop-level.invariant in
    record {
      counted = ap (λ n. n + c.nodes_over.result * c.nodes_over-in-loop-level.result) i.counted
          ∙ ap (λ n. start s c.loop-level.level + n * c.nodes_over-in-loop-level.result) a.exact
          ∙ ap (λ n. start s c.loop-level.level + wide c.args.width c.loop-level.level * n) b.exact
          ∙ sym (start-suc s c.loop-level.level);
      small = (let k = i.small in omega (arith, fits, k));
    }
