use Rattle.std.proofs.Common.{◌≡◌, suc, ◌-◌, ◌<◌, ◌≤◌, min, length, set, sym, ◌∙◌, ap, subst, arith}
use Rattle.std.proofs.lemmas.List.{get_or_read}
use Rattle.jk_tree.specs.TagTree.{Shape, top, column, row, node_number}
use Rattle.jk_tree.specs.declared.write.WriteNode.{WriteNode}
use Rattle.jk_tree.specs.Telling.{speaker_at}
use Rattle.jk_tree.proofs.Ways.{Changed, changed_own, changed_set}
use Rattle.jk_tree.proofs.Speeches.{silent_node}
use Rattle.jk_tree.proofs.Written.{old_node, low_node}
use Rattle.jk_tree.proofs.write.lower_way.Goals as goal

pub loop-level-preserved : goal.loop-level-preserved
loop-level-preserved c =
    let s : Shape = record { width = c.args.levels.width; height = c.args.levels.height } in
    let i = c.loop-level.level - 1 in
    let items = c.loop-level.nodes.items in
    let old = c.args.nodes.now.items in
    let node = c.index-node.result.now in
    let f = old_node s old in
    let g = low_node s c.args.value old in
    let last : c.loop-level.level ≡ suc i = (let t = c.loop-level-test.true in omega (arith, t)) in
    let was : Changed WriteNode silent_node s c.args.leaf f g (suc i) items = subst (λ k. Changed WriteNode silent_node s c.args.leaf f g k items) last c.loop-level.invariant.changed in
    let here = c.node_over-from.ensures in
    let within : c.node_over-from.result.1 < length items = (let a = here.within in let b = was.long in omega (arith, a, b)) in
    let in_tree : i ≤ top s = (let w = c.loop-level.invariant.within in let r = c.requires.root in let t = c.loop-level-test.true in omega (arith, w, r, t)) in
    let node_is : node ≡ f i (column s c.args.leaf i) (row s c.args.leaf i) =
    get_or_read items c.node_over-from.result.1 node within c.index-node.ensures _ ∙ ap (speaker_at items) here.place ∙ changed_own WriteNode silent_node s c.args.leaf c.requires.leaf f g i items in_tree was in
    record {
      from = here.start;
      within = (let w = c.loop-level.invariant.within in omega (arith, w));
      changed =
          subst (λ m. Changed WriteNode silent_node s c.args.leaf f g i (set items c.node_over-from.result.1 (record { value = m; told = node.told }))) (sym c.min.ensures)
          (subst (λ p. Changed WriteNode silent_node s c.args.leaf f g i (set items p (record { value = min node.value c.args.value; told = node.told }))) (sym here.place)
          (subst (λ (n : WriteNode). Changed WriteNode silent_node s c.args.leaf f g i (set items (node_number s i (column s c.args.leaf i) (row s c.args.leaf i)) (record { value = min n.value c.args.value; told = n.told }))) (sym node_is)
          (changed_set WriteNode silent_node s c.args.leaf c.requires.leaf f g i items in_tree was)));
    }
