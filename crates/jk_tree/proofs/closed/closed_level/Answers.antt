use Rattle.std.proofs.Common.{◌≡◌, ◌-◌, ◌<◌, Bool, true, false, refl, sym, ap, subst, inl, inr, arith}
use Rattle.std.specs.Prelude.{not}
use Rattle.std.proofs.lemmas.Bool.{cases_eq}
use Rattle.jk_tree.specs.TagTree.{Shape}
use Rattle.jk_tree.specs.declared.node.Node.{Node}
use Rattle.jk_tree.specs.Asking.{node_at, over_leaf}
use Rattle.jk_tree.proofs.closed.closed_level.Goals as goal

not_false : (b : Bool) → not b ≡ false → b ≡ true
not_false true h = refl
not_false false h = absurd (cc)

pub loop-level-preserved : goal.loop-level-preserved
loop-level-preserved c =
    let s : Shape = record { width = c.args.levels.width; height = c.args.levels.height } in
    let i = c.loop-level.level - 1 in
    let here = c.node_over-from.ensures in
    let at : node_at c.args.nodes.now c.node_over-from.result.1 ≡ over_leaf s c.args.nodes.now i c.args.column c.args.row = ap (node_at c.args.nodes.now) here.place in
    record {
      from = here.start;
      within = (let w = c.loop-level.invariant.within in omega (arith, w));
      above = λ j from within. elim (cases_eq j i) [
        | inl same ↦
            subst (λ k. ((over_leaf s c.args.nodes.now k c.args.column c.args.row).known ≡ true) × ((over_leaf s c.args.nodes.now k c.args.column c.args.row).low < c.args.threshold)) (sym same)
            (subst (λ (z : Node). (z.known ≡ true) × (z.low < c.args.threshold)) at (not_false _ c.if-not-node-2.false, c.if-node-threshold-2.false))
        | inr apart ↦ c.loop-level.invariant.above j (let t = c.loop-level-test.true in omega (arith, from, apart, t)) within
      ];
    }
