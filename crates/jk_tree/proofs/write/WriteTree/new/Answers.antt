use Rattle.std.proofs.Common.{◌≡◌, suc, ◌+◌, ◌*◌, length, refl, ◌∙◌, ap, subst, arith}
use Rattle.std.proofs.lemmas.List.{length-replicate}
use Rattle.jk_tree.specs.TagTree.{Shape}
use Rattle.jk_tree.proofs.Written.{Built, built_none, built_more, built_all, written_leaf}
use Rattle.jk_tree.proofs.write.WriteTree.new.Goals as goal

pub loop-leaf-init : goal.loop-leaf-init
loop-leaf-init c =
    let s : Shape = record { width = c.args.width; height = c.args.height } in
    built_none s c.args.values.now c.in_ok-nodes.nodes.items c.node_count.result c.in_ok-nodes.ensures c.node_count.ensures
    (ap length c.in_ok-nodes.ensures ∙ length-replicate c.node_count.result _ ∙ c.node_count.ensures)

pub loop-leaf-preserved : goal.loop-leaf-preserved
loop-leaf-preserved c =
    let s : Shape = record { width = c.args.width; height = c.args.height } in
    subst (λ n. Built s c.args.values.now n c.lower_way.new.nodes.items) (let e : suc c.loop-leaf.leaf ≡ c.loop-leaf.leaf + 1 = omega arith in e)
    (built_more s c.args.values.now c.loop-leaf.leaf _ c.loop-leaf.nodes.items c.lower_way.new.nodes.items c.lower_way.ensures.long refl c.loop-leaf.invariant c.lower_way.ensures.lowered)

pub returns-clause-made : goal.returns-clause-made
returns-clause-made c =
    let s : Shape = record { width = c.args.width; height = c.args.height } in
    let all : c.loop-leaf.leaf ≡ s.width * s.height = (let t = c.loop-leaf-test.false in let e = c.loop-leaf.auto.leaf-end in let r = c.requires in omega (arith, t, e, r)) in
    (refl, refl, built_all s c.args.values.now c.loop-leaf.nodes.items (subst (λ n. Built s c.args.values.now n c.loop-leaf.nodes.items) all c.loop-leaf.invariant))

pub returns-clause-leaves : goal.returns-clause-leaves
returns-clause-leaves c = λ leaf less.
    written_leaf record { width = c.args.width; height = c.args.height } c.args.values.now leaf less ((c.type_inv.values leaf).fits)

pub returns-in_err-nodes-clause-leaves : goal.returns-in_err-nodes-clause-leaves
returns-in_err-nodes-clause-leaves c = λ leaf less.
    written_leaf record { width = c.args.width; height = c.args.height } c.args.values.now leaf less ((c.type_inv.values leaf).fits)
