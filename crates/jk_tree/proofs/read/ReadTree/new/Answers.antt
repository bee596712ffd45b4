use Rattle.std.proofs.Common.{false, List, [], None, replicate, refl, sym, ap, ◌∙◌, subst, arith}
use Rattle.jk_tree.specs.TagTree.{Shape}
use Rattle.jk_tree.specs.declared.node.Node.{Node}
use Rattle.jk_tree.specs.Asking.{AreTold, blank_tree}
use Rattle.jk_tree.proofs.Asks.{fresh}
use Rattle.jk_tree.proofs.read.ReadTree.new.Goals as goal

pub returns-clause-blank : goal.returns-clause-blank
unfolding blank_tree
returns-clause-blank c =
    let s : Shape = record { width = c.args.width; height = c.args.height } in
    ap (λ (ns : List Node). record { shape = s; nodes = ns; failed = None })
    (c.in_ok-nodes.ensures ∙ ap (λ n. replicate n record { low = 0; known = false }) c.node_count.ensures)

pub returns-clause-stands : goal.returns-clause-stands
returns-clause-stands c =
    let s : Shape = record { width = c.args.width; height = c.args.height } in
    (refl, refl, λ v tree. subst (λ (ns : List Node). AreTold s v [] ns) (sym c.in_ok-nodes.ensures) (fresh s v c.node_count.result tree (let e = c.node_count.ensures in omega (arith, e))))
