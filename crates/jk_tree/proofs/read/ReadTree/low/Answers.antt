use Rattle.std.proofs.Common.{◌*◌, ◌<◌, length, sym, ap, ◌∙◌, subst, arith}
use Rattle.std.proofs.lemmas.List.{get_or_read}
use Rattle.jk_tree.specs.declared.node.Node.{Node}
use Rattle.jk_tree.specs.Asking.{node_at, TagTreeRead}
use Rattle.jk_tree.proofs.Places.{leaf_counted}
use Rattle.jk_tree.proofs.read.ReadTree.low.Goals as goal

pub index-requires : goal.index-requires
index-requires c =
    let s = c.self.inside in
    let t : TagTreeRead = record { shape = record { width = s.levels.width; height = s.levels.height }; nodes = s.nodes.items; failed = s.failed } in
    let less : c.args.leaf < t.shape.width * t.shape.height = subst (λ (x : TagTreeRead). c.args.leaf < x.shape.width * x.shape.height) (sym c.self.view_is) c.requires in
    let counted = leaf_counted t.shape c.args.leaf less in
    let long = c.self.invariant.2 in
    let is_long = s.nodes.ok.0 in
    omega (arith, counted, long, is_long)

pub returns : goal.returns
returns c =
    let s = c.self.inside in
    let t : TagTreeRead = record { shape = record { width = s.levels.width; height = s.levels.height }; nodes = s.nodes.items; failed = s.failed } in
    let less : c.args.leaf < t.shape.width * t.shape.height = subst (λ (x : TagTreeRead). c.args.leaf < x.shape.width * x.shape.height) (sym c.self.view_is) c.requires in
    let counted = leaf_counted t.shape c.args.leaf less in
    let within : c.args.leaf < length s.nodes.items = (let long = c.self.invariant.2 in omega (arith, counted, long)) in
    ap (λ (n : Node). n.low) (get_or_read s.nodes.items c.args.leaf c.index.result.now within c.index.ensures _)
    ∙ ap (λ (x : TagTreeRead). (node_at x.nodes c.args.leaf).low) c.self.view_is
