use Rattle.std.proofs.Common.{◌-◌, sym, ◌∙◌, ap, inl, inr}
use Rattle.jk_tree.specs.Asking.{climb, visit}
use Rattle.jk_bits.specs.Giving.{reads_same}
use Rattle.jk_tree.proofs.Visits.{visit_stays, visit_goes_on}
use Rattle.jk_tree.proofs.read.visit.Goals as goal

pub returns-then-node-clause-exact : goal.returns-then-node-clause-exact
returns-then-node-clause-exact c =
    visit_stays c.args.node c.args.over c.args.threshold c.args.reader.now (elim c.then-node.either [ inl known ↦ inl known | inr high ↦ inr high.1 ])

pub returns-clause-exact : goal.returns-clause-exact
returns-clause-exact c =
    let low = c.max.result in
    reads_same (climb low (c.args.threshold - low)) (visit c.args.node c.args.over c.args.threshold) c.args.reader.now c.climb.new.reader c.climb.result
    (visit_goes_on c.args.node c.args.over c.args.threshold c.args.reader.now c.if-node.false c.if-node-threshold.false
    ∙ ap (λ n. climb n (c.args.threshold - n) c.args.reader.now) (sym c.max.ensures)) c.climb.ensures.exact
