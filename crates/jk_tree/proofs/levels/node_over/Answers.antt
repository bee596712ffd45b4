use Rattle.std.proofs.Common.{◌≡◌, ◌+◌, ◌-◌, ◌*◌, ◌/◌, ◌^◌, ◌<◌, ap, sym, ◌∙◌, subst, arith}
use Rattle.jk_tree.specs.TagTree.{wide, node_number, count}
use Rattle.jk_tree.proofs.Places.{StandsOver, stands_over}
use Rattle.jk_tree.proofs.levels.node_over.Goals as goal
use Rattle.jk_tree.proofs.levels.node_over.Goals.{After-nodes_over}

stands : (c : After-nodes_over) → StandsOver record { width = c.args.levels.width; height = c.args.levels.height } c.args.level c.args.column c.args.row c.args.above
stands c = stands_over record { width = c.args.levels.width; height = c.args.levels.height } c.args.level c.args.column c.args.row c.args.above c.requires.level c.requires.column c.requires.row c.requires.above

-- the sizes are those of the level
place_here : (c : After-nodes_over) → c.args.above - c.nodes_over-across.result * c.nodes_over.result + c.args.row / 2 ^ c.args.level * c.nodes_over-across.result + c.args.column / 2 ^ c.args.level
    ≡ node_number record { width = c.args.levels.width; height = c.args.levels.height } c.args.level (c.args.column / 2 ^ c.args.level) (c.args.row / 2 ^ c.args.level)
place_here c =
    ap (λ a. c.args.above - a * c.nodes_over.result + c.args.row / 2 ^ c.args.level * a + c.args.column / 2 ^ c.args.level) c.nodes_over-across.ensures.exact
    ∙ ap (λ b. c.args.above - wide c.args.levels.width c.args.level * b + c.args.row / 2 ^ c.args.level * wide c.args.levels.width c.args.level + c.args.column / 2 ^ c.args.level) c.nodes_over.ensures.exact
    ∙ (stands c).place_is

product : (c : After-nodes_over) → c.nodes_over-across.result * c.nodes_over.result ≡ wide c.args.levels.width c.args.level * wide c.args.levels.height c.args.level
product c = ap (λ a. a * c.nodes_over.result) c.nodes_over-across.ensures.exact ∙ ap (λ b. wide c.args.levels.width c.args.level * b) c.nodes_over.ensures.exact

pub overflow_sub-start : goal.overflow_sub-start
overflow_sub-start c = (let p = product c in let f = (stands c).level_fits in omega (arith, p, f))

pub overflow_add-result : goal.overflow_add-result
overflow_add-result c = (let p = place_here c in let f = (stands c).below in let r = c.ranges.above.fits in omega (arith, p, f, r))

pub overflow_add-result-2 : goal.overflow_add-result-2
overflow_add-result-2 c = (let p = place_here c in let f = (stands c).below in let r = c.ranges.above.fits in omega (arith, p, f, r))

pub returns-clause-start : goal.returns-clause-start
returns-clause-start c = ap (λ n. c.args.above - n) (product c) ∙ (stands c).start_is

pub returns-clause-place : goal.returns-clause-place
returns-clause-place c = place_here c

pub returns-clause-within : goal.returns-clause-within
returns-clause-within c = subst (λ n. n < count record { width = c.args.levels.width; height = c.args.levels.height }) (sym (place_here c)) (stands c).within
