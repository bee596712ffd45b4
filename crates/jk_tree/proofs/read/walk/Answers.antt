use Rattle.std.proofs.Common.{◌≡◌, ℕ, suc, ◌-◌, ◌<◌, true, false, List, length, set, get_or, Ok, sym, ◌∙◌, ap, arith}
use Rattle.std.proofs.lemmas.Result.{err_from_is_err_and}
use Rattle.std.proofs.lemmas.List.{get_or_read, length-set}
use Rattle.jk_bits.specs.Reading.{Bits}
use Rattle.jk_bits.specs.Giving.{stops_on, moves_on}
use Rattle.jk_tree.specs.TagTree.{Shape, Query, column, row, node_number}
use Rattle.jk_tree.specs.declared.node.Node.{Node}
use Rattle.jk_tree.specs.Asking.{node_at, visit, walk}
use Rattle.jk_tree.proofs.Moving.{visit_moves}
use Rattle.jk_tree.proofs.Walks.{walk_err, walk_on, walk_stop, walk_over}
use Rattle.jk_tree.proofs.Finds.{visit_keeps}
use Rattle.jk_tree.proofs.read.walk.Goals as goal

pub returns-in_err-node-clause-exact : goal.returns-in_err-node-clause-exact
returns-in_err-node-clause-exact c =
    let s : Shape = record { width = c.args.levels.width; height = c.args.levels.height } in
    let q : Query = record { leaf = c.args.leaf; threshold = c.args.threshold } in
    let i = c.loop-level.level - 1 in
    let p = err_from_is_err_and c.from_residual.result c.from_residual.ensures.1 in
    let last : c.loop-level.level ≡ suc i = (let t = c.loop-level-test.true in omega (arith, t)) in
    let here = c.node_over-from.ensures in
    let within : c.node_over-from.result.1 < length c.loop-level.nodes.items = (let a = here.within in let b = c.loop-level.invariant.long in omega (arith, a, b)) in
    let node_is : c.index.result.now ≡ node_at c.loop-level.nodes.items (node_number s i (column s c.args.leaf i) (row s c.args.leaf i)) =
    get_or_read c.loop-level.nodes.items c.node_over-from.result.1 c.index.result.now within c.index.ensures _ ∙ ap (node_at c.loop-level.nodes.items) here.place in
    rw (p.1, p.2) (sym c.loop-level.invariant.told ∙ ap (λ k. walk s q k c.loop-level.over c.loop-level.nodes.items c.loop-level.reader) last
    ∙ walk_err s q i c.loop-level.over c.loop-level.nodes.items c.loop-level.reader c.in_err-node.field-0.0
    (ap (λ (n : Node). visit n c.loop-level.over c.args.threshold c.loop-level.reader) (sym node_is) ∙ c.in_err-node.ensures.exact))

pub returns-in_err-node-clause-stops : goal.returns-in_err-node-clause-stops
returns-in_err-node-clause-stops c =
    let p = err_from_is_err_and c.from_residual.result c.from_residual.ensures.1 in
    rw p.1 (stops_on c.args.reader.now c.loop-level.reader c.visit.new.reader c.loop-level.invariant.moved c.in_err-node.ensures.stops)

-- what was known before the walk is as it was
kept : (was items : List Node) (at over t : ℕ) (r : Bits) (found : Node) (out : Node × Bits) → at < length items → found ≡ get_or items at found → visit found over t r ≡ Ok out
    → ((p : ℕ) → (node_at was p).known ≡ true → node_at items p ≡ node_at was p) → (p : ℕ) → (node_at was p).known ≡ true → node_at (set items at out.0) p ≡ node_at was p
kept was items at over t r found out within is visited still p known =
    let so_far = still p known in
    visit_keeps items at over t r out within (ap (λ (n : Node). visit n over t r) (sym (get_or_read items at found within is _)) ∙ visited) p (ap (λ (n : Node). n.known) so_far ∙ known) ∙ so_far

pub returns-then-node-threshold-clause-exact : goal.returns-then-node-threshold-clause-exact
returns-then-node-threshold-clause-exact c =
    let s : Shape = record { width = c.args.levels.width; height = c.args.levels.height } in
    let q : Query = record { leaf = c.args.leaf; threshold = c.args.threshold } in
    let i = c.loop-level.level - 1 in
    let items = c.loop-level.nodes.items in
    let last : c.loop-level.level ≡ suc i = (let t = c.loop-level-test.true in omega (arith, t)) in
    let here = c.node_over-from.ensures in
    let within : c.node_over-from.result.1 < length items = (let a = here.within in let b = c.loop-level.invariant.long in omega (arith, a, b)) in
    let node_is : c.index.result.now ≡ node_at items (node_number s i (column s c.args.leaf i) (row s c.args.leaf i)) = get_or_read items c.node_over-from.result.1 c.index.result.now within c.index.ensures _ ∙ ap (node_at items) here.place in
    sym c.loop-level.invariant.told
    ∙ ap (λ k. walk s q k c.loop-level.over items c.loop-level.reader) last
    ∙ walk_stop s q i c.loop-level.over items c.loop-level.reader c.in_ok-node.node c.visit.new.reader
    (ap (λ (n : Node). visit n c.loop-level.over c.args.threshold c.loop-level.reader) (sym node_is) ∙ c.in_ok-node.ensures.exact) c.if-node-threshold.true
    ∙ ap (λ p. Ok (false, (set items p c.in_ok-node.node, c.visit.new.reader))) (sym here.place)

pub returns-then-node-threshold-clause-still : goal.returns-then-node-threshold-clause-still
returns-then-node-threshold-clause-still c =
    let within : c.node_over-from.result.1 < length c.loop-level.nodes.items = (let a = c.node_over-from.ensures.within in let b = c.loop-level.invariant.long in omega (arith, a, b)) in
    kept c.args.nodes.now.items c.loop-level.nodes.items c.node_over-from.result.1 c.loop-level.over c.args.threshold c.loop-level.reader c.index.result.now (c.in_ok-node.node, c.visit.new.reader) within
    c.index.ensures c.in_ok-node.ensures.exact c.loop-level.invariant.still

pub returns-in_err-node-clause-still : goal.returns-in_err-node-clause-still
returns-in_err-node-clause-still c = c.loop-level.invariant.still

pub loop-level-preserved : goal.loop-level-preserved
loop-level-preserved c =
    let s : Shape = record { width = c.args.levels.width; height = c.args.levels.height } in
    let q : Query = record { leaf = c.args.leaf; threshold = c.args.threshold } in
    let i = c.loop-level.level - 1 in
    let items = c.loop-level.nodes.items in
    let last : c.loop-level.level ≡ suc i = (let t = c.loop-level-test.true in omega (arith, t)) in
    let here = c.node_over-from.ensures in
    let within : c.node_over-from.result.1 < length items = (let a = here.within in let b = c.loop-level.invariant.long in omega (arith, a, b)) in
    let node_is : c.index.result.now ≡ node_at items (node_number s i (column s c.args.leaf i) (row s c.args.leaf i)) = get_or_read items c.node_over-from.result.1 c.index.result.now within c.index.ensures _ ∙ ap (node_at items) here.place in
    let less : c.in_ok-node.node.low < c.args.threshold = c.if-node-threshold.false in
    record {
      from = here.start;
      within = (let w = c.loop-level.invariant.within in omega (arith, w));
      under = omega (arith, less);
      long = length-set items c.node_over-from.result.1 c.in_ok-node.node ∙ c.loop-level.invariant.long;
      still = kept c.args.nodes.now.items items c.node_over-from.result.1 c.loop-level.over c.args.threshold c.loop-level.reader c.index.result.now (c.in_ok-node.node, c.visit.new.reader) within
          c.index.ensures c.in_ok-node.ensures.exact c.loop-level.invariant.still;
      moved = moves_on c.args.reader.now c.loop-level.reader c.visit.new.reader c.loop-level.invariant.moved
          (visit_moves c.index.result.now c.loop-level.over c.args.threshold c.loop-level.reader (c.in_ok-node.node, c.visit.new.reader) c.in_ok-node.ensures.exact);
      told =
          ap (λ p. walk s q i c.in_ok-node.node.low (set items p c.in_ok-node.node) c.visit.new.reader) here.place
          ∙ sym (walk_on s q i c.loop-level.over items c.loop-level.reader c.in_ok-node.node c.visit.new.reader
          (ap (λ (n : Node). visit n c.loop-level.over c.args.threshold c.loop-level.reader) (sym node_is) ∙ c.in_ok-node.ensures.exact) less)
          ∙ ap (λ k. walk s q k c.loop-level.over items c.loop-level.reader) (sym last)
          ∙ c.loop-level.invariant.told;
    }

pub returns-clause-exact : goal.returns-clause-exact
returns-clause-exact c =
    let s : Shape = record { width = c.args.levels.width; height = c.args.levels.height } in
    let q : Query = record { leaf = c.args.leaf; threshold = c.args.threshold } in
    let none : c.loop-level.level ≡ 0 = (let t = c.loop-level-test.false in omega (arith, t)) in
    sym c.loop-level.invariant.told ∙ ap (λ k. walk s q k c.loop-level.over c.loop-level.nodes.items c.loop-level.reader) none ∙ walk_over s q c.loop-level.over c.loop-level.nodes.items c.loop-level.reader
