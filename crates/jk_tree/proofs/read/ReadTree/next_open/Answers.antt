use Rattle.std.proofs.Common.{◌≡◌, ℕ, ◌+◌, ◌*◌, ◌<◌, ◌≤◌, List, sym, ◌∙◌, subst, arith}
use Rattle.jk_tree.specs.TagTree.{Shape}
use Rattle.jk_tree.specs.declared.node.Node.{Node}
use Rattle.jk_tree.specs.Asking.{TagTreeRead, IsClosed}
use Rattle.jk_tree.proofs.Closing.{AreClosed, run_in_row, run_of_rows, closed_asks, closed_all_unknown}
use Rattle.jk_tree.proofs.read.ReadTree.next_open.Goals as goal
use Rattle.jk_tree.proofs.read.ReadTree.next_open.Goals.{After-loop-row}

-- the run, of the nodes themselves
run_of : (sh : Shape) (seen nodes : List Node) (t column end row below : ℕ) → seen ≡ nodes → ((x y : ℕ) → column ≤ x → x < end → row ≤ y → y < below → (i : ℕ) × IsClosed sh seen t i x y)
    → (x y : ℕ) → column ≤ x → x < end → row ≤ y → y < below → (i : ℕ) × IsClosed sh nodes t i x y
run_of sh seen nodes t column end row below same run = subst (λ (ns : List Node). (x y : ℕ) → column ≤ x → x < end → row ≤ y → y < below → (i : ℕ) × IsClosed sh ns t i x y) same run

pub returns-then-run-width-clause-silent : goal.returns-then-run-width-clause-silent
returns-then-run-width-clause-silent c =
    let s = c.self.inside in
    let sh : Shape = record { width = s.levels.width; height = s.levels.height } in
    let t : TagTreeRead = record { shape = sh; nodes = s.nodes.items; failed = s.failed } in
    let r = c.closed_run-run in
    let i = c.loop-row.invariant in
    closed_asks t c.args.self.now c.args.threshold c.args.from (c.loop-row.row * s.levels.width + r.result.end) c.self.view_is (sym c.is_some.ensures ∙ c.if-is_some.false)
    (run_in_row sh s.nodes.items c.args.threshold c.args.from c.loop-row.row c.loop-row.column r.result.end r.result.below i.column r.ensures.end.1 r.ensures.below.0 i.closed
    (run_of sh c.deref.result.now s.nodes.items c.args.threshold c.loop-row.column r.result.end c.loop-row.row r.result.below c.deref.ensures.value r.ensures.closed))

pub returns-then-run-width-clause-unknown : goal.returns-then-run-width-clause-unknown
returns-then-run-width-clause-unknown c =
    let s = c.self.inside in
    let sh : Shape = record { width = s.levels.width; height = s.levels.height } in
    let t : TagTreeRead = record { shape = sh; nodes = s.nodes.items; failed = s.failed } in
    let r = c.closed_run-run in
    let i = c.loop-row.invariant in
    closed_all_unknown t c.args.self.now c.args.threshold c.args.from (c.loop-row.row * s.levels.width + r.result.end) c.self.view_is
    (run_in_row sh s.nodes.items c.args.threshold c.args.from c.loop-row.row c.loop-row.column r.result.end r.result.below i.column r.ensures.end.1 r.ensures.below.0 i.closed
    (run_of sh c.deref.result.now s.nodes.items c.args.threshold c.loop-row.column r.result.end c.loop-row.row r.result.below c.deref.ensures.value r.ensures.closed))

pub loop-row-preserved-then-column-eq0 : goal.loop-row-preserved-then-column-eq0
loop-row-preserved-then-column-eq0 c =
    let s = c.self.inside in
    let sh : Shape = record { width = s.levels.width; height = s.levels.height } in
    let r = c.closed_run-run in
    let i = c.loop-row.invariant in
    let some : 0 < s.levels.width = (let col = i.column in omega (arith, col)) in
    let zero : c.loop-row.column ≡ 0 = c.if-column-eq0.true in
    let deep = r.ensures.below.0 in
    let more : c.loop-row.row * s.levels.width ≤ r.result.below * s.levels.width = times_le c.loop-row.row r.result.below s.levels.width (omega (arith, deep)) in
    record {
      column = some;
      within = r.ensures.below.1;
      from = (let f = i.from in omega (arith, f, zero, more));
      closed = run_of_rows sh s.nodes.items c.args.threshold c.args.from c.loop-row.row r.result.end r.result.below some c.if-run-width.false
          (subst (λ n. AreClosed sh s.nodes.items c.args.threshold c.args.from (c.loop-row.row * s.levels.width + n)) zero i.closed)
          (λ x y from to down upto. (run_of sh c.deref.result.now s.nodes.items c.args.threshold c.loop-row.column r.result.end c.loop-row.row r.result.below c.deref.ensures.value r.ensures.closed) x y (omega (arith, zero)) to down upto);
    }
  where
    times_le : (a b m : ℕ) → a ≤ b → a * m ≤ b * m
    times_le a b m h = grind arith

pub loop-row-preserved : goal.loop-row-preserved
loop-row-preserved c =
    let s = c.self.inside in
    let sh : Shape = record { width = s.levels.width; height = s.levels.height } in
    let r = c.closed_run-run in
    let i = c.loop-row.invariant in
    let col = i.column in
    let whole : r.result.end ≡ s.levels.width = (let most = r.ensures.end.1 in let least = c.if-run-width.false in omega (arith, most, least)) in
    let next : c.loop-row.row * s.levels.width + r.result.end ≡ (c.loop-row.row + 1) * s.levels.width + 0 = (let d = spread c.loop-row.row s.levels.width in omega (arith, whole, d)) in
    record {
      column = omega (arith, col);
      within = (let t = c.loop-row-test.true in omega (arith, t));
      from = (let f = i.from in omega (arith, f, next, whole, col));
      closed = subst (λ n. AreClosed sh s.nodes.items c.args.threshold c.args.from n) next
          (run_in_row sh s.nodes.items c.args.threshold c.args.from c.loop-row.row c.loop-row.column r.result.end r.result.below col r.ensures.end.1 r.ensures.below.0 i.closed
          (run_of sh c.deref.result.now s.nodes.items c.args.threshold c.loop-row.column r.result.end c.loop-row.row r.result.below c.deref.ensures.value r.ensures.closed));
    }
  where
    spread : (q m : ℕ) → (q + 1) * m ≡ q * m + m
    spread q m = grind arith

-- all leaves
all_closed : (c : After-loop-row) → AreClosed record { width = c.self.inside.levels.width; height = c.self.inside.levels.height } c.self.inside.nodes.items c.args.threshold c.args.from (c.self.inside.levels.width * c.self.inside.levels.height)
all_closed c = λ leaf least less.
    let s = c.self.inside in
    let past = c.loop-row-test.false in
    let more : s.levels.width * s.levels.height ≤ c.loop-row.row * s.levels.width = times_le s.levels.height c.loop-row.row s.levels.width past in
    c.loop-row.invariant.closed leaf least (omega (arith, less, more))
  where
    times_le : (a b m : ℕ) → a ≤ b → m * a ≤ b * m
    times_le a b m h = grind arith

pub returns-clause-silent : goal.returns-clause-silent
returns-clause-silent c =
    let s = c.self.inside in
    let t : TagTreeRead = record { shape = record { width = s.levels.width; height = s.levels.height }; nodes = s.nodes.items; failed = s.failed } in
    closed_asks t c.args.self.now c.args.threshold c.args.from (s.levels.width * s.levels.height) c.self.view_is (sym c.is_some.ensures ∙ c.if-is_some.false) (all_closed c)

pub returns-clause-unknown : goal.returns-clause-unknown
returns-clause-unknown c =
    let s = c.self.inside in
    let t : TagTreeRead = record { shape = record { width = s.levels.width; height = s.levels.height }; nodes = s.nodes.items; failed = s.failed } in
    closed_all_unknown t c.args.self.now c.args.threshold c.args.from (s.levels.width * s.levels.height) c.self.view_is (all_closed c)
