use Rattle.std.proofs.Common.{◌≡◌, ℕ, ◌+◌, ◌*◌, ◌<◌, true, List, length, Ok, Err, refl, sym, ap, ◌∙◌, subst, arith}
use Rattle.jk_tree.specs.TagTree.{Shape, Query, node_number, column, row, top, count}
use Rattle.jk_tree.specs.declared.node.Node.{Node}
use Rattle.jk_tree.specs.Asking.{node_at, TagTreeRead, AreToldBySome, walk, ask_at, IsAnswer, IsKnown}
use Rattle.jk_tree.proofs.Places.{place_leaf}
use Rattle.jk_tree.proofs.Finds.{walk_through}
use Rattle.jk_tree.proofs.Answering.{ask_at-some, ask_at-ok, ask_at-err, only_law, found_law, answer_same}
use Rattle.jk_tree.proofs.read.ReadTree.ask.Goals as goal
use Rattle.jk_tree.proofs.read.ReadTree.ask.Goals.{In-Ok}

pub returns-in-Some-clause-exact : goal.returns-in-Some-clause-exact
returns-in-Some-clause-exact c =
    let s = c.self.inside in
    let q : Query = record { leaf = c.args.leaf; threshold = c.args.threshold } in
    let t : TagTreeRead = record { shape = record { width = s.levels.width; height = s.levels.height }; nodes = s.nodes.items; failed = s.failed } in
    ap (λ (x : TagTreeRead). ask_at q (x, c.args.reader.now)) (sym c.self.view_is) ∙ ask_at-some q t c.args.reader.now c.in-Some.fault c.in-Some.is

-- the walk, from the tree as it was
walked : (c : In-Ok) → walk record { width = c.self.inside.levels.width; height = c.self.inside.levels.height } record { leaf = c.args.leaf; threshold = c.args.threshold }
    (top record { width = c.self.inside.levels.width; height = c.self.inside.levels.height } + 1) 0 c.self.inside.nodes.items c.args.reader.now ≡ Ok (c.in-Ok.below, (c.walk.new.nodes.items, c.walk.new.reader))
walked c =
    let s = c.self.inside in
    ap (λ k. walk record { width = s.levels.width; height = s.levels.height } record { leaf = c.args.leaf; threshold = c.args.threshold } (k + 1) 0 s.nodes.items c.args.reader.now) (sym c.self.invariant.0) ∙ c.in-Ok.ensures.exact

exact_ok : (c : In-Ok) → ask_at record { leaf = c.args.leaf; threshold = c.args.threshold } (c.args.self.now, c.args.reader.now)
    ≡ Ok (c.in-Ok.below, (record { shape = record { width = c.self.inside.levels.width; height = c.self.inside.levels.height }; nodes = c.walk.new.nodes.items; failed = c.self.inside.failed }, c.walk.new.reader))
exact_ok c =
    let s = c.self.inside in
    let q : Query = record { leaf = c.args.leaf; threshold = c.args.threshold } in
    let t : TagTreeRead = record { shape = record { width = s.levels.width; height = s.levels.height }; nodes = s.nodes.items; failed = s.failed } in
    ap (λ (x : TagTreeRead). ask_at q (x, c.args.reader.now)) (sym c.self.view_is) ∙ ask_at-ok q t c.args.reader.now (c.in-Ok.below, (c.walk.new.nodes.items, c.walk.new.reader)) c.in_default.is (walked c)

pub returns-in-Ok-clause-exact : goal.returns-in-Ok-clause-exact
returns-in-Ok-clause-exact c = exact_ok c

pub returns-in-Ok-clause-below : goal.returns-in-Ok-clause-below
returns-in-Ok-clause-below c = λ goes.
    let s = c.self.inside in
    let q : Query = record { leaf = c.args.leaf; threshold = c.args.threshold } in
    let sh : Shape = record { width = s.levels.width; height = s.levels.height } in
    let less : c.args.leaf < sh.width * sh.height = subst (λ (x : TagTreeRead). c.args.leaf < x.shape.width * x.shape.height) (sym c.self.view_is) c.requires in
    let through : (k : ℕ) → k < top sh + 1 → ((node_at c.walk.new.nodes.items (node_number sh k (column sh c.args.leaf k) (row sh c.args.leaf k))).known ≡ true) × ((node_at c.walk.new.nodes.items (node_number sh k (column sh c.args.leaf k) (row sh c.args.leaf k))).low < c.args.threshold) =
    walk_through sh q less (top sh + 1) 0 s.nodes.items c.args.reader.now (c.in-Ok.below, (c.walk.new.nodes.items, c.walk.new.reader)) (omega arith) c.self.invariant.2 (walked c) goes in (
      λ i level. (through i (omega (arith, level))).0,
      subst (λ p. (node_at c.walk.new.nodes.items p).low < c.args.threshold) (place_leaf sh c.args.leaf) (through 0 (omega arith)).1,
    )

-- what was known before is known after
known_on : (t : TagTreeRead) (old : TagTreeRead) (new : List Node) (j : ℕ) → t ≡ old → ((p : ℕ) → (node_at t.nodes p).known ≡ true → node_at new p ≡ node_at t.nodes p) → IsKnown old.shape old.nodes j → IsKnown t.shape new j
known_on t old new j same still known i level =
    let p = node_number t.shape i (column t.shape j i) (row t.shape j i) in
    let was = (subst (λ (x : TagTreeRead). IsKnown x.shape x.nodes j) (sym same) known) i level in
    ap (λ (n : Node). n.known) (still p was) ∙ was

pub returns-in-Ok-clause-still : goal.returns-in-Ok-clause-still
returns-in-Ok-clause-still c = λ j known.
    let s = c.self.inside in
    let t : TagTreeRead = record { shape = record { width = s.levels.width; height = s.levels.height }; nodes = s.nodes.items; failed = s.failed } in
    known_on t c.args.self.now c.walk.new.nodes.items j c.self.view_is c.walk.ensures.still known

pub returns-in-Err-clause-still : goal.returns-in-Err-clause-still
returns-in-Err-clause-still c = λ j known.
    let s = c.self.inside in
    let t : TagTreeRead = record { shape = record { width = s.levels.width; height = s.levels.height }; nodes = s.nodes.items; failed = s.failed } in
    known_on t c.args.self.now c.walk.new.nodes.items j c.self.view_is c.walk.ensures.still known

pub returns-in-Some-clause-still : goal.returns-in-Some-clause-still
returns-in-Some-clause-still c = λ j known. known

pub returns-in-Ok-clause-only : goal.returns-in-Ok-clause-only
returns-in-Ok-clause-only c = λ v queries rest none st first.
    let q : Query = record { leaf = c.args.leaf; threshold = c.args.threshold } in
    let long : length c.args.self.now.nodes ≡ count c.args.self.now.shape = subst (λ (x : TagTreeRead). length x.nodes ≡ count x.shape) c.self.view_is c.self.invariant.2 in
    let law = only_law q c.args.self.now c.args.reader.now v queries rest c.requires long none st first in
    let both = sym law.1 ∙ exact_ok c in
    answer_same c.args.self.now v queries q c.args.reader.now law.0 _ (let same : law.0 ≡ _ = cc in same) law.2

pub returns-in-Ok-clause-found : goal.returns-in-Ok-clause-found
returns-in-Ok-clause-found c = λ queries reached.
    let s = c.self.inside in
    let q : Query = record { leaf = c.args.leaf; threshold = c.args.threshold } in
    let t : TagTreeRead = record { shape = record { width = s.levels.width; height = s.levels.height }; nodes = s.nodes.items; failed = s.failed } in
    let less : c.args.leaf < t.shape.width * t.shape.height = subst (λ (x : TagTreeRead). c.args.leaf < x.shape.width * x.shape.height) (sym c.self.view_is) c.requires in
    let was = subst (λ (x : TagTreeRead). AreToldBySome x.shape queries x.nodes) (sym c.self.view_is) reached in
    let law = found_law q t c.args.reader.now (c.in-Ok.below, (c.walk.new.nodes.items, c.walk.new.reader)) queries less c.self.invariant.2 c.in_default.is (walked c) was in (
      law.0,
      λ v st. subst (λ (x : TagTreeRead). IsAnswer x v queries q c.args.reader.now (record t { nodes = c.walk.new.nodes.items }) c.walk.new.reader c.in-Ok.below) c.self.view_is (law.1 v st),
    )

pub returns-in-Err-clause-exact : goal.returns-in-Err-clause-exact
returns-in-Err-clause-exact c =
    let s = c.self.inside in
    let q : Query = record { leaf = c.args.leaf; threshold = c.args.threshold } in
    let t : TagTreeRead = record { shape = record { width = s.levels.width; height = s.levels.height }; nodes = s.nodes.items; failed = s.failed } in
    ap (λ (x : TagTreeRead). ask_at q (x, c.args.reader.now)) (sym c.self.view_is)
    ∙ ask_at-err q t c.args.reader.now c.in-Err.fault c.in_default.is
    (ap (λ k. walk t.shape q (k + 1) 0 s.nodes.items c.args.reader.now) (sym c.self.invariant.0) ∙ c.in-Err.ensures.exact)

pub returns-in-Err-clause-only : goal.returns-in-Err-clause-only
returns-in-Err-clause-only c = λ v queries rest none st first.
    let q : Query = record { leaf = c.args.leaf; threshold = c.args.threshold } in
    let s = c.self.inside in
    let t : TagTreeRead = record { shape = record { width = s.levels.width; height = s.levels.height }; nodes = s.nodes.items; failed = s.failed } in
    let long : length c.args.self.now.nodes ≡ count c.args.self.now.shape = subst (λ (x : TagTreeRead). length x.nodes ≡ count x.shape) c.self.view_is c.self.invariant.2 in
    let law = only_law q c.args.self.now c.args.reader.now v queries rest c.requires long none st first in
    let exact : ask_at q (c.args.self.now, c.args.reader.now) ≡ Err c.in-Err.fault =
    ap (λ (x : TagTreeRead). ask_at q (x, c.args.reader.now)) (sym c.self.view_is)
    ∙ ask_at-err q t c.args.reader.now c.in-Err.fault c.in_default.is
    (ap (λ k. walk t.shape q (k + 1) 0 s.nodes.items c.args.reader.now) (sym c.self.invariant.0) ∙ c.in-Err.ensures.exact) in
    let clash : Ok law.0 ≡ Err c.in-Err.fault = sym law.1 ∙ exact in
    cc

pub returns-in-Err-clause-stays : goal.returns-in-Err-clause-stays
returns-in-Err-clause-stays c = let none = ap (λ (x : TagTreeRead). x.failed) (sym c.self.view_is) ∙ c.in_default.is in rw none tt

pub returns-in-Ok-clause-stays : goal.returns-in-Ok-clause-stays
returns-in-Ok-clause-stays c = let none = ap (λ (x : TagTreeRead). x.failed) (sym c.self.view_is) ∙ c.in_default.is in rw none tt

pub returns-in-Some-clause-stays : goal.returns-in-Some-clause-stays
returns-in-Some-clause-stays c = let some = ap (λ (x : TagTreeRead). x.failed) (sym c.self.view_is) ∙ c.in-Some.is in rw some (refl, refl, refl)
