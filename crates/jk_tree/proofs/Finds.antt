-- The levels of a walk that went well: which nodes it changes, and what it knows at its end.
use Rattle.std.proofs.Common.{◌≡◌, ℕ, zero, suc, ◌*◌, ◌<◌, ◌≤◌, Bool, true, false, cond, List, length, set, Result, Ok, Err, refl, sym, ap, ◌∙◌, subst, inl, inr, arith}
use Rattle.std.specs.Prelude.{◌⊎◌, nat_lt}
use Rattle.std.proofs.lemmas.Bool.{cases_eq, cases_lt}
use Rattle.std.proofs.lemmas.Bool.Decides.{nat_tests}
use Rattle.std.proofs.lemmas.List.{get_or-set_same, get_or-set_other, length-set}
use Rattle.jk_math.specs.Answer.{◌>>=◌}
use Rattle.jk_math.specs.declared.fault.Fault.{Fault}
use Rattle.jk_bits.specs.Reading.{Bits}
use Rattle.jk_tree.specs.TagTree.{Shape, top, node_number, count, column, row, Query}
use Rattle.jk_tree.specs.declared.node.Node.{Node}
use Rattle.jk_tree.specs.Asking.{node_at, visit, walk}
use Rattle.jk_tree.proofs.Visits.{visit_stays, visit_known}
use Rattle.jk_tree.proofs.Places.{same_place, place_counted, path_node}
use Rattle.jk_tree.proofs.Walks.{walk_over, walk_level}

-- the place of the node of level i on the way
abbrev pub way : Shape → Query → ℕ → ℕ
way s q i = node_number s i (column s q.leaf i) (row s q.leaf i)

pub way_apart : (s : Shape) (q : Query) → q.leaf < s.width * s.height → (i k : ℕ) → i ≤ top s → k ≤ top s → k < i → way s q k ≡ way s q i → ⊥
way_apart s q less i k level low under e =
    let same = same_place s k (column s q.leaf k) (row s q.leaf k) i (column s q.leaf i) (row s q.leaf i) (path_node s q.leaf k less low) (path_node s q.leaf i less level) e in
    let equal = same.0 in
    omega (arith, equal, under)

-- One level of a walk that went well: it goes on below a node that is below the threshold, and ends at another.
pub record Steps (s : Shape) (q : Query) (i over : ℕ) (nodes : List Node) (r : Bits) (out : Bool × (List Node × Bits)) : Type 0 where
  pub node : Node
  pub mid : Bits
  pub visited : visit (node_at nodes (way s q i)) over q.threshold r ≡ Ok (node, mid)
  pub next : ((node.low < q.threshold) × (walk s q i node.low (set nodes (way s q i) node) mid ≡ Ok out))
      ⊎ ((q.threshold ≤ node.low) × ((false, (set nodes (way s q i) node, mid)) ≡ out))

steps_next : (s : Shape) (q : Query) (i over : ℕ) (nodes : List Node) (r : Bits) (out : Bool × (List Node × Bits)) (e : Node × Bits) → visit (node_at nodes (way s q i)) over q.threshold r ≡ Ok e
    → cond (nat_lt e.0.low q.threshold) (walk s q i e.0.low (set nodes (way s q i) e.0) e.1) (Ok (false, (set nodes (way s q i) e.0, e.1))) ≡ Ok out → Steps s q i over nodes r out
steps_next s q i over nodes r out e v h =
    elim (cases_lt e.0.low q.threshold) [
      | inl less ↦
          let test : nat_lt e.0.low q.threshold ≡ true = grind (arith, nat_tests) in
          record {
            node = e.0;
            mid = e.1;
            visited = v;
            next = inl (less, sym (ap (λ (b : Bool). cond b (walk s q i e.0.low (set nodes (way s q i) e.0) e.1) (Ok (false, (set nodes (way s q i) e.0, e.1)))) test) ∙ h);
          }
      | inr high ↦
          let test : nat_lt e.0.low q.threshold ≡ false = grind (arith, nat_tests) in
          let ends : Ok (false, (set nodes (way s q i) e.0, e.1)) ≡ Ok out = sym (ap (λ (b : Bool). cond b (walk s q i e.0.low (set nodes (way s q i) e.0) e.1) (Ok (false, (set nodes (way s q i) e.0, e.1)))) test) ∙ h in
          record { node = e.0; mid = e.1; visited = v; next = inr (high, cc) }
    ]

steps_from : (s : Shape) (q : Query) (i over : ℕ) (nodes : List Node) (r : Bits) (out : Bool × (List Node × Bits)) (o : Result (Node × Bits) Fault) → visit (node_at nodes (way s q i)) over q.threshold r ≡ o
    → (o >>= (λ e. cond (nat_lt e.0.low q.threshold) (walk s q i e.0.low (set nodes (way s q i) e.0) e.1) (Ok (false, (set nodes (way s q i) e.0, e.1))))) ≡ Ok out → Steps s q i over nodes r out
steps_from s q i over nodes r out (Ok e) v h = steps_next s q i over nodes r out e v h
steps_from s q i over nodes r out (Err f) v h = absurd (cc)

pub steps : (s : Shape) (q : Query) (i over : ℕ) (nodes : List Node) (r : Bits) (out : Bool × (List Node × Bits)) → walk s q (suc i) over nodes r ≡ Ok out → Steps s q i over nodes r out
steps s q i over nodes r out h =
    let o = visit (node_at nodes (way s q i)) over q.threshold r in
    steps_from s q i over nodes r out o refl (sym (walk_level s q i over nodes r o refl) ∙ h)

pub walk_end : (s : Shape) (q : Query) (over : ℕ) (nodes : List Node) (r : Bits) (out : Bool × (List Node × Bits)) → walk s q 0 over nodes r ≡ Ok out → (true, (nodes, r)) ≡ out
walk_end s q over nodes r out h = let same : Ok (true, (nodes, r)) ≡ Ok out = sym (walk_over s q over nodes r) ∙ h in cc

-- The nodes elsewhere stay, and there are as many.
pub walk_keeps : (s : Shape) (q : Query) (i over : ℕ) (nodes : List Node) (r : Bits) (out : Bool × (List Node × Bits)) (p : ℕ) → walk s q i over nodes r ≡ Ok out → ((k : ℕ) → k < i → p ≡ way s q k → ⊥)
    → (node_at out.1.0 p ≡ node_at nodes p) × (length out.1.0 ≡ length nodes)
walk_keeps s q zero over nodes r out p h apart =
    let same : nodes ≡ out.1.0 = ap (λ (o : Bool × (List Node × Bits)). o.1.0) (walk_end s q over nodes r out h) in
    (ap (λ (ns : List Node). node_at ns p) (sym same), ap length (sym same))
walk_keeps s q (suc i) over nodes r out p h apart =
    let t = steps s q i over nodes r out h in
    let new = set nodes (way s q i) t.node in
    let here : (node_at new p ≡ node_at nodes p) × (length new ≡ length nodes) = (get_or-set_other nodes (way s q i) p t.node _ (apart i (omega arith)), length-set nodes (way s q i) t.node) in
    elim t.next [
      | inl on ↦ (let later = walk_keeps s q i t.node.low new t.mid out p on.1 (λ k less e. apart k (omega (arith, less)) e) in (later.0 ∙ here.0, later.1 ∙ here.1))
      | inr stop ↦
          (let same : new ≡ out.1.0 = ap (λ (o : Bool × (List Node × Bits)). o.1.0) stop.1 in
          (ap (λ (ns : List Node). node_at ns p) (sym same) ∙ here.0, ap length (sym same) ∙ here.1))
    ]

-- A walk to the leaf knows all nodes on its way, and that they are below the threshold.
pub walk_through : (s : Shape) (q : Query) → q.leaf < s.width * s.height → (i over : ℕ) (nodes : List Node) (r : Bits) (out : Bool × (List Node × Bits)) → i ≤ suc (top s) → length nodes ≡ count s
    → walk s q i over nodes r ≡ Ok out → out.0 ≡ true → (k : ℕ) → k < i → ((node_at out.1.0 (way s q k)).known ≡ true) × ((node_at out.1.0 (way s q k)).low < q.threshold)
walk_through s q less zero over nodes r out level long h goes k under = absurd (omega (arith, under))
walk_through s q less (suc i) over nodes r out level long h goes k under =
    let t = steps s q i over nodes r out h in
    let new = set nodes (way s q i) t.node in
    let in_tree : i ≤ top s = omega (arith, level) in
    elim t.next [
      | inl on ↦ elim (cases_eq k i) [
        | inr apart ↦ walk_through s q less i t.node.low new t.mid out (omega (arith, level)) (length-set nodes (way s q i) t.node ∙ long) on.1 goes k (omega (arith, under, apart))
        | inl same ↦
            let within : way s q i < length nodes = (let f = place_counted s i (column s q.leaf i) (row s q.leaf i) (path_node s q.leaf i less in_tree) in omega (arith, long, f)) in
            let kept = walk_keeps s q i t.node.low new t.mid out (way s q i) on.1 (λ j low e. way_apart s q less i j in_tree (omega (arith, in_tree, low)) low (sym e)) in
            let is : node_at out.1.0 (way s q k) ≡ t.node = ap (λ j. node_at out.1.0 (way s q j)) same ∙ kept.0 ∙ get_or-set_same nodes (way s q i) t.node _ within in (
              ap (λ (z : Node). z.known) is ∙ visit_known (node_at nodes (way s q i)) over q.threshold r (t.node, t.mid) t.visited on.0,
              (let e = ap (λ (z : Node). z.low) is in let b = on.0 in omega (arith, e, b)),
            )
      ]
      | inr stop ↦ absurd (let f : false ≡ true = ap (λ (o : Bool × (List Node × Bits)). o.0) stop.1 ∙ goes in cc)
    ]

-- What was known stays when a node is visited.
pub visit_keeps : (nodes : List Node) (at over t : ℕ) (r : Bits) (out : Node × Bits) → at < length nodes → visit (node_at nodes at) over t r ≡ Ok out
    → (p : ℕ) → (node_at nodes p).known ≡ true → node_at (set nodes at out.0) p ≡ node_at nodes p
visit_keeps nodes at over t r out within h p known =
    elim (cases_eq p at) [
      | inl same ↦
          let is : (node_at nodes at).known ≡ true = subst (λ k. (node_at nodes k).known ≡ true) same known in
          let stays : Ok out ≡ Ok (node_at nodes at, r) = sym h ∙ visit_stays (node_at nodes at) over t r (inl is) in
          let own : out.0 ≡ node_at nodes at = ap (λ (o : Node × Bits). o.0) (let e : out ≡ (node_at nodes at, r) = cc in e) in
          ap (node_at (set nodes at out.0)) same ∙ get_or-set_same nodes at out.0 _ within ∙ own ∙ ap (node_at nodes) (sym same)
      | inr apart ↦ get_or-set_other nodes at p out.0 _ apart
    ]
