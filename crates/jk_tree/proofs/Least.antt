-- After any queries that went well some tree stands: the least of those that fit.
use Rattle.std.proofs.Common.{◌≡◌, ℕ, zero, suc, ◌+◌, ◌-◌, ◌*◌, ◌/◌, ◌<◌, ◌≤◌, max, Bool, true, false, cond, List, [], ◌∷◌, ◌++◌, length, set, refl, sym, ap, ◌∙◌, subst, inl, inr, arith}
use Rattle.std.specs.Prelude.{◌&&◌, ◌==◌, ◌⊎◌, nat_le}
use Rattle.std.proofs.lemmas.Bool.{cases_Bool, cases_eq, cases_lt}
use Rattle.std.proofs.lemmas.Bool.Decides.{nat_tests}
use Rattle.std.proofs.lemmas.List.{get_or-set_same, get_or-set_other, length-set}
use Rattle.jk_tree.specs.TagTree.{Shape, top, node_number, count, column, row, IsNode, Values, above, Query, passes, asked}
use Rattle.jk_tree.specs.declared.node.Node.{Node}
use Rattle.jk_tree.specs.Asking.{node_at}
use Rattle.jk_tree.proofs.Visits.{IsAsked, Knows, below_known}
use Rattle.jk_tree.proofs.Places.{same_place, place_counted, path_node, passes_at, column_up, row_up, up_node}
use Rattle.jk_tree.proofs.Walks.{half, half_all, half_at, half_less, half_other, apart_places, cases_on_way, above_way}
use Rattle.jk_tree.proofs.Finds.{way}

-- A known node is under a known node whose value isn't above it.
abbrev pub IsChained : Shape → List Node → Type 0
IsChained s nodes = (j x y : ℕ) → IsNode s j x y → j < top s → (node_at nodes (node_number s j x y)).known ≡ true
    → ((node_at nodes (node_number s (j + 1) (x / 2) (y / 2))).known ≡ true) × ((node_at nodes (node_number s (j + 1) (x / 2) (y / 2))).low ≤ (node_at nodes (node_number s j x y)).low)

-- the greatest low of a node and of those above it
unfoldable pub least_up : Shape → List Node → ℕ → ℕ → ℕ → ℕ → ℕ
least_up s nodes zero j x y = (node_at nodes (node_number s j x y)).low
least_up s nodes (suc up) j x y = max (node_at nodes (node_number s j x y)).low (least_up s nodes up (j + 1) (x / 2) (y / 2))

-- the least tree that the nodes stand for
unfoldable pub least : Shape → List Node → Values
least s nodes = λ j x y. least_up s nodes (top s - j) j x y

-- a node is its own low or the node above
pub least_step : (s : Shape) (nodes : List Node) (j x y : ℕ) → j ≤ top s → least s nodes j x y ≡ max (node_at nodes (node_number s j x y)).low (above s (least s nodes) j x y)
unfolding least least_up
least_step s nodes j x y level =
    elim (cases_eq j (top s)) [
      | inl at ↦
          let test : (j == top s) ≡ true = grind (arith, nat_tests) in
          let none : top s - j ≡ 0 = omega (arith, at) in
          let own : least_up s nodes (top s - j) j x y ≡ (node_at nodes (node_number s j x y)).low = ap (λ u. least_up s nodes u j x y) none in
          let root : above s (least s nodes) j x y ≡ 0 = ap (λ (b : Bool). cond b 0 (least s nodes (j + 1) (x / 2) (y / 2))) test in
          omega (arith, own, root)
      | inr apart ↦
          let test : (j == top s) ≡ false = grind (arith, nat_tests) in
          let one_more : top s - j ≡ suc (top s - (j + 1)) = omega (arith, level, apart) in
          let own : least_up s nodes (top s - j) j x y ≡ max (node_at nodes (node_number s j x y)).low (least_up s nodes (top s - (j + 1)) (j + 1) (x / 2) (y / 2)) = ap (λ u. least_up s nodes u j x y) one_more in
          let up : above s (least s nodes) j x y ≡ least s nodes (j + 1) (x / 2) (y / 2) = ap (λ (b : Bool). cond b 0 (least s nodes (j + 1) (x / 2) (y / 2))) test in
          omega (arith, own, up)
    ]

least_known_up : (s : Shape) (nodes : List Node) → IsChained s nodes → (up j x y : ℕ) → j + up ≡ top s → IsNode s j x y → (node_at nodes (node_number s j x y)).known ≡ true → least_up s nodes up j x y ≡ (node_at nodes (node_number s j x y)).low
unfolding least_up
least_known_up s nodes chain zero j x y e n h = refl
least_known_up s nodes chain (suc up) j x y e n h =
    let below : j < top s = omega (arith, e) in
    let c = chain j x y n below h in
    let rest = least_known_up s nodes chain up (j + 1) (x / 2) (y / 2) (omega (arith, e)) (up_node s j x y n below) c.0 in
    let low = c.1 in
    omega (arith, rest, low)

-- a known node is the greatest of those above it
pub least_known : (s : Shape) (nodes : List Node) → IsChained s nodes → (j x y : ℕ) → IsNode s j x y → (node_at nodes (node_number s j x y)).known ≡ true → least s nodes j x y ≡ (node_at nodes (node_number s j x y)).low
unfolding least
least_known s nodes chain j x y n h = least_known_up s nodes chain (top s - j) j x y (let l = n.level in omega (arith, l)) n h

-- A greater low makes no node less.
least_up_grows : (s : Shape) (nodes more : List Node) → ((p : ℕ) → (node_at nodes p).low ≤ (node_at more p).low) → (up j x y : ℕ) → least_up s nodes up j x y ≤ least_up s more up j x y
unfolding least_up
least_up_grows s nodes more h zero j x y = h (node_number s j x y)
least_up_grows s nodes more h (suc up) j x y =
    let own = h (node_number s j x y) in
    let rest = least_up_grows s nodes more h up (j + 1) (x / 2) (y / 2) in
    omega (arith, own, rest)

pub least_grows : (s : Shape) (nodes more : List Node) → ((p : ℕ) → (node_at nodes p).low ≤ (node_at more p).low) → (j x y : ℕ) → least s nodes j x y ≤ least s more j x y
unfolding least
least_grows s nodes more h j x y = least_up_grows s nodes more h (top s - j) j x y

-- a node on the way isn't above what the least tree has below it
least_way_more : (s : Shape) (nodes : List Node) (q : Query) (j more : ℕ) → j + more ≤ top s → (node_at nodes (way s q (j + more))).low ≤ least s nodes j (column s q.leaf j) (row s q.leaf j)
least_way_more s nodes q j zero level =
    let own = least_step s nodes j (column s q.leaf j) (row s q.leaf j) (omega (arith, level)) in
    let at = ap (λ k. (node_at nodes (way s q k)).low) (let e : j + 0 ≡ j = omega arith in e) in
    omega (arith, own, at)
least_way_more s nodes q j (suc more) level =
    let rest = least_way_more s nodes q (suc j) more (omega (arith, level)) in
    let at = ap (λ k. (node_at nodes (way s q k)).low) (let e : j + suc more ≡ suc j + more = omega arith in e) in
    let own = least_step s nodes j (column s q.leaf j) (row s q.leaf j) (omega (arith, level)) in
    let up = above_way s (least s nodes) q.leaf j (omega (arith, level)) in
    omega (arith, rest, at, own, up)

pub least_way : (s : Shape) (nodes : List Node) (q : Query) (i j : ℕ) → j ≤ i → i ≤ top s → (node_at nodes (way s q i)).low ≤ least s nodes j (column s q.leaf j) (row s q.leaf j)
least_way s nodes q i j low level =
    let at = ap (λ k. (node_at nodes (way s q k)).low) (let e : j + (i - j) ≡ i = omega (arith, low) in e) in
    let more = least_way_more s nodes q j (i - j) (omega (arith, low, level)) in
    omega (arith, at, more)

pub half_past : (s : Shape) (queries : List Query) (q : Query) (i j x y : ℕ) → passes s q.leaf j x y ≡ false → half s queries q i j x y ≡ asked s queries j x y
half_past s queries q i j x y past = ap (λ (b : Bool). max (asked s queries j x y) (cond (nat_le i j && b) q.threshold 0)) past ∙ none (nat_le i j) (asked s queries j x y)
  where
    none : (b : Bool) (a : ℕ) → max a (cond (b && false) q.threshold 0) ≡ a
    none true a = omega arith
    none false a = omega arith

pub half_through : (s : Shape) (queries : List Query) (q : Query) (i j x y : ℕ) → i ≤ j → passes s q.leaf j x y ≡ true → half s queries q i j x y ≡ max (asked s queries j x y) q.threshold
half_through s queries q i j x y from through =
    ap (λ (b : Bool). max (asked s queries j x y) (cond (b && passes s q.leaf j x y) q.threshold 0)) (let e : nat_le i j ≡ true = grind (arith, nat_tests) in e)
    ∙ ap (λ (b : Bool). max (asked s queries j x y) (cond b q.threshold 0)) through

-- what is known of all nodes after queries
pub record StandsAsked (s : Shape) (queries : List Query) (nodes : List Node) : Type 0 where
  pub long : length nodes ≡ count s
  pub chained : IsChained s nodes
  pub is_asked : (j x y : ℕ) → IsNode s j x y → IsAsked (node_at nodes (node_number s j x y)) (asked s queries j x y) (least s nodes j x y)

-- the nodes in the midst of a walk, of which the levels below i are left
pub record Midway (s : Shape) (queries : List Query) (q : Query) (i over : ℕ) (nodes : List Node) : Type 0 where
  pub long : length nodes ≡ count s
  pub is_asked : (j x y : ℕ) → IsNode s j x y → IsAsked (node_at nodes (node_number s j x y)) (half s queries q i j x y) (least s nodes j x y)
  pub chained : IsChained s nodes
  pub root : i ≡ suc (top s) → over ≡ 0
  pub over_is : i ≤ top s → ((node_at nodes (way s q i)).known ≡ true) × (over ≡ (node_at nodes (way s q i)).low) × (over < q.threshold)

module _ (s : Shape) (queries : List Query) (q : Query) (less : q.leaf < s.width * s.height) where
  up_way : (i : ℕ) → node_number s (i + 1) (column s q.leaf i / 2) (row s q.leaf i / 2) ≡ way s q (suc i)
  up_way i =
      ap (λ x. node_number s (i + 1) x (row s q.leaf i / 2)) (column_up s q.leaf i)
      ∙ ap (λ y. node_number s (i + 1) (column s q.leaf (i + 1)) y) (row_up s q.leaf i)
      ∙ ap (λ k. node_number s k (column s q.leaf k) (row s q.leaf k)) (let e : i + 1 ≡ suc i = omega arith in e)

  -- a place of a level above isn't that of level i on the way
  up_apart : (i : ℕ) → i ≤ top s → (x y : ℕ) → IsNode s (i + 1) x y → node_number s (i + 1) x y ≡ way s q i → ⊥
  up_apart i level x y n e =
      let same = same_place s (i + 1) x y i (column s q.leaf i) (row s q.leaf i) n (path_node s q.leaf i less level) e in
      let equal = same.0 in
      omega (arith, equal)

  module _ (i over : ℕ) (nodes : List Node) (node : Node) (level : i ≤ top s) (m : Midway s queries q (suc i) over nodes)
      (k : Knows over (asked s queries i (column s q.leaf i) (row s q.leaf i)) q.threshold (node_at nodes (way s q i)) node) where
    own_within : way s q i < length nodes
    own_within = let e = m.long in let f = place_counted s i (column s q.leaf i) (row s q.leaf i) (path_node s q.leaf i less level) in omega (arith, e, f)

    at_own : node_at (set nodes (way s q i) node) (way s q i) ≡ node
    at_own = get_or-set_same nodes (way s q i) node _ own_within

    at_other : (p : ℕ) → (p ≡ way s q i → ⊥) → node_at (set nodes (way s q i) node) p ≡ node_at nodes p
    at_other p apart = get_or-set_other nodes (way s q i) p node _ apart

    lows_at : (p : ℕ) → (node_at nodes p).low ≤ (node_at (set nodes (way s q i) node) p).low
    lows_at p = elim (cases_eq p (way s q i)) [
      | inl same ↦
          let own : node_at (set nodes (way s q i) node) p ≡ node = ap (node_at (set nodes (way s q i) node)) same ∙ at_own in
          let was : node_at nodes p ≡ node_at nodes (way s q i) = ap (node_at nodes) same in
          let grows = k.lows in
          let a = ap (λ (z : Node). z.low) own in
          let b = ap (λ (z : Node). z.low) was in
          omega (arith, grows, a, b)
      | inr apart ↦ (let a = ap (λ (z : Node). z.low) (at_other p apart) in omega (arith, a))
    ]

    grows : (j x y : ℕ) → least s nodes j x y ≤ least s (set nodes (way s q i) node) j x y
    grows j x y = least_grows s nodes (set nodes (way s q i) node) lows_at j x y

    -- what was known stays
    known_stays : (p : ℕ) → (node_at nodes p).known ≡ true → node_at (set nodes (way s q i) node) p ≡ node_at nodes p
    known_stays p h =
        elim (cases_eq p (way s q i)) [
          | inl same ↦ ap (node_at (set nodes (way s q i) node)) same ∙ at_own ∙ k.keeps (subst (λ z. (node_at nodes z).known ≡ true) same h) ∙ ap (node_at nodes) (sym same)
          | inr apart ↦ at_other p apart
        ]

    -- a node that isn't visited
    asked_other : (z : Node) (a b : ℕ) (j x y : ℕ) → a ≡ b → IsAsked z b (least s nodes j x y) → IsAsked z a (least s (set nodes (way s q i) node) j x y)
    asked_other z a b j x y e was = record {
      closed = λ h. (let c = was.closed h in omega (arith, c, e));
      still_open = λ h. (let o = was.still_open h in let g = grows j x y in (omega (arith, o.0, e), omega (arith, o.1, e, g)));
    }

    own_asked : IsAsked node (max (asked s queries i (column s q.leaf i) (row s q.leaf i)) q.threshold) (least s (set nodes (way s q i) node) i (column s q.leaf i) (row s q.leaf i))
    own_asked = record {
      closed = k.closed;
      still_open = λ n. (let o = k.still_open n in (o.0, by_asked n o.1));
    }
      where
        by_asked : node.known ≡ false → q.threshold ≤ node.low → max (asked s queries i (column s q.leaf i) (row s q.leaf i)) q.threshold ≤ max node.low (least s (set nodes (way s q i) node) i (column s q.leaf i) (row s q.leaf i))
        by_asked n high =
            let x = column s q.leaf i in
            let y = row s q.leaf i in
            let was : IsAsked (node_at nodes (way s q i)) (asked s queries i x y) (least s nodes i x y) =
            subst (λ a. IsAsked (node_at nodes (way s q i)) a (least s nodes i x y)) (half_less s queries q (suc i) i x y (omega arith)) (m.is_asked i x y (path_node s q.leaf i less level)) in
            let g = grows i x y in
            let lows = k.lows in
            elim (cases_Bool (node_at nodes (way s q i)).known) [
              | inl h ↦ absurd (let f : true ≡ false = sym h ∙ ap (λ (z : Node). z.known) (sym (k.keeps h)) ∙ n in cc)
              | inr h ↦ (let o = was.still_open h in omega (arith, high, o.1, g, lows))
            ]

    asked_on : (j x y : ℕ) → IsNode s j x y → IsAsked (node_at (set nodes (way s q i) node) (node_number s j x y)) (half s queries q i j x y) (least s (set nodes (way s q i) node) j x y)
    asked_on j x y n =
        let new = set nodes (way s q i) node in
        elim (cases_on_way s q.leaf i j x y) [
          | inl is ↦
              subst (λ j'. IsAsked (node_at new (node_number s j' x y)) (half s queries q i j' x y) (least s new j' x y)) (sym is.0)
              (subst (λ x'. IsAsked (node_at new (node_number s i x' y)) (half s queries q i i x' y) (least s new i x' y)) is.1
              (subst (λ y'. IsAsked (node_at new (node_number s i (column s q.leaf i) y')) (half s queries q i i (column s q.leaf i) y') (least s new i (column s q.leaf i) y')) is.2
              (subst (λ a. IsAsked (node_at new (way s q i)) a (least s new i (column s q.leaf i) (row s q.leaf i))) (sym (half_at s queries q i i (omega arith)))
              (subst (λ z. IsAsked z (max (asked s queries i (column s q.leaf i) (row s q.leaf i)) q.threshold) (least s new i (column s q.leaf i) (row s q.leaf i))) (sym at_own) own_asked))))
          | inr other ↦
              subst (λ z. IsAsked z (half s queries q i j x y) (least s new j x y)) (sym (at_other (node_number s j x y) (apart_places s q.leaf i j x y less level n other)))
              (asked_other (node_at nodes (node_number s j x y)) (half s queries q i j x y) (half s queries q (suc i) j x y) j x y (half_other s queries q i j x y other) (m.is_asked j x y n))
        ]

    -- a chain that stood before
    old_chain : (j x y : ℕ) → IsNode s j x y → j < top s → (node_at nodes (node_number s j x y)).known ≡ true → node_at (set nodes (way s q i) node) (node_number s j x y) ≡ node_at nodes (node_number s j x y)
        → ((node_at (set nodes (way s q i) node) (node_number s (j + 1) (x / 2) (y / 2))).known ≡ true) × ((node_at (set nodes (way s q i) node) (node_number s (j + 1) (x / 2) (y / 2))).low ≤ (node_at (set nodes (way s q i) node) (node_number s j x y)).low)
    old_chain j x y n low h same =
        let c = m.chained j x y n low h in
        let up = known_stays (node_number s (j + 1) (x / 2) (y / 2)) c.0 in (
          ap (λ (z : Node). z.known) up ∙ c.0,
          subst (λ (z : Node). z.low ≤ (node_at (set nodes (way s q i) node) (node_number s j x y)).low) (sym up) (subst (λ (z : Node). (node_at nodes (node_number s (j + 1) (x / 2) (y / 2))).low ≤ z.low) (sym same) c.1),
        )

    -- the node that was just visited, where it wasn't known before
    new_chain : i < top s → (node_at nodes (way s q i)).known ≡ false → node.known ≡ true
        → ((node_at (set nodes (way s q i) node) (way s q (suc i))).known ≡ true) × ((node_at (set nodes (way s q i) node) (way s q (suc i))).low ≤ node.low)
    new_chain low before now =
        let g = k.grows before now in
        let up = m.over_is (omega (arith, low)) in
        let stays = known_stays (way s q (suc i)) up.0 in (
          ap (λ (z : Node). z.known) stays ∙ up.0,
          subst (λ (z : Node). z.low ≤ node.low) (sym stays) (let a = g.0 in let e = up.1 in omega (arith, a, e)),
        )

    chained_on : IsChained s (set nodes (way s q i) node)
    chained_on j x y n low h =
        elim (cases_on_way s q.leaf i j x y) [
          | inl is ↦ own_chain j x y n low h is (cases_Bool (node_at nodes (node_number s j x y)).known)
          | inr other ↦
              let same = at_other (node_number s j x y) (apart_places s q.leaf i j x y less level n other) in
              old_chain j x y n low (sym (ap (λ (z : Node). z.known) same) ∙ h) same
        ]
      where
        own_chain : (j x y : ℕ) → IsNode s j x y → j < top s → (node_at (set nodes (way s q i) node) (node_number s j x y)).known ≡ true → (j ≡ i) × (column s q.leaf i ≡ x) × (row s q.leaf i ≡ y)
            → ((node_at nodes (node_number s j x y)).known ≡ true) ⊎ ((node_at nodes (node_number s j x y)).known ≡ false)
            → ((node_at (set nodes (way s q i) node) (node_number s (j + 1) (x / 2) (y / 2))).known ≡ true) × ((node_at (set nodes (way s q i) node) (node_number s (j + 1) (x / 2) (y / 2))).low ≤ (node_at (set nodes (way s q i) node) (node_number s j x y)).low)
        own_chain j x y n low h is (inl before) = old_chain j x y n low before (known_stays (node_number s j x y) before)
        own_chain j x y n low h is (inr before) =
            let at : node_number s j x y ≡ way s q i = ap (λ j'. node_number s j' x y) is.0 ∙ ap (λ x'. node_number s i x' y) (sym is.1) ∙ ap (λ y'. node_number s i (column s q.leaf i) y') (sym is.2) in
            let up : node_number s (j + 1) (x / 2) (y / 2) ≡ way s q (suc i) =
            ap (λ j'. node_number s (j' + 1) (x / 2) (y / 2)) is.0 ∙ ap (λ x'. node_number s (i + 1) (x' / 2) (y / 2)) (sym is.1) ∙ ap (λ y'. node_number s (i + 1) (column s q.leaf i / 2) (y' / 2)) (sym is.2) ∙ up_way i in
            let own : node_at (set nodes (way s q i) node) (node_number s j x y) ≡ node = ap (node_at (set nodes (way s q i) node)) at ∙ at_own in
            let c = new_chain (subst (λ j'. j' < top s) is.0 low) (sym (ap (λ p. (node_at nodes p).known) at) ∙ before) (sym (ap (λ (z : Node). z.known) own) ∙ h) in (
              ap (λ p. (node_at (set nodes (way s q i) node) p).known) up ∙ c.0,
              subst (λ p. (node_at (set nodes (way s q i) node) p).low ≤ (node_at (set nodes (way s q i) node) (node_number s j x y)).low) (sym up)
                  (subst (λ (z : Node). (node_at (set nodes (way s q i) node) (way s q (suc i))).low ≤ z.low) (sym own) c.1),
            )

    pub midway_on : node.low < q.threshold → Midway s queries q i node.low (set nodes (way s q i) node)
    midway_on under = record {
      long = length-set nodes (way s q i) node ∙ m.long;
      is_asked = asked_on;
      chained = chained_on;
      root = λ at. absurd (omega (arith, at, level));
      over_is = λ _. (ap (λ (z : Node). z.known) at_own ∙ below_known over (asked s queries i (column s q.leaf i) (row s q.leaf i)) q.threshold (node_at nodes (way s q i)) node k under, ap (λ (z : Node). z.low) (sym at_own), under);
    }

    -- what stands once the walk has stopped at this node
    pub midway_stop : q.threshold ≤ node.low → StandsAsked s (queries ++ q ∷ []) (set nodes (way s q i) node)
    midway_stop high = record {
      long = length-set nodes (way s q i) node ∙ m.long;
      chained = chained_on;
      is_asked = λ j x y n. by_way j x y n (cases_Bool (passes s q.leaf j x y)) (cases_lt j i);
    }
      where
        new : List Node
        new = set nodes (way s q i) node

        by_way : (j x y : ℕ) → IsNode s j x y → (passes s q.leaf j x y ≡ true) ⊎ (passes s q.leaf j x y ≡ false) → (j < i) ⊎ (i ≤ j)
            → IsAsked (node_at new (node_number s j x y)) (asked s (queries ++ q ∷ []) j x y) (least s new j x y)
        by_way j x y n (inr past) order =
            subst (λ a. IsAsked (node_at new (node_number s j x y)) a (least s new j x y))
            (half_past s queries q i j x y past ∙ sym (half_past s queries q 0 j x y past) ∙ half_all s queries q j x y) (asked_on j x y n)
        by_way j x y n (inl through) (inr from) =
            subst (λ a. IsAsked (node_at new (node_number s j x y)) a (least s new j x y))
            (half_through s queries q i j x y from through ∙ sym (half_through s queries q 0 j x y (omega arith) through) ∙ half_all s queries q j x y) (asked_on j x y n)
        by_way j x y n (inl through) (inl under) =
            let was : IsAsked (node_at new (node_number s j x y)) (asked s queries j x y) (least s new j x y) = subst (λ a. IsAsked (node_at new (node_number s j x y)) a (least s new j x y)) (half_less s queries q i j x y under) (asked_on j x y n) in
            let all : max (asked s queries j x y) q.threshold ≡ asked s (queries ++ q ∷ []) j x y = sym (half_through s queries q 0 j x y (omega arith) through) ∙ half_all s queries q j x y in
            let at = passes_at s q.leaf j x y through in
            let over : node.low ≤ least s new j x y =
            subst (λ x'. node.low ≤ least s new j x' y) at.0 (subst (λ y'. node.low ≤ least s new j (column s q.leaf j) y') at.1 (let w = least_way s new q i j (omega (arith, under)) level in let e = ap (λ (z : Node). z.low) at_own in omega (arith, w, e))) in
            subst (λ a. IsAsked (node_at new (node_number s j x y)) a (least s new j x y)) all record {
              closed = λ h. (let c = was.closed h in omega (arith, c));
              still_open = λ h. (let o = was.still_open h in (omega (arith, o.0), omega (arith, o.1, high, over)));
            }
