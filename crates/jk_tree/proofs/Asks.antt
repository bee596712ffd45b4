-- A whole query: from the root to the leaf, after other queries.
use Rattle.std.proofs.Common.{◌≡◌, ℕ, zero, suc, ◌+◌, ◌-◌, ◌*◌, ◌/◌, ◌<◌, ◌≤◌, Bool, true, false, cond, List, [], ◌∷◌, ◌++◌, length, set, replicate, Ok, refl, sym, ap, ◌∙◌, subst, inl, inr, arith}
use Rattle.std.specs.Prelude.{◌==◌, ◌⊎◌, nat_lt}
use Rattle.std.proofs.lemmas.Bool.{cases_Bool, cases_eq}
use Rattle.std.proofs.lemmas.Bool.Decides.{nat_tests}
use Rattle.std.proofs.lemmas.List.{get_or-replicate}
use Rattle.jk_bits.specs.Reading.{Bits, ahead}
use Rattle.jk_tree.specs.TagTree.{Shape, top, node_number, count, column, row, IsNode, Values, above, IsTree, Query, asked, told, told_below, leaf_of}
use Rattle.jk_tree.specs.declared.node.Node.{Node}
use Rattle.jk_tree.specs.Asking.{HasTold, node_at, AreTold, AreToldBySome, walk}
use Rattle.jk_bits.specs.Giving.{GivesBits, advance}
use Rattle.jk_tree.proofs.Visits.{IsAsked, visit_knows}
use Rattle.jk_tree.proofs.Places.{place_counted, up_node}
use Rattle.jk_tree.proofs.Walks.{half_all, half_none, HalfTold, walk_told, over_root, not_top, asked_up}
use Rattle.jk_tree.proofs.Finds.{way, steps, walk_end}
use Rattle.jk_tree.proofs.Least.{IsChained, Midway, midway_on, midway_stop, StandsAsked, least, least_step, least_known}
use Rattle.jk_tree.proofs.Finding.{walk_found, own_asked}

-- The walk in the midst, to its end.
pub walk_midway : (s : Shape) (queries : List Query) (q : Query) → q.leaf < s.width * s.height → (i over : ℕ) (nodes : List Node) (r : Bits) (out : Bool × (List Node × Bits)) → i ≤ suc (top s)
    → Midway s queries q i over nodes → walk s q i over nodes r ≡ Ok out → StandsAsked s (queries ++ q ∷ []) out.1.0
walk_midway s queries q less zero over nodes r out level m h =
    subst (λ (ns : List Node). StandsAsked s (queries ++ q ∷ []) ns) (ap (λ (p : Bool × (List Node × Bits)). p.1.0) (walk_end s q over nodes r out h)) record {
      long = m.long;
      chained = m.chained;
      is_asked = λ j x y n. subst (λ a. IsAsked (node_at nodes (node_number s j x y)) a (least s nodes j x y)) (half_all s queries q j x y) (m.is_asked j x y n);
    }
walk_midway s queries q less (suc i) over nodes r out level m h =
    let st = steps s q i over nodes r out h in
    let in_tree : i ≤ top s = omega (arith, level) in
    let k = visit_knows over (asked s queries i (column s q.leaf i) (row s q.leaf i)) q.threshold over (node_at nodes (way s q i)) r (st.node, st.mid) (over_low i over nodes in_tree m) (own_asked s queries q less i over nodes in_tree m) st.visited in
    elim st.next [
      | inl on ↦ walk_midway s queries q less i st.node.low (set nodes (way s q i) st.node) st.mid out (omega (arith, level)) (midway_on s queries q less i over nodes st.node in_tree m k on.0) on.1
      | inr stop ↦
          subst (λ (ns : List Node). StandsAsked s (queries ++ q ∷ []) ns) (ap (λ (p : Bool × (List Node × Bits)). p.1.0) stop.1)
          (midway_stop s queries q less i over nodes st.node in_tree m k stop.0)
    ]
  where
    over_low : (i over : ℕ) (nodes : List Node) → i ≤ top s → Midway s queries q (suc i) over nodes → over ≤ q.threshold
    over_low i over nodes level m =
        elim (cases_eq i (top s)) [
          | inl at ↦ (let none = m.root (ap suc at) in omega (arith, none))
          | inr apart ↦ (let below = (m.over_is (omega (arith, level, apart))).2 in omega (arith, below))
        ]

least_tree : (s : Shape) (nodes : List Node) → IsTree s (least s nodes)
least_tree s nodes j x y n = let step = least_step s nodes j x y n.level in omega (arith, step)

pub least_stands : (s : Shape) (queries : List Query) (nodes : List Node) → StandsAsked s queries nodes → AreTold s (least s nodes) queries nodes
least_stands s queries nodes st = record {
  tree = least_tree s nodes;
  each = λ j x y n. by_known j x y n (cases_Bool (node_at nodes (node_number s j x y)).known);
}
  where
    by_known : (j x y : ℕ) → IsNode s j x y → ((node_at nodes (node_number s j x y)).known ≡ true) ⊎ ((node_at nodes (node_number s j x y)).known ≡ false)
        → HasTold (above s (least s nodes) j x y) (least s nodes j x y) (asked s queries j x y) (node_at nodes (node_number s j x y))
    by_known j x y n (inl h) =
        let value : least s nodes j x y ≡ (node_at nodes (node_number s j x y)).low = least_known s nodes st.chained j x y n h in
        let low = (st.is_asked j x y n).closed h in
        record {
          known = h ∙ sym (yes (least s nodes j x y) (asked s queries j x y) (omega (arith, value, low)));
          value = λ _. sym value;
          least = λ k. absurd (let f : true ≡ false = sym h ∙ k in cc);
        }
      where
        yes : (w a : ℕ) → w < a → nat_lt w a ≡ true
        yes w a less = grind (arith, nat_tests)
    by_known j x y n (inr h) =
        let o = (st.is_asked j x y n).still_open h in
        let step = least_step s nodes j x y n.level in
        record {
          known = h ∙ sym (no (least s nodes j x y) (asked s queries j x y) (omega (arith, o.1, step)));
          value = λ k. absurd (let f : true ≡ false = sym k ∙ h in cc);
          least = λ _. (o.0, omega (arith, o.1, step));
        }
      where
        no : (w a : ℕ) → a ≤ w → nat_lt w a ≡ false
        no w a more = grind (arith, nat_tests)

-- what stands is chained
pub stands_chained : (s : Shape) (v : Values) (queries : List Query) (nodes : List Node) → AreTold s v queries nodes → IsChained s nodes
stands_chained s v queries nodes st j x y n low h =
    let own = st.each j x y n in
    let up_is = st.each (j + 1) (x / 2) (y / 2) (up_node s j x y n low) in
    let a = asked s queries j x y in
    let b = asked s queries (j + 1) (x / 2) (y / 2) in
    let w = v j x y in
    let u = v (j + 1) (x / 2) (y / 2) in
    let under : u ≤ w = subst (λ (t : Bool). cond t 0 u ≤ w) (not_top s j low) (st.tree j x y n) in
    let told_here : nat_lt w a ≡ true = sym own.known ∙ h in
    let less : w < a = grind (arith, nat_tests) in
    let more : a ≤ b = asked_up s queries j x y in
    let known_up : nat_lt u b ≡ true = grind (arith, nat_tests) in
    let is_up = up_is.known ∙ known_up in
    let low_up = up_is.value is_up in
    let low_own = own.value h in
    (is_up, omega (arith, low_up, low_own, under))

-- and what isn't known has been asked for no more than the least tree has
pub stands_asked : (s : Shape) (v : Values) (queries : List Query) (nodes : List Node) → length nodes ≡ count s → AreTold s v queries nodes → StandsAsked s queries nodes
stands_asked s v queries nodes long st = record {
  long = long;
  chained = chain;
  is_asked = λ j x y n. record {
    closed = λ h. closed j x y n h;
    still_open = λ h. let own = (st.each j x y n).least h in let b = bound (top s - j) j x y (let l = n.level in omega (arith, l)) n h in let step = least_step s nodes j x y n.level in (own.0, omega (arith, b));
  };
}
  where
    chain : IsChained s nodes
    chain = stands_chained s v queries nodes st

    closed : (j x y : ℕ) → IsNode s j x y → (node_at nodes (node_number s j x y)).known ≡ true → (node_at nodes (node_number s j x y)).low < asked s queries j x y
    closed j x y n h =
        let own = st.each j x y n in
        let told_here : nat_lt (v j x y) (asked s queries j x y) ≡ true = sym own.known ∙ h in
        let less : v j x y < asked s queries j x y = grind (arith, nat_tests) in
        let value = own.value h in
        omega (arith, value, less)

    bound : (up j x y : ℕ) → j + up ≡ top s → IsNode s j x y → (node_at nodes (node_number s j x y)).known ≡ false → asked s queries j x y ≤ least s nodes j x y
    bound zero j x y e n h =
        let own = (st.each j x y n).least h in
        let root : above s v j x y ≡ 0 = ap (λ (b : Bool). cond b 0 (v (j + 1) (x / 2) (y / 2))) (same j (top s) (omega (arith, e))) in
        let step = least_step s nodes j x y n.level in
        omega (arith, own.1, root, step)
      where
        same : (a b : ℕ) → a ≡ b → (a == b) ≡ true
        same a b e = grind (arith, nat_tests)
    bound (suc up) j x y e n h =
        let low : j < top s = omega (arith, e) in
        let own = (st.each j x y n).least h in
        let over : above s v j x y ≡ v (j + 1) (x / 2) (y / 2) = ap (λ (b : Bool). cond b 0 (v (j + 1) (x / 2) (y / 2))) (not_top s j low) in
        let over_least : above s (least s nodes) j x y ≡ least s nodes (j + 1) (x / 2) (y / 2) = ap (λ (b : Bool). cond b 0 (least s nodes (j + 1) (x / 2) (y / 2))) (not_top s j low) in
        let step = least_step s nodes j x y n.level in
        let up_n = up_node s j x y n low in
        elim (cases_Bool (node_at nodes (node_number s (j + 1) (x / 2) (y / 2))).known) [
          | inl k ↦
              let value = (st.each (j + 1) (x / 2) (y / 2) up_n).value k in
              let same = least_known s nodes chain (j + 1) (x / 2) (y / 2) up_n k in
              omega (arith, own.1, over, over_least, step, value, same)
          | inr k ↦
              let more = asked_up s queries j x y in
              let rest = bound up (j + 1) (x / 2) (y / 2) (omega (arith, e)) up_n k in
              omega (arith, more, rest, over_least, step)
        ]

-- A query whose words are ahead is answered.
pub record Told (s : Shape) (v : Values) (queries : List Query) (q : Query) (nodes : List Node) (r : Bits) : Type 0 where
  pub after : List Node
  pub is : walk s q (top s + 1) 0 nodes r ≡ Ok (nat_lt (leaf_of s v q.leaf) q.threshold, (after, advance r (length (told s v queries q))))
  pub stands : AreTold s v (queries ++ q ∷ []) after

levels : (s : Shape) → top s + 1 ≡ suc (top s)
levels s = omega arith

told_levels : (s : Shape) (v : Values) (queries : List Query) (q : Query) → told s v queries q ≡ told_below s v queries q (suc (top s))
unfolding told
told_levels s v queries q = ap (told_below s v queries q) (levels s)

pub half_stands : (s : Shape) (v : Values) (queries : List Query) (q : Query) (nodes : List Node) → IsTree s v → HalfTold s v queries q 0 nodes → AreTold s v (queries ++ q ∷ []) nodes
half_stands s v queries q nodes tree h = record {
  tree = tree;
  each = λ j x y n. subst (λ a. HasTold (above s v j x y) (v j x y) a (node_at nodes (node_number s j x y))) (half_all s queries q j x y) (h.each j x y n);
}

pub stands_half : (s : Shape) (v : Values) (queries : List Query) (q : Query) (nodes : List Node) → length nodes ≡ count s → AreTold s v (queries ++ q ∷ []) nodes → HalfTold s v queries q 0 nodes
stands_half s v queries q nodes long st = record {
  long = long;
  each = λ j x y n. subst (λ a. HasTold (above s v j x y) (v j x y) a (node_at nodes (node_number s j x y))) (sym (half_all s queries q j x y)) (st.each j x y n);
}

pub told_by : (s : Shape) (v : Values) (queries : List Query) (q : Query) (nodes : List Node) (r : Bits) (rest : List Bool) → q.leaf < s.width * s.height → length nodes ≡ count s → AreTold s v queries nodes
    → ahead r ≡ told s v queries q ++ rest → Told s v queries q nodes r
told_by s v queries q nodes r rest less long st first =
    let h : HalfTold s v queries q (suc (top s)) nodes = record {
      long = long;
      each = λ j x y n. subst (λ a. HasTold (above s v j x y) (v j x y) a (node_at nodes (node_number s j x y))) (sym (half_none s queries q j x y n.level)) (st.each j x y n);
    } in
    let w = walk_told s v queries q less st.tree (suc (top s)) 0 nodes r rest (omega arith) h (over_root s v q) (first ∙ ap (λ (bs : List Bool). bs ++ rest) (told_levels s v queries q)) in
    record {
      after = w.after;
      is = ap (λ k. walk s q k 0 nodes r) (levels s) ∙ w.is ∙ ap (λ (bs : List Bool). Ok (nat_lt (leaf_of s v q.leaf) q.threshold, (w.after, advance r (length bs)))) (sym (told_levels s v queries q));
      stands = half_stands s v queries q w.after st.tree w.told_all;
    }

-- What a query that went well says.
pub record Found (s : Shape) (v : Values) (queries : List Query) (q : Query) (nodes : List Node) (r : Bits) (out : Bool × (List Node × Bits)) : Type 0 where
  pub before : AreTold s v queries nodes
  pub given : GivesBits r (told s v queries q) out.1.1
  pub answer : out.0 ≡ nat_lt (leaf_of s v q.leaf) q.threshold

at_root : (s : Shape) (queries : List Query) (q : Query) (nodes : List Node) → StandsAsked s queries nodes → Midway s queries q (suc (top s)) 0 nodes
at_root s queries q nodes st = record {
  long = st.long;
  is_asked = λ j x y n. subst (λ a. IsAsked (node_at nodes (node_number s j x y)) a (least s nodes j x y)) (sym (half_none s queries q j x y n.level)) (st.is_asked j x y n);
  chained = st.chained;
  root = λ _. refl;
  over_is = λ level. absurd (omega (arith, level));
}

pub found_by : (s : Shape) (v : Values) (queries : List Query) (q : Query) (nodes : List Node) (r : Bits) (out : Bool × (List Node × Bits)) → q.leaf < s.width * s.height → length nodes ≡ count s → length out.1.0 ≡ count s
    → AreToldBySome s queries nodes → walk s q (top s + 1) 0 nodes r ≡ Ok out → AreTold s v (queries ++ q ∷ []) out.1.0 → Found s v queries q nodes r out
found_by s v queries q nodes r out less long long_out reached h st =
    let m = at_root s queries q nodes (stands_asked s reached.0 queries nodes long reached.1) in
    let f = walk_found s v queries q less st.tree (suc (top s)) 0 nodes r out (omega arith) m (over_root s v q) (ap (λ k. walk s q k 0 nodes r) (sym (levels s)) ∙ h) (stands_half s v queries q out.1.0 long_out st) in
    record {
      before = record {
        tree = st.tree;
        each = λ j x y n. subst (λ a. HasTold (above s v j x y) (v j x y) a (node_at nodes (node_number s j x y))) (half_none s queries q j x y n.level) (f.was.each j x y n);
      };
      given = subst (λ (bs : List Bool). GivesBits r bs out.1.1) (sym (told_levels s v queries q)) f.given;
      answer = f.answer;
    }

-- Some tree stands after a query that went well.
pub reached_on : (s : Shape) (queries : List Query) (q : Query) (nodes : List Node) (r : Bits) (out : Bool × (List Node × Bits)) → q.leaf < s.width * s.height → length nodes ≡ count s
    → AreToldBySome s queries nodes → walk s q (top s + 1) 0 nodes r ≡ Ok out → AreToldBySome s (queries ++ q ∷ []) out.1.0 × (length out.1.0 ≡ count s)
reached_on s queries q nodes r out less long reached h =
    let m = at_root s queries q nodes (stands_asked s reached.0 queries nodes long reached.1) in
    let w = walk_midway s queries q less (suc (top s)) 0 nodes r out (omega arith) m (ap (λ k. walk s q k 0 nodes r) (sym (levels s)) ∙ h) in
    ((least s out.1.0, least_stands s (queries ++ q ∷ []) out.1.0 w), w.long)

-- A tree that was asked nothing.
pub fresh : (s : Shape) (v : Values) (n : ℕ) → IsTree s v → count s ≤ n → AreTold s v [] (replicate n record { low = 0; known = false })
unfolding asked
fresh s v n tree all = record {
  tree = tree;
  each = λ j x y m. subst (λ (z : Node). HasTold (above s v j x y) (v j x y) 0 z)
      (sym (get_or-replicate n (node_number s j x y) record { low = 0; known = false } record { low = 0; known = false } (let p = place_counted s j x y m in omega (arith, p, all))))
      (blank (above s v j x y) (v j x y));
}
  where
    blank : (u w : ℕ) → HasTold u w 0 record { low = 0; known = false }
    blank u w = record {
      known = (let e : false ≡ nat_lt w 0 = grind (arith, nat_tests) in e);
      value = λ k. absurd (cc);
      least = λ _. (omega arith, omega arith);
    }
