-- The way from the root to a leaf, read: what the nodes are afterwards says which bits were read.
use Rattle.std.proofs.Common.{◌≡◌, ℕ, zero, suc, ◌*◌, ◌<◌, ◌≤◌, min, max, Bool, true, false, List, ◌++◌, length, set, Ok, sym, ap, ◌∙◌, subst, inl, inr, arith}
use Rattle.std.specs.Prelude.{◌⊎◌, nat_lt}
use Rattle.std.proofs.lemmas.Bool.{cases_eq, cases_Bool, cases_lt}
use Rattle.std.proofs.lemmas.Bool.Decides.{nat_tests}
use Rattle.std.proofs.lemmas.List.{get_or-set_same, get_or-set_other, append-nil}
use Rattle.jk_bits.specs.Reading.{Bits}
use Rattle.jk_tree.specs.TagTree.{Shape, top, node_number, column, row, Values, above, IsTree, IsNode, Query, passes, asked, rest_of_word, told_below, leaf_of}
use Rattle.jk_tree.specs.declared.node.Node.{Node}
use Rattle.jk_tree.specs.Asking.{HasTold, node_at, visit, walk}
use Rattle.jk_bits.specs.Giving.{GivesBits, gives_none, gives_join}
use Rattle.jk_tree.proofs.Visits.{IsAsked, visit_found, visit_knows, below_known, Visited}
use Rattle.jk_tree.proofs.Places.{place_counted, path_node, passes_at}
use Rattle.jk_tree.proofs.Walks.{half, half_less, half_other, half_at, apart_places, HalfTold, cases_on_way, IsOver, over_next, over_above, over_within, over_min, over_way, below-suc, below_none, told_none, above_way, above_root}
use Rattle.jk_tree.proofs.Finds.{way, way_apart, steps, walk_end, walk_keeps}
use Rattle.jk_tree.proofs.Least.{Midway, midway_on, least, least_step, least_known, half_past, half_through}

-- What a walk over the levels below i says, for a tree that the nodes stand for afterwards.
pub record WalkFound (s : Shape) (v : Values) (queries : List Query) (q : Query) (i : ℕ) (nodes : List Node) (r new : Bits) (b : Bool) : Type 0 where
  pub was : HalfTold s v queries q i nodes
  pub given : GivesBits r (told_below s v queries q i) new
  pub answer : b ≡ nat_lt (leaf_of s v q.leaf) q.threshold

module _ (s : Shape) (queries : List Query) (q : Query) (less : q.leaf < s.width * s.height) where
  -- The nodes above the next one are no more than what is over it.
  above_least : (i over : ℕ) (nodes : List Node) → i ≤ top s → Midway s queries q (suc i) over nodes → above s (least s nodes) i (column s q.leaf i) (row s q.leaf i) ≤ over
  above_least i over nodes level m =
      let x = column s q.leaf i in
      let y = row s q.leaf i in
      elim (cases_eq i (top s)) [
        | inl at ↦ (let none = above_root s (least s nodes) i x y at in omega (arith, none))
        | inr apart ↦
            let under : i < top s = omega (arith, level, apart) in
            let up = m.over_is (omega (arith, under)) in
            let n = path_node s q.leaf (suc i) less (omega (arith, under)) in
            let value = least_known s nodes m.chained (suc i) (column s q.leaf (suc i)) (row s q.leaf (suc i)) n up.0 in
            let at = above_way s (least s nodes) q.leaf i under in
            let e = up.1 in
            omega (arith, value, at, e)
      ]

  -- what is known of the next node, under those above it
  pub own_asked : (i over : ℕ) (nodes : List Node) → i ≤ top s → Midway s queries q (suc i) over nodes
      → IsAsked (node_at nodes (way s q i)) (asked s queries i (column s q.leaf i) (row s q.leaf i)) over
  own_asked i over nodes level m =
      let x = column s q.leaf i in
      let y = row s q.leaf i in
      let was : IsAsked (node_at nodes (way s q i)) (asked s queries i x y) (least s nodes i x y) =
      subst (λ a. IsAsked (node_at nodes (way s q i)) a (least s nodes i x y)) (half_less s queries q (suc i) i x y (omega arith)) (m.is_asked i x y (path_node s q.leaf i less level)) in
      let step = least_step s nodes i x y level in
      let up = above_least i over nodes level m in
      record {
        closed = was.closed;
        still_open = λ n. (let o = was.still_open n in (o.0, omega (arith, o.1, step, up)));
      }

module _ (s : Shape) (v : Values) (queries : List Query) (q : Query) (less : q.leaf < s.width * s.height) (tree : IsTree s v) where
  -- a tree that fits the nodes after a level fits them before it
  module _ (i over : ℕ) (nodes : List Node) (node : Node) (level : i ≤ top s) (m : Midway s queries q (suc i) over nodes)
      (f : HasTold (above s v i (column s q.leaf i) (row s q.leaf i)) (v i (column s q.leaf i) (row s q.leaf i)) (asked s queries i (column s q.leaf i) (row s q.leaf i)) (node_at nodes (way s q i))) where
    before_by : ((j x y : ℕ) → IsNode s j x y → (j ≡ i → passes s q.leaf j x y ≡ true → ⊥) → HasTold (above s v j x y) (v j x y) (half s queries q (suc i) j x y) (node_at (set nodes (way s q i) node) (node_number s j x y)))
        → HalfTold s v queries q (suc i) nodes
    before_by others =
        let x = column s q.leaf i in
        let y = row s q.leaf i in
        record {
          long = m.long;
          each = λ j c d n. elim (cases_on_way s q.leaf i j c d) [
            | inl is ↦
                subst (λ k. HasTold (above s v k c d) (v k c d) (half s queries q (suc i) k c d) (node_at nodes (node_number s k c d))) (sym is.0)
                (subst (λ c'. HasTold (above s v i c' d) (v i c' d) (half s queries q (suc i) i c' d) (node_at nodes (node_number s i c' d))) is.1
                (subst (λ d'. HasTold (above s v i x d') (v i x d') (half s queries q (suc i) i x d') (node_at nodes (node_number s i x d'))) is.2
                (subst (λ a. HasTold (above s v i x y) (v i x y) a (node_at nodes (way s q i))) (sym (half_less s queries q (suc i) i x y (omega arith))) f)))
            | inr other ↦
                subst (λ (z : Node). HasTold (above s v j c d) (v j c d) (half s queries q (suc i) j c d) z) (get_or-set_other nodes (way s q i) (node_number s j c d) node _ (apart_places s q.leaf i j c d less level n other)) (others j c d n other)
          ];
        }

    pub before_on : HalfTold s v queries q i (set nodes (way s q i) node) → HalfTold s v queries q (suc i) nodes
    before_on h = before_by (λ j x y n other. subst (λ a. HasTold (above s v j x y) (v j x y) a (node_at (set nodes (way s q i) node) (node_number s j x y))) (half_other s queries q i j x y other) (h.each j x y n))

    -- where the walk has stopped at this node
    pub before_stop : q.threshold ≤ v i (column s q.leaf i) (row s q.leaf i) → HalfTold s v queries q 0 (set nodes (way s q i) node) → HalfTold s v queries q (suc i) nodes
    before_stop high h = before_by (λ j x y n other. by_way j x y n other (cases_Bool (passes s q.leaf j x y)) (cases_lt j i))
      where
        new : List Node
        new = set nodes (way s q i) node

        t : ℕ
        t = q.threshold

        less_asked : (u w a bound : ℕ) (z : Node) → t ≤ u → u ≤ w → IsAsked z a bound → HasTold u w (max a t) z → HasTold u w a z
        less_asked u w a bound z over fits was told = record {
          known = told.known ∙ same w a (omega (arith, over, fits));
          value = told.value;
          least = λ k. (let l = told.least k in let o = was.still_open k in (o.0, omega (arith, l.1)));
        }
          where
            same : (w a : ℕ) → t ≤ w → nat_lt w (max a t) ≡ nat_lt w a
            same w a high = grind (arith, nat_tests)

        by_way : (j x y : ℕ) → IsNode s j x y → (j ≡ i → passes s q.leaf j x y ≡ true → ⊥) → (passes s q.leaf j x y ≡ true) ⊎ (passes s q.leaf j x y ≡ false) → (j < i) ⊎ (i ≤ j)
            → HasTold (above s v j x y) (v j x y) (half s queries q (suc i) j x y) (node_at new (node_number s j x y))
        by_way j x y n other (inr past) order =
            subst (λ a. HasTold (above s v j x y) (v j x y) a (node_at new (node_number s j x y))) (half_past s queries q 0 j x y past ∙ sym (half_past s queries q (suc i) j x y past)) (h.each j x y n)
        by_way j x y n other (inl through) (inr from) =
            let more : suc i ≤ j = elim (cases_eq j i) [ inl same ↦ absurd (other same through) | inr apart ↦ omega (arith, from, apart) ] in
            subst (λ a. HasTold (above s v j x y) (v j x y) a (node_at new (node_number s j x y))) (half_through s queries q 0 j x y (omega arith) through ∙ sym (half_through s queries q (suc i) j x y more through)) (h.each j x y n)
        by_way j x y n other (inl through) (inl under) =
            let at = passes_at s q.leaf j x y through in
            let way_up = above_way s v q.leaf j (omega (arith, under, level)) in
            let same_up : above s v j (column s q.leaf j) (row s q.leaf j) ≡ above s v j x y = ap (λ a. above s v j a (row s q.leaf j)) at.0 ∙ ap (λ b. above s v j x b) at.1 in
            let low = over_way s v q.leaf (suc j) i less tree (omega (arith, under)) level in
            let over : t ≤ above s v j x y = omega (arith, way_up, same_up, low, high) in
            let a = asked s queries j x y in
            let told : HasTold (above s v j x y) (v j x y) (max a t) (node_at new (node_number s j x y)) = subst (λ b. HasTold (above s v j x y) (v j x y) b (node_at new (node_number s j x y))) (half_through s queries q 0 j x y (omega arith) through) (h.each j x y n) in
            let same : node_at new (node_number s j x y) ≡ node_at nodes (node_number s j x y) = get_or-set_other nodes (way s q i) (node_number s j x y) node _ (apart_places s q.leaf i j x y less level n other) in
            let was : IsAsked (node_at new (node_number s j x y)) a (least s nodes j x y) =
            subst (λ (z : Node). IsAsked z a (least s nodes j x y)) (sym same) (subst (λ b. IsAsked (node_at nodes (node_number s j x y)) b (least s nodes j x y)) (half_less s queries q (suc i) j x y (omega (arith, under))) (m.is_asked j x y n)) in
            subst (λ b. HasTold (above s v j x y) (v j x y) b (node_at new (node_number s j x y))) (sym (half_less s queries q (suc i) j x y (omega (arith, under))))
            (less_asked (above s v j x y) (v j x y) a (least s nodes j x y) (node_at new (node_number s j x y)) over (tree j x y n) was told)

  pub walk_found : (i over : ℕ) (nodes : List Node) (r : Bits) (out : Bool × (List Node × Bits)) → i ≤ suc (top s) → Midway s queries q i over nodes → IsOver s v q i over
      → walk s q i over nodes r ≡ Ok out → HalfTold s v queries q 0 out.1.0 → WalkFound s v queries q i nodes r out.1.1 out.0
  walk_found zero over nodes r out level m o h done =
      let e = walk_end s q over nodes r out h in
      record {
        was = subst (λ (ns : List Node). HalfTold s v queries q 0 ns) (sym (ap (λ (p : Bool × (List Node × Bits)). p.1.0) e)) done;
        given = subst (λ (b : Bits). GivesBits r (told_below s v queries q 0) b) (ap (λ (p : Bool × (List Node × Bits)). p.1.1) e) (subst (λ (bs : List Bool). GivesBits r bs r) (sym (told_none s v queries q)) (gives_none r));
        answer = sym (ap (λ (p : Bool × (List Node × Bits)). p.0) e) ∙ (let value = o.value (omega arith) in let below = o.below (omega arith) in let yes : nat_lt (leaf_of s v q.leaf) q.threshold ≡ true = grind (arith, nat_tests) in sym yes);
      }
  walk_found (suc i) over nodes r out level m o h done =
      let x = column s q.leaf i in
      let y = row s q.leaf i in
      let t = q.threshold in
      let w = v i x y in
      let u = above s v i x y in
      let a = asked s queries i x y in
      let p = way s q i in
      let in_tree : i ≤ top s = omega (arith, level) in
      let n = path_node s q.leaf i less in_tree in
      let st = steps s q i over nodes r out h in
      let nodes1 = set nodes p st.node in
      let within : p < length nodes = (let e = m.long in let f = place_counted s i x y n in omega (arith, e, f)) in
      let asked_here = own_asked s queries q less i over nodes in_tree m in
      let over_is = over_above s v q i over in_tree o in
      let before : visit (node_at nodes p) (min u t) t r ≡ Ok (st.node, st.mid) = ap (λ k. visit (node_at nodes p) k t r) (sym (over_min s v q i over in_tree o)) ∙ st.visited in
      let knows = visit_knows over a t over (node_at nodes p) r (st.node, st.mid) (over_within s v q i over in_tree o) asked_here st.visited in
      let has_of : node_at out.1.0 p ≡ st.node → HasTold u w (max a t) st.node =
      λ same. subst (λ (z : Node). HasTold u w (max a t) z) same (subst (λ b. HasTold u w b (node_at out.1.0 p)) (half_at s queries q 0 i (omega arith)) (done.each i x y n)) in
      let found_of : HasTold u w (max a t) st.node → Visited u w a t (node_at nodes p) r st.mid =
      λ has. visit_found u w a t (node_at nodes p) r (st.node, st.mid) (tree i x y n) (subst (λ b. IsAsked (node_at nodes p) a b) over_is asked_here) before has in
      elim st.next [
        | inl on ↦
            (let kept = walk_keeps s q i st.node.low nodes1 st.mid out p on.1 (λ k under e. way_apart s q less i k in_tree (omega (arith, in_tree, under)) under (sym e)) in
            let has = has_of (kept.0 ∙ get_or-set_same nodes p st.node _ within) in
            let f = found_of has in
            let value = has.value (below_known over a t (node_at nodes p) st.node knows on.0) in
            let rec = walk_found i st.node.low nodes1 st.mid out (omega (arith, level)) (midway_on s queries q less i over nodes st.node in_tree m knows on.0) (over_next s v q i st.node.low in_tree value on.0) on.1 done in
            record {
              was = before_on i over nodes st.node in_tree m f.was rec.was;
              given = subst (λ (bs : List Bool). GivesBits r bs out.1.1) (sym (below-suc s v queries q i)) (gives_join r st.mid out.1.1 (rest_of_word u w a t) (told_below s v queries q i) f.given rec.given);
              answer = rec.answer;
            })
        | inr stop ↦
            (let ends : nodes1 ≡ out.1.0 = ap (λ (e : Bool × (List Node × Bits)). e.1.0) stop.1 in
            let bits : st.mid ≡ out.1.1 = ap (λ (e : Bool × (List Node × Bits)). e.1.1) stop.1 in
            let has = has_of (ap (λ (ns : List Node). node_at ns p) (sym ends) ∙ get_or-set_same nodes p st.node _ within) in
            let f = found_of has in
            let high : t ≤ w = not_below u w (max a t) st.node has (omega arith) stop.0 in
            let leaf = over_way s v q.leaf 0 i less tree (omega arith) in_tree in
            let answer : false ≡ nat_lt (leaf_of s v q.leaf) t = grind (arith, nat_tests) in
            record {
              was = before_stop i over nodes st.node in_tree m f.was high (subst (λ (ns : List Node). HalfTold s v queries q 0 ns) (sym ends) done);
              given = subst (λ (bs : List Bool). GivesBits r bs out.1.1) (sym (append-nil (rest_of_word u w a t)) ∙ ap (λ (bs : List Bool). rest_of_word u w a t ++ bs) (sym (below_none s v queries q less tree i in_tree high)) ∙ sym (below-suc s v queries q i))
                  (subst (λ (b : Bits). GivesBits r (rest_of_word u w a t) b) bits f.given);
              answer = sym (ap (λ (e : Bool × (List Node × Bits)). e.0) stop.1) ∙ answer;
            })
      ]
    where
      -- a node whose low isn't below the threshold has no value below it
      not_below : (u w m : ℕ) (z : Node) → HasTold u w m z → q.threshold ≤ m → q.threshold ≤ z.low → q.threshold ≤ w
      not_below u w m z has more high =
          elim (cases_Bool z.known) [
            | inl k ↦ (let value = has.value k in omega (arith, value, high))
            | inr k ↦ (let none : nat_lt w m ≡ false = sym has.known ∙ k in let over : m ≤ w = grind (arith, nat_tests) in omega (arith, over, more))
          ]
