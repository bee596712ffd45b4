-- The laws of queries that crates above cite: what is told is read, and what is read is told; a leaf's value, once it is
-- known; the values of a written tree.
use Rattle.std.proofs.Common.{◌≡◌, ℕ, zero, suc, ◌+◌, ◌-◌, ◌*◌, ◌<◌, ◌≤◌, min, max, Bool, true, false, cond, List, [], ◌∷◌, ◌++◌, length, set, drop, replicate, Result, Option, Some, None, Ok, Err, refl, sym, ap, ◌∙◌, subst, inl, inr, arith}
use Rattle.std.specs.Prelude.{nat_lt}
use Rattle.std.proofs.lemmas.Bool.{cases_lt}
use Rattle.std.proofs.lemmas.Bool.Decides.{nat_tests}
use Rattle.std.proofs.lemmas.List.{length-set, length-replicate}
use Rattle.jk_math.specs.Answer.{◌>>=◌}
use Rattle.jk_math.specs.declared.fault.Fault.{Fault}
use Rattle.jk_bits.specs.Reading.{Bits, ahead}
use Rattle.jk_tree.specs.TagTree.{Shape, top, node_number, count, column, row, IsNode, Values, above, IsTree, Query, query_of, passes, asked, word, rest_of_word, told_below, told, leaf_of}
use Rattle.jk_tree.specs.declared.node.Node.{Node}
use Rattle.jk_tree.specs.Asking.{HasTold, node_at, AreTold, AreToldBySome, walk, TagTreeRead, IsOpen, unless_failed, blank_tree, ask_at}
use Rattle.jk_bits.specs.Giving.{GivesBits, advance, Moves}
use Rattle.jk_tree.proofs.Moving.{walk_moves}
use Rattle.jk_tree.proofs.Visits.{piece_asked, piece_known}
use Rattle.jk_tree.proofs.Places.{path_node, passes_at, passes_own, place_leaf}
use Rattle.jk_tree.proofs.Walks.{asked_push, above_way, below-suc, told_none}
use Rattle.jk_tree.proofs.Finds.{way, steps, walk_end, walk_through}
use Rattle.jk_tree.proofs.Speeches.{told_all}
use Rattle.jk_tree.proofs.Asks.{fresh}
use Rattle.jk_tree.proofs.Answering.{only_law, found_law}
pub use Rattle.jk_tree.proofs.Written.{written_tree, written_leaf}

pub asked_then : (f : Option Fault) (t : TagTreeRead) (w : Result (Bool × (List Node × Bits)) Fault) (out : Bool × (TagTreeRead × Bits)) → unless_failed f (w >>= λ o. Ok (o.0, (record t { nodes = o.1.0 }, o.1.1))) ≡ Ok out
    → (f ≡ None) × (o : Bool × (List Node × Bits)) × (w ≡ Ok o) × ((o.0, (record t { nodes = o.1.0 }, o.1.1)) ≡ out)
asked_then (Some e) t w out h = absurd (cc)
asked_then None t (Err e) out h = absurd (cc)
asked_then None t (Ok o) out h = (refl, o, refl, cc)

-- A leaf that is below a threshold is known, and has a low below it.
pub low_below : (q : Query) (t : TagTreeRead) (r : Bits) (out : Bool × (TagTreeRead × Bits)) → q.leaf < t.shape.width * t.shape.height → length t.nodes ≡ count t.shape → ask_at q (t, r) ≡ Ok out → out.0 ≡ true
    → ((node_at out.1.0.nodes q.leaf).known ≡ true) × ((node_at out.1.0.nodes q.leaf).low < q.threshold)
unfolding ask_at
low_below q t r out less long h goes =
    let a = asked_then t.failed t (walk t.shape q (top t.shape + 1) 0 t.nodes r) out h in
    let o = a.1 in
    let w = walk_through t.shape q less (top t.shape + 1) 0 t.nodes r o (omega arith) long a.2 (ap (λ (x : Bool × (TagTreeRead × Bits)). x.0) a.3 ∙ goes) 0 (omega arith) in
    let same : node_at o.1.0 (way t.shape q 0) ≡ node_at out.1.0.nodes q.leaf = ap (node_at o.1.0) (place_leaf t.shape q.leaf) ∙ ap (λ (x : Bool × (TagTreeRead × Bits)). node_at x.1.0.nodes q.leaf) a.3 in
    subst (λ (z : Node). (z.known ≡ true) × (z.low < q.threshold)) same w

pub ask_moves : (q : Query) (t : TagTreeRead) (r : Bits) (o : Bool × (TagTreeRead × Bits)) → ask_at q (t, r) ≡ Ok o → Moves r o.1.1
unfolding ask_at
ask_moves q t r o h =
    let a = asked_then t.failed t (walk t.shape q (top t.shape + 1) 0 t.nodes r) o h in
    subst (λ (x : Bool × (TagTreeRead × Bits)). Moves r x.1.1) a.3 (walk_moves t.shape q (top t.shape + 1) 0 t.nodes r a.1 a.2)

walk_long : (s : Shape) (q : Query) (i over : ℕ) (nodes : List Node) (r : Bits) (o : Bool × (List Node × Bits)) → walk s q i over nodes r ≡ Ok o → length o.1.0 ≡ length nodes
walk_long s q zero over nodes r o h = ap (λ (p : Bool × (List Node × Bits)). length p.1.0) (sym (walk_end s q over nodes r o h))
walk_long s q (suc i) over nodes r o h =
    let t = steps s q i over nodes r o h in
    let new = set nodes (way s q i) t.node in
    elim t.next [
      | inl on ↦ walk_long s q i t.node.low new t.mid o on.1 ∙ length-set nodes (way s q i) t.node
      | inr stop ↦ ap (λ (p : Bool × (List Node × Bits)). length p.1.0) (sym stop.1) ∙ length-set nodes (way s q i) t.node
    ]

-- a tree that was asked can be asked again
asked_open : (s : Shape) (q : Query) (t : TagTreeRead) (r : Bits) (o : Bool × (TagTreeRead × Bits)) → IsOpen s t → ask_at q (t, r) ≡ Ok o → IsOpen s o.1.0
unfolding ask_at
asked_open s q t r o w h =
    let a = asked_then t.failed t (walk t.shape q (top t.shape + 1) 0 t.nodes r) o h in
    subst (λ (x : Bool × (TagTreeRead × Bits)). IsOpen s x.1.0) a.3 record {
      shape = w.shape;
      sound = w.sound;
      long = walk_long t.shape q (top t.shape + 1) 0 t.nodes r a.1 a.2 ∙ w.long;
    }

-- What a tree would tell is read.
pub record AskOnly (s : Shape) (v : Values) (queries : List Query) (q : Query) (t : TagTreeRead) (r : Bits) : Type 0 where
  pub after : TagTreeRead
  pub is : ask_at q (t, r) ≡ Ok (nat_lt (leaf_of s v q.leaf) q.threshold, (after, advance r (length (told s v queries q))))
  pub can : IsOpen s after
  pub stands : AreTold s v (queries ++ q ∷ []) after.nodes

ask_here : (v : Values) (queries : List Query) (q : Query) (t : TagTreeRead) (r : Bits) (rest : List Bool) → q.leaf < t.shape.width * t.shape.height → IsOpen t.shape t → AreTold t.shape v queries t.nodes
    → ahead r ≡ told t.shape v queries q ++ rest → AskOnly t.shape v queries q t r
ask_here v queries q t r rest less w st first =
    let law = only_law q t r v queries rest less w.long w.sound st first in
    let o = law.0 in
    let a = law.2 in
    let moved : o.1.1 ≡ advance r (length (told t.shape v queries q)) = a.given.moved in
    record {
      after = o.1.0;
      is = law.1 ∙ ap (λ (b : Bool). Ok (b, o.1)) a.answer ∙ ap (λ (b : Bits). Ok (nat_lt (leaf_of t.shape v q.leaf) q.threshold, (o.1.0, b))) moved;
      can = asked_open t.shape q t r o w law.1;
      stands = a.after;
    }

pub ask_only : (s : Shape) (v : Values) (queries : List Query) (q : Query) (t : TagTreeRead) (r : Bits) (rest : List Bool) → q.leaf < s.width * s.height → IsOpen s t → AreTold s v queries t.nodes
    → ahead r ≡ told s v queries q ++ rest → AskOnly s v queries q t r
ask_only s v queries q t r rest less w =
    subst (λ (x : Shape). q.leaf < x.width * x.height → IsOpen x t → AreTold x v queries t.nodes → ahead r ≡ told x v queries q ++ rest → AskOnly x v queries q t r) w.shape
    (λ l o st first. ask_here v queries q t r rest l o st first) less w

-- What is read is what each tree tells that stands afterwards, and there is one.
pub record AskFound (s : Shape) (queries : List Query) (q : Query) (t : TagTreeRead) (r : Bits) (o : Bool × (TagTreeRead × Bits)) : Type 0 where
  pub can : IsOpen s o.1.0
  pub reached : AreToldBySome s (queries ++ q ∷ []) o.1.0.nodes
  pub each : (v : Values) → AreTold s v (queries ++ q ∷ []) o.1.0.nodes → AreTold s v queries t.nodes × GivesBits r (told s v queries q) o.1.1 × (o.0 ≡ nat_lt (leaf_of s v q.leaf) q.threshold)

found_here : (queries : List Query) (q : Query) (t : TagTreeRead) (r : Bits) (o : Bool × (TagTreeRead × Bits)) → q.leaf < t.shape.width * t.shape.height → IsOpen t.shape t → AreToldBySome t.shape queries t.nodes
    → ask_at q (t, r) ≡ Ok o → AskFound t.shape queries q t r o
unfolding ask_at
found_here queries q t r o less w reached h =
    let a = asked_then t.failed t (walk t.shape q (top t.shape + 1) 0 t.nodes r) o h in
    let law = found_law q t r a.1 queries less w.long w.sound a.2 reached in
    record {
      can = asked_open t.shape q t r o w h;
      reached = subst (λ (x : Bool × (TagTreeRead × Bits)). AreToldBySome t.shape (queries ++ q ∷ []) x.1.0.nodes) a.3 law.0;
      each = subst (λ (x : Bool × (TagTreeRead × Bits)). (v : Values) → AreTold t.shape v (queries ++ q ∷ []) x.1.0.nodes → AreTold t.shape v queries t.nodes × GivesBits r (told t.shape v queries q) x.1.1 × (x.0 ≡ nat_lt (leaf_of t.shape v q.leaf) q.threshold)) a.3
          (λ v st. let f = law.1 v st in (f.before, f.given, f.answer));
    }

pub ask_found : (s : Shape) (queries : List Query) (q : Query) (t : TagTreeRead) (r : Bits) (o : Bool × (TagTreeRead × Bits)) → q.leaf < s.width * s.height → IsOpen s t → AreToldBySome s queries t.nodes → ask_at q (t, r) ≡ Ok o → AskFound s queries q t r o
ask_found s queries q t r o less w =
    subst (λ (x : Shape). q.leaf < x.width * x.height → IsOpen x t → AreToldBySome x queries t.nodes → ask_at q (t, r) ≡ Ok o → AskFound x queries q t r o) w.shape
    (λ l u reached h. found_here queries q t r o l u reached h) less w

-- Over a leaf no node is greater.
over_leaf : (s : Shape) (v : Values) (leaf i : ℕ) → leaf < s.width * s.height → IsTree s v → i ≤ top s → v i (column s leaf i) (row s leaf i) ≤ leaf_of s v leaf
over_leaf s v leaf zero less tree level = omega arith
over_leaf s v leaf (suc i) less tree level =
    let below = over_leaf s v leaf i less tree (omega (arith, level)) in
    let here = tree i (column s leaf i) (row s leaf i) (path_node s leaf i less (omega (arith, level))) in
    let up = above_way s v leaf i (omega (arith, level)) in
    omega (arith, below, here, up)

-- A node below two thresholds tells the same at either.
piece_same : (u w a t t' : ℕ) → u ≤ w → w < t → t ≤ t' → rest_of_word u w a t ≡ rest_of_word u w a t'
piece_same u w a t t' tree less more =
    elim (cases_lt a t) [
      | inl asks ↦
          let one : nat_lt a t ≡ true = grind (arith, nat_tests) in
          let two : nat_lt a t' ≡ true = grind (arith, nat_tests) in
          let below : nat_lt w t ≡ true = grind (arith, nat_tests) in
          let below' : nat_lt w t' ≡ true = grind (arith, nat_tests) in
          let zeros : min w t - min u t ≡ min w t' - min u t' = omega arith in
          let same : word u w t ≡ word u w t' =
          ap (λ n. replicate n false ++ cond (nat_lt w t) (true ∷ []) []) zeros ∙ ap (λ (b : Bool). replicate (min w t' - min u t') false ++ cond b (true ∷ []) []) (below ∙ sym below') in
          ap (λ (b : Bool). cond b (drop (length (word u w a)) (word u w t)) []) one
          ∙ ap (drop (length (word u w a))) same
          ∙ ap (λ (b : Bool). cond b (drop (length (word u w a)) (word u w t')) []) (sym two)
      | inr high ↦
          piece_asked u w a t high ∙ sym (elim (cases_lt a t') [
            | inl asks ↦ piece_known u w a t' tree (omega (arith, less, high)) asks
            | inr higher ↦ piece_asked u w a t' higher
          ])
    ]

told_below_same : (s : Shape) (v : Values) (queries : List Query) (leaf t t' i : ℕ) → leaf < s.width * s.height → IsTree s v → leaf_of s v leaf < t → t ≤ t' → i ≤ suc (top s)
    → told_below s v queries (query_of leaf t) i ≡ told_below s v queries (query_of leaf t') i
told_below_same s v queries leaf t t' zero less tree low more level = told_none s v queries (query_of leaf t) ∙ sym (told_none s v queries (query_of leaf t'))
told_below_same s v queries leaf t t' (suc i) less tree low more level =
    let x = column s leaf i in
    let y = row s leaf i in
    let here : v i x y < t = (let o = over_leaf s v leaf i less tree (omega (arith, level)) in omega (arith, o, low)) in
    let up : above s v i x y ≤ v i x y = tree i x y (path_node s leaf i less (omega (arith, level))) in
    below-suc s v queries (query_of leaf t) i
    ∙ ap (λ (bits : List Bool). bits ++ told_below s v queries (query_of leaf t) i) (piece_same (above s v i x y) (v i x y) (asked s queries i x y) t t' up here more)
    ∙ ap (λ (bits : List Bool). rest_of_word (above s v i x y) (v i x y) (asked s queries i x y) t' ++ bits) (told_below_same s v queries leaf t t' i less tree low more (omega (arith, level)))
    ∙ sym (below-suc s v queries (query_of leaf t') i)

-- Asking for more than a leaf's value tells what asking up to it tells, and leaves the same.
pub told_same : (s : Shape) (v : Values) (queries : List Query) (leaf t t' : ℕ) → leaf < s.width * s.height → IsTree s v → leaf_of s v leaf < t → t ≤ t' → told s v queries (query_of leaf t) ≡ told s v queries (query_of leaf t')
told_same s v queries leaf t t' less tree low more =
    told_all s v queries (query_of leaf t) ∙ told_below_same s v queries leaf t t' (suc (top s)) less tree low more (omega arith) ∙ sym (told_all s v queries (query_of leaf t'))

-- a value below two thresholds is told alike by both
has_same : (u w a t t' : ℕ) (z : Node) → w < t → w < t' → HasTold u w (max a t) z → HasTold u w (max a t') z
has_same u w a t t' z low low' h =
    let one : nat_lt w (max a t) ≡ true = grind (arith, nat_tests) in
    let two : nat_lt w (max a t') ≡ true = grind (arith, nat_tests) in
    record {
      known = h.known ∙ one ∙ sym two;
      value = h.value;
      least = λ k. absurd (let f : false ≡ true = sym k ∙ h.known ∙ one in cc);
    }

asked_same : (s : Shape) (v : Values) (queries : List Query) (leaf t t' j x y : ℕ) (z : Node) → leaf < s.width * s.height → IsTree s v → leaf_of s v leaf < t → leaf_of s v leaf < t' → IsNode s j x y
    → HasTold (above s v j x y) (v j x y) (asked s (queries ++ query_of leaf t ∷ []) j x y) z → HasTold (above s v j x y) (v j x y) (asked s (queries ++ query_of leaf t' ∷ []) j x y) z
asked_same s v queries leaf t t' j x y z less tree low low' n h =
    subst (λ a. HasTold (above s v j x y) (v j x y) a z) (sym (asked_push s queries (query_of leaf t') j x y))
    (by_way (passes s leaf j x y) (passes_at s leaf j x y) (subst (λ a. HasTold (above s v j x y) (v j x y) a z) (asked_push s queries (query_of leaf t) j x y) h))
  where
    by_way : (b : Bool) → (b ≡ true → (column s leaf j ≡ x) × (row s leaf j ≡ y))
        → HasTold (above s v j x y) (v j x y) (max (asked s queries j x y) (cond b t 0)) z → HasTold (above s v j x y) (v j x y) (max (asked s queries j x y) (cond b t' 0)) z
    by_way false on has = has
    by_way true on has =
        let e = on refl in
        let here : v j x y ≤ leaf_of s v leaf = subst (λ y'. v j x y' ≤ leaf_of s v leaf) e.1 (subst (λ x'. v j x' (row s leaf j) ≤ leaf_of s v leaf) e.0 (over_leaf s v leaf j less tree n.level)) in
        has_same (above s v j x y) (v j x y) (asked s queries j x y) t t' z (omega (arith, here, low)) (omega (arith, here, low')) has

pub stands_same : (s : Shape) (v : Values) (queries : List Query) (leaf t t' : ℕ) (nodes : List Node) → leaf < s.width * s.height → leaf_of s v leaf < t → leaf_of s v leaf < t' → AreTold s v (queries ++ query_of leaf t ∷ []) nodes
    → AreTold s v (queries ++ query_of leaf t' ∷ []) nodes
stands_same s v queries leaf t t' nodes less low low' st = record {
  tree = st.tree;
  each = λ j x y n. asked_same s v queries leaf t t' j x y (node_at nodes (node_number s j x y)) less st.tree low low' n (st.each j x y n);
}

-- What is known of a leaf is its value.
pub value_is : (s : Shape) (v : Values) (queries : List Query) (leaf : ℕ) (nodes : List Node) → leaf < s.width * s.height → (node_at nodes leaf).known ≡ true → AreTold s v queries nodes → leaf_of s v leaf ≡ (node_at nodes leaf).low
value_is s v queries leaf nodes less known st =
    let own = st.each 0 (column s leaf 0) (row s leaf 0) (path_node s leaf 0 less (omega arith)) in
    let at = place_leaf s leaf in
    sym (own.value (ap (λ p. (node_at nodes p).known) at ∙ known)) ∙ ap (λ p. (node_at nodes p).low) at

-- and it is known where it is less than was asked
pub low_is : (s : Shape) (v : Values) (queries : List Query) (leaf t : ℕ) (nodes : List Node) → leaf < s.width * s.height → leaf_of s v leaf < t → AreTold s v (queries ++ query_of leaf t ∷ []) nodes → (node_at nodes leaf).low ≡ leaf_of s v leaf
low_is s v queries leaf t nodes less low st =
    let x = column s leaf 0 in
    let y = row s leaf 0 in
    let own = st.each 0 x y (path_node s leaf 0 less (omega arith)) in
    let more : asked s (queries ++ query_of leaf t ∷ []) 0 x y ≡ max (asked s queries 0 x y) t = asked_push s queries (query_of leaf t) 0 x y ∙ ap (λ (b : Bool). max (asked s queries 0 x y) (cond b t 0)) (passes_own s leaf 0) in
    let yes : nat_lt (v 0 x y) (asked s (queries ++ query_of leaf t ∷ []) 0 x y) ≡ true = grind (arith, nat_tests) in
    sym (value_is s v (queries ++ query_of leaf t ∷ []) leaf nodes less (ap (λ p. (node_at nodes p).known) (sym (place_leaf s leaf)) ∙ own.known ∙ yes) st)

-- A tree of which nothing is known.
pub blank_open : (s : Shape) → IsOpen s (blank_tree s)
unfolding blank_tree
blank_open s = record { shape = refl; sound = refl; long = length-replicate (count s) record { low = 0; known = false } }

pub blank_tree_stands : (s : Shape) (v : Values) → IsTree s v → AreTold s v [] (blank_tree s).nodes
unfolding blank_tree
blank_tree_stands s v tree = fresh s v (count s) tree (omega arith)
