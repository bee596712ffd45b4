-- The way from the root to a leaf: a tree whose words are ahead tells them.
use Rattle.std.proofs.Common.{◌≡◌, ℕ, zero, suc, ◌+◌, ◌*◌, ◌/◌, ◌-◌, ◌<◌, ◌≤◌, min, max, Bool, true, false, cond, List, [], ◌∷◌, ◌++◌, length, set, drop, replicate, Result, Ok, Err, refl, sym, ap, ◌∙◌, subst, inl, inr, arith, append_assoc, length-append, add-zero}
use Rattle.std.specs.Prelude.{◌&&◌, ◌==◌, ◌⊎◌, nat_lt, nat_le}
use Rattle.std.proofs.lemmas.Bool.{cases_eq, cases_Bool, cases_lt}
use Rattle.std.proofs.lemmas.Bool.Decides.{nat_tests}
use Rattle.std.proofs.lemmas.List.{get_or-set_same, get_or-set_other, length-set, append-nil}
use Rattle.jk_math.specs.Answer.{◌>>=◌}
use Rattle.jk_math.specs.declared.fault.Fault.{Fault}
use Rattle.jk_bits.specs.Reading.{Bits, ahead}
use Rattle.jk_tree.specs.TagTree.{Shape, top, node_number, count, column, row, IsNode, Values, above, IsTree, Query, passes, asked, word, rest_of_word, told_below, leaf_of}
use Rattle.jk_tree.specs.declared.node.Node.{Node}
use Rattle.jk_tree.specs.Asking.{HasTold, node_at, visit, walk}
use Rattle.jk_bits.specs.Giving.{advance, ahead_on}
use Rattle.jk_tree.proofs.Visits.{visit_told}
use Rattle.jk_tree.proofs.Places.{same_place, place_counted, path_node, column_up, row_up, passes_at, passes_own}

-- One query more.
pub asked_push : (s : Shape) (queries : List Query) (q : Query) (i x y : ℕ) → asked s (queries ++ q ∷ []) i x y ≡ max (asked s queries i x y) (cond (passes s q.leaf i x y) q.threshold 0)
unfolding asked
asked_push s [] q i x y = omega arith
asked_push s (p ∷ queries) q i x y =
    let more = asked_push s queries q i x y in
    omega (arith, more)

-- What a node was asked for once the levels from i on are told.
abbrev pub half : Shape → List Query → Query → ℕ → ℕ → ℕ → ℕ → ℕ
half s queries q i j x y = max (asked s queries j x y) (cond (nat_le i j && passes s q.leaf j x y) q.threshold 0)

pub half_all : (s : Shape) (queries : List Query) (q : Query) (j x y : ℕ) → half s queries q 0 j x y ≡ asked s (queries ++ q ∷ []) j x y
half_all s queries q j x y =
    ap (λ (b : Bool). max (asked s queries j x y) (cond (b && passes s q.leaf j x y) q.threshold 0)) (let e : nat_le 0 j ≡ true = grind (arith, nat_tests) in e)
    ∙ sym (asked_push s queries q j x y)

pub half_less : (s : Shape) (queries : List Query) (q : Query) (i j x y : ℕ) → j < i → half s queries q i j x y ≡ asked s queries j x y
half_less s queries q i j x y h =
    ap (λ (b : Bool). max (asked s queries j x y) (cond (b && passes s q.leaf j x y) q.threshold 0)) (let e : nat_le i j ≡ false = grind (arith, nat_tests) in e)
    ∙ omega arith

pub half_none : (s : Shape) (queries : List Query) (q : Query) (j x y : ℕ) → j ≤ top s → half s queries q (suc (top s)) j x y ≡ asked s queries j x y
half_none s queries q j x y h = half_less s queries q (suc (top s)) j x y (omega arith)

-- the nodes on the way from level i on are told
pub half_at : (s : Shape) (queries : List Query) (q : Query) (i k : ℕ) → i ≤ k → half s queries q i k (column s q.leaf k) (row s q.leaf k) ≡ max (asked s queries k (column s q.leaf k) (row s q.leaf k)) q.threshold
half_at s queries q i k h =
    ap (λ (b : Bool). max (asked s queries k (column s q.leaf k) (row s q.leaf k)) (cond (b && passes s q.leaf k (column s q.leaf k) (row s q.leaf k)) q.threshold 0)) (let e : nat_le i k ≡ true = grind (arith, nat_tests) in e)
    ∙ ap (λ (b : Bool). max (asked s queries k (column s q.leaf k) (row s q.leaf k)) (cond b q.threshold 0)) (passes_own s q.leaf k)

pub half_own : (s : Shape) (queries : List Query) (q : Query) (i : ℕ) → half s queries q i i (column s q.leaf i) (row s q.leaf i) ≡ max (asked s queries i (column s q.leaf i) (row s q.leaf i)) q.threshold
half_own s queries q i = half_at s queries q i i (omega arith)

-- and no other
pub half_other : (s : Shape) (queries : List Query) (q : Query) (i j x y : ℕ) → (j ≡ i → passes s q.leaf j x y ≡ true → ⊥) → half s queries q i j x y ≡ half s queries q (suc i) j x y
half_other s queries q i j x y other =
    elim (cases_Bool (passes s q.leaf j x y)) [
      | inl yes_passes ↦ elim (cases_eq j i) [
        | inl same ↦ absurd (other same yes_passes)
        | inr apart ↦ ap (λ (b : Bool). max (asked s queries j x y) (cond (b && passes s q.leaf j x y) q.threshold 0)) (same_side i j apart)
      ]
      | inr no_pass ↦
          let at = λ (b : Bool). max (asked s queries j x y) (cond (b && passes s q.leaf j x y) q.threshold 0) in
          none (nat_le i j) (passes s q.leaf j x y) (asked s queries j x y) q.threshold no_pass ∙ sym (none (nat_le (suc i) j) (passes s q.leaf j x y) (asked s queries j x y) q.threshold no_pass)
    ]
  where
    same_side : (i j : ℕ) → (j ≡ i → ⊥) → nat_le i j ≡ nat_le (suc i) j
    same_side i j apart = grind (arith, nat_tests)

    none : (b p : Bool) (a t : ℕ) → p ≡ false → max a (cond (b && p) t 0) ≡ a
    none true p a t h = ap (λ (c : Bool). max a (cond c t 0)) h ∙ omega arith
    none false p a t h = omega arith

-- a node that isn't that of level i on the way stands elsewhere
pub apart_places : (s : Shape) (leaf i j x y : ℕ) → leaf < s.width * s.height → i ≤ top s → IsNode s j x y → (j ≡ i → passes s leaf j x y ≡ true → ⊥) → node_number s j x y ≡ node_number s i (column s leaf i) (row s leaf i) → ⊥
apart_places s leaf i j x y less level n other e =
    let same = same_place s j x y i (column s leaf i) (row s leaf i) n (path_node s leaf i less level) e in
    other same.0 (subst (λ k. passes s leaf k x y ≡ true) (sym same.0)
    (subst (λ u. passes s leaf i u y ≡ true) (sym same.1)
    (subst (λ v. passes s leaf i (column s leaf i) v ≡ true) (sym same.2) (passes_own s leaf i))))

-- The nodes, once the levels from i on are told.
pub record HalfTold (s : Shape) (v : Values) (queries : List Query) (q : Query) (i : ℕ) (nodes : List Node) : Type 0 where
  pub long : length nodes ≡ count s
  pub each : (j x y : ℕ) → IsNode s j x y → HasTold (above s v j x y) (v j x y) (half s queries q i j x y) (node_at nodes (node_number s j x y))

-- which node (j, x, y) is: that of level i on the way, or another
pub cases_on_way : (s : Shape) (leaf i j x y : ℕ) → ((j ≡ i) × (column s leaf i ≡ x) × (row s leaf i ≡ y)) ⊎ (j ≡ i → passes s leaf j x y ≡ true → ⊥)
cases_on_way s leaf i j x y =
    elim (cases_eq j i) [
      | inl same ↦ elim (cases_Bool (passes s leaf i x y)) [
        | inl through ↦ inl (let both = passes_at s leaf i x y through in (same, both.0, both.1))
        | inr past ↦ inr (λ e h. (let f : true ≡ false = sym (subst (λ k. passes s leaf k x y ≡ true) same h) ∙ past in cc))
      ]
      | inr apart ↦ inr (λ e h. apart e)
    ]

pub half_set : (s : Shape) (v : Values) (queries : List Query) (q : Query) (i : ℕ) (nodes : List Node) (own : Node) → q.leaf < s.width * s.height → i ≤ top s → HalfTold s v queries q (suc i) nodes
    → HasTold (above s v i (column s q.leaf i) (row s q.leaf i)) (v i (column s q.leaf i) (row s q.leaf i)) (max (asked s queries i (column s q.leaf i) (row s q.leaf i)) q.threshold) own
    → HalfTold s v queries q i (set nodes (node_number s i (column s q.leaf i) (row s q.leaf i)) own)
half_set s v queries q i nodes own less level h told =
    let cx = column s q.leaf i in
    let cy = row s q.leaf i in
    let p = node_number s i cx cy in
    let within : p < length nodes = (let e = h.long in let f = place_counted s i cx cy (path_node s q.leaf i less level) in omega (arith, e, f)) in
    record {
      long = length-set nodes p own ∙ h.long;
      each = λ j x y n. elim (cases_on_way s q.leaf i j x y) [
        | inl is ↦
            subst (λ k. HasTold (above s v k x y) (v k x y) (half s queries q i k x y) (node_at (set nodes p own) (node_number s k x y))) (sym is.0)
            (subst (λ u. HasTold (above s v i u y) (v i u y) (half s queries q i i u y) (node_at (set nodes p own) (node_number s i u y))) is.1
            (subst (λ w. HasTold (above s v i cx w) (v i cx w) (half s queries q i i cx w) (node_at (set nodes p own) (node_number s i cx w))) is.2
            (subst (λ (m : Node). HasTold (above s v i cx cy) (v i cx cy) (half s queries q i i cx cy) m) (sym (get_or-set_same nodes p own _ within))
            (subst (λ a. HasTold (above s v i cx cy) (v i cx cy) a own) (sym (half_own s queries q i)) told))))
        | inr other ↦
            subst (λ (m : Node). HasTold (above s v j x y) (v j x y) (half s queries q i j x y) m) (sym (get_or-set_other nodes p (node_number s j x y) own _ (apart_places s q.leaf i j x y less level n other)))
            (subst (λ a. HasTold (above s v j x y) (v j x y) a (node_at nodes (node_number s j x y))) (sym (half_other s queries q i j x y other)) (h.each j x y n))
      ];
    }

pub not_top : (s : Shape) (i : ℕ) → i < top s → (i == top s) ≡ false
not_top s i less = grind (arith, nat_tests)

pub above_way : (s : Shape) (v : Values) (leaf i : ℕ) → i < top s → above s v i (column s leaf i) (row s leaf i) ≡ v (suc i) (column s leaf (suc i)) (row s leaf (suc i))
above_way s v leaf i less =
    let one : i + 1 ≡ suc i = omega arith in
    ap (λ (b : Bool). cond b 0 (v (i + 1) (column s leaf i / 2) (row s leaf i / 2))) (not_top s i less)
    ∙ ap (λ x. v (i + 1) x (row s leaf i / 2)) (column_up s leaf i)
    ∙ ap (λ y. v (i + 1) (column s leaf (i + 1)) y) (row_up s leaf i)
    ∙ ap (λ k. v k (column s leaf k) (row s leaf k)) one

-- what is known above level i on the way, where levels below i are left: the value over it, which is below the threshold
pub record IsOver (s : Shape) (v : Values) (q : Query) (i over : ℕ) : Type 0 where
  pub root : i ≡ suc (top s) → over ≡ 0
  pub value : i ≤ top s → over ≡ v i (column s q.leaf i) (row s q.leaf i)
  pub below : i ≤ top s → over < q.threshold

pub over_root : (s : Shape) (v : Values) (q : Query) → IsOver s v q (suc (top s)) 0
over_root s v q = record { root = λ _. refl; value = λ level. absurd (omega (arith, level)); below = λ level. absurd (omega (arith, level)) }

pub over_next : (s : Shape) (v : Values) (q : Query) (i over : ℕ) → i ≤ top s → over ≡ v i (column s q.leaf i) (row s q.leaf i) → over < q.threshold → IsOver s v q i over
over_next s v q i over level e less = record { root = λ at. absurd (omega (arith, at, level)); value = λ _. e; below = λ _. less }

pub above_root : (s : Shape) (v : Values) (i x y : ℕ) → i ≡ top s → above s v i x y ≡ 0
above_root s v i x y e = ap (λ (b : Bool). cond b 0 (v (i + 1) (x / 2) (y / 2))) (same_test i (top s) e)
  where
    same_test : (m n : ℕ) → m ≡ n → (m == n) ≡ true
    same_test m n e = grind (arith, nat_tests)

-- it is the value above the next node of the way
pub over_above : (s : Shape) (v : Values) (q : Query) (i over : ℕ) → i ≤ top s → IsOver s v q (suc i) over → over ≡ above s v i (column s q.leaf i) (row s q.leaf i)
over_above s v q i over level o =
    elim (cases_eq i (top s)) [
      | inl at ↦ o.root (ap suc at) ∙ sym (above_root s v i (column s q.leaf i) (row s q.leaf i) at)
      | inr apart ↦ (let under : i < top s = omega (arith, level, apart) in o.value (omega (arith, under)) ∙ sym (above_way s v q.leaf i under))
    ]

-- and within the threshold
pub over_within : (s : Shape) (v : Values) (q : Query) (i over : ℕ) → i ≤ top s → IsOver s v q (suc i) over → over ≤ q.threshold
over_within s v q i over level o =
    elim (cases_eq i (top s)) [
      | inl at ↦ (let e = o.root (ap suc at) in omega (arith, e))
      | inr apart ↦ (let less = o.below (omega (arith, level, apart)) in omega (arith, less))
    ]

pub over_min : (s : Shape) (v : Values) (q : Query) (i over : ℕ) → i ≤ top s → IsOver s v q (suc i) over → over ≡ min (above s v i (column s q.leaf i) (row s q.leaf i)) q.threshold
over_min s v q i over level o = let e = over_above s v q i over level o in let w = over_within s v q i over level o in omega (arith, e, w)

pub below-suc : (s : Shape) (v : Values) (queries : List Query) (q : Query) (i : ℕ) → told_below s v queries q (suc i)
    ≡ rest_of_word (above s v i (column s q.leaf i) (row s q.leaf i)) (v i (column s q.leaf i) (row s q.leaf i)) (asked s queries i (column s q.leaf i) (row s q.leaf i)) q.threshold ++ told_below s v queries q i
unfolding told_below
below-suc s v queries q i = refl

pub told_none : (s : Shape) (v : Values) (queries : List Query) (q : Query) → told_below s v queries q 0 ≡ []
unfolding told_below
told_none s v queries q = refl

-- one level of the walk
pub walk_level : (s : Shape) (q : Query) (i over : ℕ) (nodes : List Node) (r : Bits) (o : Result (Node × Bits) Fault) → visit (node_at nodes (node_number s i (column s q.leaf i) (row s q.leaf i))) over q.threshold r ≡ o
    → walk s q (suc i) over nodes r ≡ (o >>= (λ e. cond (nat_lt e.0.low q.threshold) (walk s q i e.0.low (set nodes (node_number s i (column s q.leaf i) (row s q.leaf i)) e.0) e.1) (Ok (false, (set nodes (node_number s i (column s q.leaf i) (row s q.leaf i)) e.0, e.1)))))
unfolding walk
walk_level s q i over nodes r o h =
    let p = node_number s i (column s q.leaf i) (row s q.leaf i) in
    ap (λ (o : Result (Node × Bits) Fault). o >>= (λ e. cond (nat_lt e.0.low q.threshold) (walk s q i e.0.low (set nodes p e.0) e.1) (Ok (false, (set nodes p e.0, e.1))))) h

pub walk_err : (s : Shape) (q : Query) (i over : ℕ) (nodes : List Node) (r : Bits) (e : Fault) → visit (node_at nodes (node_number s i (column s q.leaf i) (row s q.leaf i))) over q.threshold r ≡ Err e
    → walk s q (suc i) over nodes r ≡ Err e
walk_err s q i over nodes r e h = walk_level s q i over nodes r (Err e) h

-- the node is below the threshold
pub walk_on : (s : Shape) (q : Query) (i over : ℕ) (nodes : List Node) (r : Bits) (node : Node) (r' : Bits) → visit (node_at nodes (node_number s i (column s q.leaf i) (row s q.leaf i))) over q.threshold r ≡ Ok (node, r')
    → node.low < q.threshold → walk s q (suc i) over nodes r ≡ walk s q i node.low (set nodes (node_number s i (column s q.leaf i) (row s q.leaf i)) node) r'
walk_on s q i over nodes r node r' h less =
    let p = node_number s i (column s q.leaf i) (row s q.leaf i) in
    walk_level s q i over nodes r (Ok (node, r')) h
    ∙ ap (λ (b : Bool). cond b (walk s q i node.low (set nodes p node) r') (Ok (false, (set nodes p node, r')))) (let e : nat_lt node.low q.threshold ≡ true = grind (arith, nat_tests) in e)

-- it isn't
pub walk_stop : (s : Shape) (q : Query) (i over : ℕ) (nodes : List Node) (r : Bits) (node : Node) (r' : Bits) → visit (node_at nodes (node_number s i (column s q.leaf i) (row s q.leaf i))) over q.threshold r ≡ Ok (node, r')
    → q.threshold ≤ node.low → walk s q (suc i) over nodes r ≡ Ok (false, (set nodes (node_number s i (column s q.leaf i) (row s q.leaf i)) node, r'))
walk_stop s q i over nodes r node r' h high =
    let p = node_number s i (column s q.leaf i) (row s q.leaf i) in
    walk_level s q i over nodes r (Ok (node, r')) h
    ∙ ap (λ (b : Bool). cond b (walk s q i node.low (set nodes p node) r') (Ok (false, (set nodes p node, r')))) (let e : nat_lt node.low q.threshold ≡ false = grind (arith, nat_tests) in e)

pub walk_over : (s : Shape) (q : Query) (over : ℕ) (nodes : List Node) (r : Bits) → walk s q 0 over nodes r ≡ Ok (true, (nodes, r))
unfolding walk
walk_over s q over nodes r = refl

-- No node on the way is above those below it.
pub way_mono : (s : Shape) (v : Values) (leaf k more : ℕ) → leaf < s.width * s.height → IsTree s v → k + more ≤ top s
    → v (k + more) (column s leaf (k + more)) (row s leaf (k + more)) ≤ v k (column s leaf k) (row s leaf k)
way_mono s v leaf k zero less tree level = same (k + 0) k (omega arith)
  where
    same : (a b : ℕ) → a ≡ b → v a (column s leaf a) (row s leaf a) ≤ v b (column s leaf b) (row s leaf b)
    same a b e = (let f = ap (λ j. v j (column s leaf j) (row s leaf j)) e in omega (arith, f))
way_mono s v leaf k (suc more) less tree level =
    let at : k + suc more ≡ suc (k + more) = omega arith in
    let up = tree (k + more) (column s leaf (k + more)) (row s leaf (k + more)) (path_node s leaf (k + more) less (omega (arith, level))) in
    let over = above_way s v leaf (k + more) (omega (arith, level)) in
    let rest = way_mono s v leaf k more less tree (omega (arith, level)) in
    let moved = ap (λ j. v j (column s leaf j) (row s leaf j)) at in
    omega (arith, up, over, rest, moved)

pub over_way : (s : Shape) (v : Values) (leaf k i : ℕ) → leaf < s.width * s.height → IsTree s v → k ≤ i → i ≤ top s → v i (column s leaf i) (row s leaf i) ≤ v k (column s leaf k) (row s leaf k)
over_way s v leaf k i less tree low level =
    let at : k + (i - k) ≡ i = omega (arith, low) in
    let moved = ap (λ j. v j (column s leaf j) (row s leaf j)) at in
    let w = way_mono s v leaf k (i - k) less tree (omega (arith, low, level)) in
    omega (arith, moved, w)

-- Under a node that isn't below the threshold nothing is told.
word_none : (u w t : ℕ) → t ≤ u → u ≤ w → word u w t ≡ []
word_none u w t high tree =
    let zeros : min w t - min u t ≡ 0 = omega (arith, high, tree) in
    let none : nat_lt w t ≡ false = grind (arith, nat_tests) in
    ap (λ n. replicate n false ++ cond (nat_lt w t) (true ∷ []) []) zeros ∙ ap (λ (b : Bool). cond b (true ∷ []) []) none

pub piece_none : (u w a t : ℕ) → t ≤ u → u ≤ w → rest_of_word u w a t ≡ []
piece_none u w a t high tree =
    ap (λ (bs : List Bool). cond (nat_lt a t) (drop (length (word u w a)) bs) []) (word_none u w t high tree) ∙ none (nat_lt a t) (length (word u w a))
  where
    none : (b : Bool) (n : ℕ) → ◌≡◌ {A = List Bool} (cond b (drop n []) []) []
    none true zero = refl
    none true (suc n) = refl
    none false n = refl

pub below_none : (s : Shape) (v : Values) (queries : List Query) (q : Query) → q.leaf < s.width * s.height → IsTree s v → (i : ℕ) → i ≤ top s
    → q.threshold ≤ v i (column s q.leaf i) (row s q.leaf i) → told_below s v queries q i ≡ []
below_none s v queries q less tree zero level high = told_none s v queries q
below_none s v queries q less tree (suc i) level high =
    let x = column s q.leaf i in
    let y = row s q.leaf i in
    let in_tree : i ≤ top s = omega (arith, level) in
    let up = above_way s v q.leaf i (omega (arith, level)) in
    let fits = tree i x y (path_node s q.leaf i less in_tree) in
    let over : q.threshold ≤ above s v i x y = omega (arith, up, high) in
    below-suc s v queries q i
    ∙ ap (λ (bs : List Bool). bs ++ told_below s v queries q i) (piece_none (above s v i x y) (v i x y) (asked s queries i x y) q.threshold over fits)
    ∙ below_none s v queries q less tree i in_tree (omega (arith, over, fits))

-- Once a node isn't below the threshold, those below it are told too: that they aren't either.
half_stopped : (s : Shape) (v : Values) (queries : List Query) (q : Query) (i : ℕ) (nodes : List Node) → q.leaf < s.width * s.height → IsTree s v → i ≤ top s
    → q.threshold ≤ v i (column s q.leaf i) (row s q.leaf i) → HalfTold s v queries q i nodes → HalfTold s v queries q 0 nodes
half_stopped s v queries q i nodes less tree level high h = record { long = h.long; each = λ j x y n. by_way j x y n (cases_Bool (passes s q.leaf j x y)) (cases_lt j i) }
  where
    t : ℕ
    t = q.threshold

    -- a node that tells nothing more may be asked for the threshold of a node above it
    more : (u w a : ℕ) (node : Node) → t ≤ u → u ≤ w → HasTold u w a node → HasTold u w (max a t) node
    more u w a node over fits told = record {
      known = told.known ∙ same w a (omega (arith, over, fits));
      value = told.value;
      least = λ n. (let l = told.least n in (omega (arith, l.0), omega (arith, l.1, over)));
    }
      where
        same : (w a : ℕ) → t ≤ w → nat_lt w a ≡ nat_lt w (max a t)
        same w a high = grind (arith, nat_tests)

    by_way : (j x y : ℕ) → IsNode s j x y → (passes s q.leaf j x y ≡ true) ⊎ (passes s q.leaf j x y ≡ false) → (j < i) ⊎ (i ≤ j)
        → HasTold (above s v j x y) (v j x y) (half s queries q 0 j x y) (node_at nodes (node_number s j x y))
    by_way j x y n (inr past) order =
        let none : (k : ℕ) → half s queries q k j x y ≡ asked s queries j x y = λ k. (ap (λ (b : Bool). max (asked s queries j x y) (cond (nat_le k j && b) t 0)) past ∙ no_pass (nat_le k j) (asked s queries j x y)) in
        subst (λ a. HasTold (above s v j x y) (v j x y) a (node_at nodes (node_number s j x y))) (none i ∙ sym (none 0)) (h.each j x y n)
      where
        no_pass : (b : Bool) (a : ℕ) → max a (cond (b && false) t 0) ≡ a
        no_pass true a = omega arith
        no_pass false a = omega arith
    by_way j x y n (inl through) (inr from) =
        let at = passes_at s q.leaf j x y through in
        let same : half s queries q i j x y ≡ half s queries q 0 j x y = ap (λ (b : Bool). max (asked s queries j x y) (cond (b && passes s q.leaf j x y) t 0)) (let e : nat_le i j ≡ true = grind (arith, nat_tests) in let f : nat_le 0 j ≡ true = grind (arith, nat_tests) in e ∙ sym f) in
        subst (λ a. HasTold (above s v j x y) (v j x y) a (node_at nodes (node_number s j x y))) same (h.each j x y n)
    by_way j x y n (inl through) (inl under) =
        let at = passes_at s q.leaf j x y through in
        let on = h.each j x y n in
        let told : HasTold (above s v j x y) (v j x y) (asked s queries j x y) (node_at nodes (node_number s j x y)) = subst (λ a. HasTold (above s v j x y) (v j x y) a (node_at nodes (node_number s j x y))) (half_less s queries q i j x y under) on in
        let way_up = above_way s v q.leaf j (omega (arith, under, level)) in
        let same_up : above s v j (column s q.leaf j) (row s q.leaf j) ≡ above s v j x y = ap (λ a. above s v j a (row s q.leaf j)) at.0 ∙ ap (λ b. above s v j x b) at.1 in
        let low = over_way s v q.leaf (suc j) i less tree (omega (arith, under)) level in
        let over : t ≤ above s v j x y = omega (arith, way_up, same_up, low, high) in
        let all : max (asked s queries j x y) t ≡ half s queries q 0 j x y =
        sym (ap (λ (b : Bool). max (asked s queries j x y) (cond (b && passes s q.leaf j x y) t 0)) (let e : nat_le 0 j ≡ true = grind (arith, nat_tests) in e) ∙ ap (λ (b : Bool). max (asked s queries j x y) (cond b t 0)) through) in
        subst (λ a. HasTold (above s v j x y) (v j x y) a (node_at nodes (node_number s j x y))) all (more (above s v j x y) (v j x y) (asked s queries j x y) (node_at nodes (node_number s j x y)) over (tree j x y n) told)

-- the walk over the levels below i tells them
pub record WalkTold (s : Shape) (v : Values) (queries : List Query) (q : Query) (i over : ℕ) (nodes : List Node) (r : Bits) : Type 0 where
  pub after : List Node
  pub is : walk s q i over nodes r ≡ Ok (nat_lt (leaf_of s v q.leaf) q.threshold, (after, advance r (length (told_below s v queries q i))))
  pub told_all : HalfTold s v queries q 0 after

pub walk_told : (s : Shape) (v : Values) (queries : List Query) (q : Query) → q.leaf < s.width * s.height → IsTree s v
    → (i over : ℕ) (nodes : List Node) (r : Bits) (rest : List Bool) → i ≤ suc (top s) → HalfTold s v queries q i nodes → IsOver s v q i over
    → ahead r ≡ told_below s v queries q i ++ rest → WalkTold s v queries q i over nodes r
walk_told s v queries q less tree zero over nodes r rest level h o first = record {
  after = nodes;
  is =
      walk_over s q over nodes r
      ∙ ap (λ (b : Bool). Ok (b, (nodes, r))) (let value = o.value (omega arith) in let below = o.below (omega arith) in let e : nat_lt (leaf_of s v q.leaf) q.threshold ≡ true = grind (arith, nat_tests) in sym e)
      ∙ ap (λ n. Ok (nat_lt (leaf_of s v q.leaf) q.threshold, (nodes, record r { read = n }))) (sym (add-zero r.read))
      ∙ ap (λ (bs : List Bool). Ok (nat_lt (leaf_of s v q.leaf) q.threshold, (nodes, advance r (length bs)))) (sym (told_none s v queries q));
  told_all = h;
}
walk_told s v queries q less tree (suc i) over nodes r rest level h o first =
    let x = column s q.leaf i in
    let y = row s q.leaf i in
    let t = q.threshold in
    let w = v i x y in
    let u = above s v i x y in
    let a = asked s queries i x y in
    let bits = rest_of_word u w a t in
    let more = told_below s v queries q i in
    let p = node_number s i x y in
    let in_tree : i ≤ top s = omega (arith, level) in
    let n = path_node s q.leaf i less in_tree in
    let has : HasTold u w a (node_at nodes p) = subst (λ b. HasTold u w b (node_at nodes p)) (half_less s queries q (suc i) i x y (omega arith)) (h.each i x y n) in
    let ahead_is : ahead r ≡ bits ++ (more ++ rest) = first ∙ ap (λ (bs : List Bool). bs ++ rest) (below-suc s v queries q i) ∙ append_assoc bits more rest in
    let told = visit_told u w a t (node_at nodes p) r (more ++ rest) (tree i x y n) has ahead_is in
    let own = told.after in
    let visited : visit (node_at nodes p) over t r ≡ Ok (own, advance r (length bits)) = ap (λ k. visit (node_at nodes p) k t r) (over_min s v q i over in_tree o) ∙ told.is in
    let set_on = half_set s v queries q i nodes own less in_tree h told.told in
    elim (cases_lt own.low t) [
      | inl under ↦
          (let value = told.below under in
          let rec = walk_told s v queries q less tree i own.low (set nodes p own) (advance r (length bits)) rest (omega (arith, level)) set_on (over_next s v q i own.low in_tree value under) (ahead_on r bits (more ++ rest) ahead_is) in
          record {
            after = rec.after;
            is =
                walk_on s q i over nodes r own (advance r (length bits)) visited under
                ∙ rec.is
                ∙ ap (λ k. Ok (nat_lt (leaf_of s v q.leaf) t, (rec.after, record r { read = k }))) (let e : r.read + length bits + length more ≡ r.read + length (bits ++ more) = omega (arith, length-append bits more) in e)
                ∙ ap (λ (bs : List Bool). Ok (nat_lt (leaf_of s v q.leaf) t, (rec.after, advance r (length bs)))) (sym (below-suc s v queries q i));
            told_all = rec.told_all;
          })
      | inr stop ↦
          (let high = told.high stop in
          let none = below_none s v queries q less tree i in_tree high in
          let leaf = over_way s v q.leaf 0 i less tree (omega arith) in_tree in
          let answer : false ≡ nat_lt (leaf_of s v q.leaf) t = grind (arith, nat_tests) in
          record {
            after = set nodes p own;
            is =
                walk_stop s q i over nodes r own (advance r (length bits)) visited stop
                ∙ ap (λ (b : Bool). Ok (b, (set nodes p own, advance r (length bits)))) answer
                ∙ ap (λ (bs : List Bool). Ok (nat_lt (leaf_of s v q.leaf) t, (set nodes p own, advance r (length bs)))) (sym (append-nil bits) ∙ ap (λ (bs : List Bool). bits ++ bs) (sym none) ∙ sym (below-suc s v queries q i));
            told_all = half_stopped s v queries q i (set nodes p own) less tree in_tree high set_on;
          })
    ]

-- A node was asked for no less than the one below it.
pub passes_up : (s : Shape) (leaf i x y : ℕ) → passes s leaf i x y ≡ true → passes s leaf (i + 1) (x / 2) (y / 2) ≡ true
passes_up s leaf i x y h =
    let at = passes_at s leaf i x y h in
    subst (λ a. (column s leaf (i + 1) == a) && (row s leaf (i + 1) == y / 2) ≡ true) (sym (column_up s leaf i) ∙ ap (λ n. n / 2) at.0)
    (subst (λ b. (column s leaf (i + 1) == column s leaf (i + 1)) && (row s leaf (i + 1) == b) ≡ true) (sym (row_up s leaf i) ∙ ap (λ n. n / 2) at.1) (passes_own s leaf (i + 1)))

pub asked_up : (s : Shape) (queries : List Query) (i x y : ℕ) → asked s queries i x y ≤ asked s queries (i + 1) (x / 2) (y / 2)
unfolding asked
asked_up s [] i x y = omega arith
asked_up s (q ∷ queries) i x y =
    let rest = asked_up s queries i x y in
    elim (cases_Bool (passes s q.leaf i x y)) [
      | inl through ↦
          let up = passes_up s q.leaf i x y through in
          let here : cond (passes s q.leaf i x y) q.threshold 0 ≡ q.threshold = ap (λ (b : Bool). cond b q.threshold 0) through in
          let there : cond (passes s q.leaf (i + 1) (x / 2) (y / 2)) q.threshold 0 ≡ q.threshold = ap (λ (b : Bool). cond b q.threshold 0) up in
          omega (arith, rest, here, there)
      | inr past ↦
          let here : cond (passes s q.leaf i x y) q.threshold 0 ≡ 0 = ap (λ (b : Bool). cond b q.threshold 0) past in
          omega (arith, rest, here)
    ]
