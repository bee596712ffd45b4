-- Nodes that change along the way from the root to a leaf, and nowhere else.
use Rattle.std.proofs.Common.{◌≡◌, ℕ, suc, ◌*◌, ◌<◌, ◌≤◌, Bool, true, false, cond, List, length, set, get_or, refl, sym, ap, ◌∙◌, subst, inl, inr, arith}
use Rattle.std.specs.Prelude.{◌&&◌, nat_le}
use Rattle.std.proofs.lemmas.Bool.{cases_eq, cases_Bool}
use Rattle.std.proofs.lemmas.Bool.Decides.{nat_tests}
use Rattle.std.proofs.lemmas.List.{get_or-set_same, get_or-set_other, length-set}
use Rattle.jk_tree.specs.TagTree.{Shape, top, node_number, count, column, row, IsNode, passes}
use Rattle.jk_tree.proofs.Places.{place_counted, path_node, passes_own}
use Rattle.jk_tree.proofs.Walks.{apart_places, cases_on_way}

-- Below level i the nodes are f; from it on they are g on the way to the leaf, and f elsewhere.
pub record Changed (N : Type 0) (d : N) (s : Shape) (leaf : ℕ) (f g : ℕ → ℕ → ℕ → N) (i : ℕ) (nodes : List N) : Type 0 where
  pub long : length nodes ≡ count s
  pub each : (j x y : ℕ) → IsNode s j x y → get_or nodes (node_number s j x y) d ≡ cond (nat_le i j && passes s leaf j x y) (g j x y) (f j x y)

module _ (N : Type 0) (d : N) (s : Shape) (leaf : ℕ) (less : leaf < s.width * s.height) (f g : ℕ → ℕ → ℕ → N) where
  over_level : (i j : ℕ) → j < i → (nat_le i j) ≡ false
  over_level i j h = grind (arith, nat_tests)

  at_level : (i j : ℕ) → i ≤ j → (nat_le i j) ≡ true
  at_level i j h = grind (arith, nat_tests)

  pub changed_none : (nodes : List N) → length nodes ≡ count s → ((j x y : ℕ) → IsNode s j x y → get_or nodes (node_number s j x y) d ≡ f j x y) → Changed N d s leaf f g (suc (top s)) nodes
  changed_none nodes long h = record {
    long = long;
    each = λ j x y n. h j x y n ∙ ap (λ (b : Bool). cond (b && passes s leaf j x y) (g j x y) (f j x y)) (sym (over_level (suc (top s)) j (let l = n.level in omega (arith, l))));
  }

  pub changed_all : (nodes : List N) → Changed N d s leaf f g 0 nodes → (j x y : ℕ) → IsNode s j x y → get_or nodes (node_number s j x y) d ≡ cond (passes s leaf j x y) (g j x y) (f j x y)
  changed_all nodes c j x y n = c.each j x y n ∙ ap (λ (b : Bool). cond (b && passes s leaf j x y) (g j x y) (f j x y)) (at_level 0 j (omega arith))

  pub changed_own : (i : ℕ) (nodes : List N) → i ≤ top s → Changed N d s leaf f g (suc i) nodes → get_or nodes (node_number s i (column s leaf i) (row s leaf i)) d ≡ f i (column s leaf i) (row s leaf i)
  changed_own i nodes level c =
      c.each i (column s leaf i) (row s leaf i) (path_node s leaf i less level)
      ∙ ap (λ (b : Bool). cond (b && passes s leaf i (column s leaf i) (row s leaf i)) (g i (column s leaf i) (row s leaf i)) (f i (column s leaf i) (row s leaf i))) (over_level (suc i) i (omega arith))

  pub changed_set : (i : ℕ) (nodes : List N) → i ≤ top s → Changed N d s leaf f g (suc i) nodes → Changed N d s leaf f g i (set nodes (node_number s i (column s leaf i) (row s leaf i)) (g i (column s leaf i) (row s leaf i)))
  changed_set i nodes level c =
      let cx = column s leaf i in
      let cy = row s leaf i in
      let p = node_number s i cx cy in
      let own = g i cx cy in
      let within : p < length nodes = (let e = c.long in let k = place_counted s i cx cy (path_node s leaf i less level) in omega (arith, e, k)) in
      record {
        long = length-set nodes p own ∙ c.long;
        each = λ j x y n. elim (cases_on_way s leaf i j x y) [
          | inl is ↦
              subst (λ k. get_or (set nodes p own) (node_number s k x y) d ≡ cond (nat_le i k && passes s leaf k x y) (g k x y) (f k x y)) (sym is.0)
              (subst (λ u. get_or (set nodes p own) (node_number s i u y) d ≡ cond (nat_le i i && passes s leaf i u y) (g i u y) (f i u y)) is.1
              (subst (λ w. get_or (set nodes p own) (node_number s i cx w) d ≡ cond (nat_le i i && passes s leaf i cx w) (g i cx w) (f i cx w)) is.2
              (get_or-set_same nodes p own d within ∙ sym (both_true (nat_le i i) (passes s leaf i cx cy) (g i cx cy) (f i cx cy) (at_level i i (omega arith)) (passes_own s leaf i)))))
          | inr other ↦
              get_or-set_other nodes p (node_number s j x y) own d (apart_places s leaf i j x y less level n other)
              ∙ c.each j x y n
              ∙ same_other i j x y other
        ];
      }
    where
      both_true : (a b : Bool) (u w : N) → a ≡ true → b ≡ true → cond (a && b) u w ≡ u
      both_true a b u w e h = ap (λ (z : Bool). cond (z && b) u w) e ∙ ap (λ (z : Bool). cond z u w) h

      none_true : (a b : Bool) (u w : N) → b ≡ false → cond (a && b) u w ≡ w
      none_true true b u w h = ap (λ (z : Bool). cond z u w) h
      none_true false b u w h = refl

      same_side : (i j : ℕ) → (j ≡ i → ⊥) → nat_le (suc i) j ≡ nat_le i j
      same_side i j apart = grind (arith, nat_tests)

      same_other : (i j x y : ℕ) → (j ≡ i → passes s leaf j x y ≡ true → ⊥) → cond (nat_le (suc i) j && passes s leaf j x y) (g j x y) (f j x y) ≡ cond (nat_le i j && passes s leaf j x y) (g j x y) (f j x y)
      same_other i j x y other =
          elim (cases_Bool (passes s leaf j x y)) [
            | inl through ↦ elim (cases_eq j i) [
              | inl same ↦ absurd (other same through)
              | inr apart ↦ ap (λ (b : Bool). cond (b && passes s leaf j x y) (g j x y) (f j x y)) (same_side i j apart)
            ]
            | inr past ↦ none_true (nat_le (suc i) j) (passes s leaf j x y) (g j x y) (f j x y) past ∙ sym (none_true (nat_le i j) (passes s leaf j x y) (g j x y) (f j x y) past)
          ]
