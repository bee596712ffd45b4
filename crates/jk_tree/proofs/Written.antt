-- The values of a written tree: the least of the leaves under each node.
use Rattle.std.proofs.Common.{◌≡◌, ℕ, ◌<◌, zero, suc, ◌+◌, ◌-◌, ◌*◌, ◌/◌, ◌≤◌, min, Bool, true, false, cond, List, [], length, replicate, refl, sym, ap, ◌∙◌, subst, inl, inr, arith}
use Rattle.std.specs.Prelude.{◌==◌, slice_index}
use Rattle.std.proofs.lemmas.Bool.{cases_eq, cases_Bool}
use Rattle.std.proofs.lemmas.Bool.Decides.{nat_tests}
use Rattle.std.proofs.lemmas.List.{get_or-replicate}
use Rattle.jk_tree.specs.TagTree.{Shape, top, node_number, count, IsNode, IsTree, column, row, passes, asked}
use Rattle.jk_tree.specs.declared.write.WriteNode.{WriteNode}
use Rattle.jk_tree.specs.Telling.{least_under, written, speaker_at, Speaks, Lowers}
use Rattle.jk_tree.proofs.Places.{place_counted, place_leaf, passes_at, passes_own}
use Rattle.jk_tree.proofs.Walks.{passes_up}

-- the nodes as they were, and lowered
abbrev pub old_node : Shape → List WriteNode → ℕ → ℕ → ℕ → WriteNode
old_node s nodes = λ j x y. speaker_at nodes (node_number s j x y)

abbrev pub low_node : Shape → ℕ → List WriteNode → ℕ → ℕ → ℕ → WriteNode
low_node s value nodes = λ j x y. record (speaker_at nodes (node_number s j x y)) { value = min (speaker_at nodes (node_number s j x y)).value value }

least_most : (s : Shape) (leaves : List ℕ) (n i x y : ℕ) → least_under s leaves n i x y ≤ 65535
unfolding least_under
least_most s leaves zero i x y = omega arith
least_most s leaves (suc n) i x y = (let rest = least_most s leaves n i x y in omega (arith, rest))

least_up : (s : Shape) (leaves : List ℕ) (n i x y : ℕ) → least_under s leaves n (i + 1) (x / 2) (y / 2) ≤ least_under s leaves n i x y
unfolding least_under
least_up s leaves zero i x y = omega arith
least_up s leaves (suc n) i x y =
    let rest = least_up s leaves n i x y in
    elim (cases_Bool (passes s n i x y)) [
      | inl through ↦
          let up = passes_up s n i x y through in
          let here : cond (passes s n i x y) (slice_index leaves n) 65535 ≡ slice_index leaves n = ap (λ (b : Bool). cond b (slice_index leaves n) 65535) through in
          let there : cond (passes s n (i + 1) (x / 2) (y / 2)) (slice_index leaves n) 65535 ≡ slice_index leaves n = ap (λ (b : Bool). cond b (slice_index leaves n) 65535) up in
          omega (arith, rest, here, there)
      | inr past ↦
          let here : cond (passes s n i x y) (slice_index leaves n) 65535 ≡ 65535 = ap (λ (b : Bool). cond b (slice_index leaves n) 65535) past in
          let most = least_most s leaves n (i + 1) (x / 2) (y / 2) in
          omega (arith, rest, here, most)
    ]

-- A written tree is a tree.
pub written_tree : (s : Shape) (leaves : List ℕ) → IsTree s (written s leaves)
written_tree s leaves i x y n =
    elim (cases_eq i (top s)) [
      | inl at ↦ (let test : (i == top s) ≡ true = grind (arith, nat_tests) in
          subst (λ (b : Bool). cond b 0 (written s leaves (i + 1) (x / 2) (y / 2)) ≤ written s leaves i x y) (sym test) (omega arith))
      | inr apart ↦ (let test : (i == top s) ≡ false = grind (arith, nat_tests) in
          subst (λ (b : Bool). cond b 0 (written s leaves (i + 1) (x / 2) (y / 2)) ≤ written s leaves i x y) (sym test) (least_up s leaves (s.width * s.height) i x y))
    ]

-- the nodes once the first n leaves have stood
pub record Built (s : Shape) (leaves : List ℕ) (n : ℕ) (nodes : List WriteNode) : Type 0 where
  pub long : length nodes ≡ count s
  pub each : (i x y : ℕ) → IsNode s i x y → speaker_at nodes (node_number s i x y) ≡ record { value = least_under s leaves n i x y; told = 0 }

pub built_none : (s : Shape) (leaves : List ℕ) (nodes : List WriteNode) (n : ℕ) → nodes ≡ replicate n record { value = 65535; told = 0 } → n ≡ count s → length nodes ≡ count s → Built s leaves 0 nodes
unfolding least_under
built_none s leaves nodes n e k long = record {
  long = long;
  each = λ i x y m. ap (λ (ns : List WriteNode). speaker_at ns (node_number s i x y)) e ∙ get_or-replicate n (node_number s i x y) _ _ (let p = place_counted s i x y m in omega (arith, p, k));
}

lowered_node : (b : Bool) (least value : ℕ) → least ≤ 65535 → ◌≡◌ {A = WriteNode} (cond b (record { value = min least value; told = 0 }) (record { value = least; told = 0 })) (record { value = min least (cond b value 65535); told = 0 })
lowered_node true least value h = refl
lowered_node false least value h = ap (λ v. record { value = v; told = 0 }) (omega (arith, h))

pub built_more : (s : Shape) (leaves : List ℕ) (n value : ℕ) (old new : List WriteNode) → length new ≡ count s → value ≡ slice_index leaves n → Built s leaves n old → Lowers s n value old new → Built s leaves (suc n) new
unfolding least_under
built_more s leaves n value old new long v b h = record {
  long = long;
  each = λ i x y m.
      h i x y m
      ∙ ap (λ (o : WriteNode). cond (passes s n i x y) (record o { value = min o.value value }) o) (b.each i x y m)
      ∙ lowered_node (passes s n i x y) (least_under s leaves n i x y) value (least_most s leaves n i x y)
      ∙ ap (λ w. record { value = min (least_under s leaves n i x y) (cond (passes s n i x y) w 65535); told = 0 }) v;
}

pub built_all : (s : Shape) (leaves : List ℕ) (nodes : List WriteNode) → Built s leaves (s.width * s.height) nodes → Speaks s (written s leaves) [] nodes
unfolding asked
built_all s leaves nodes b = record { tree = written_tree s leaves; each = b.each }

-- The leaves of a written tree have the values that were given.
only_leaf : (s : Shape) (m leaf : ℕ) → passes s m 0 (column s leaf 0) (row s leaf 0) ≡ true → m ≡ leaf
only_leaf s m leaf h =
    let at = passes_at s m 0 (column s leaf 0) (row s leaf 0) h in
    sym (place_leaf s m) ∙ ap (λ x. node_number s 0 x (row s m 0)) at.0 ∙ ap (λ y. node_number s 0 (column s leaf 0) y) at.1 ∙ place_leaf s leaf

least_before : (s : Shape) (leaves : List ℕ) (leaf n : ℕ) → n ≤ leaf → least_under s leaves n 0 (column s leaf 0) (row s leaf 0) ≡ 65535
unfolding least_under
least_before s leaves leaf zero h = refl
least_before s leaves leaf (suc n) h =
    elim (cases_Bool (passes s n 0 (column s leaf 0) (row s leaf 0))) [
      | inl through ↦ absurd (let e = only_leaf s n leaf through in omega (arith, e, h))
      | inr past ↦
          let rest = least_before s leaves leaf n (omega (arith, h)) in
          let none : cond (passes s n 0 (column s leaf 0) (row s leaf 0)) (slice_index leaves n) 65535 ≡ 65535 = ap (λ (b : Bool). cond b (slice_index leaves n) 65535) past in
          omega (arith, rest, none)
    ]

least_after : (s : Shape) (leaves : List ℕ) (leaf more : ℕ) → slice_index leaves leaf ≤ 65535 → least_under s leaves (suc leaf + more) 0 (column s leaf 0) (row s leaf 0) ≡ slice_index leaves leaf
unfolding least_under
least_after s leaves leaf zero fits =
    let at : suc leaf + 0 ≡ suc leaf = omega arith in
    let own : cond (passes s leaf 0 (column s leaf 0) (row s leaf 0)) (slice_index leaves leaf) 65535 ≡ slice_index leaves leaf = ap (λ (b : Bool). cond b (slice_index leaves leaf) 65535) (passes_own s leaf 0) in
    let before = least_before s leaves leaf leaf (omega arith) in
    ap (λ n. least_under s leaves n 0 (column s leaf 0) (row s leaf 0)) at ∙ omega (arith, own, before, fits)
least_after s leaves leaf (suc more) fits =
    let n = suc leaf + more in
    let at : suc leaf + suc more ≡ suc n = omega arith in
    let rest = least_after s leaves leaf more fits in
    elim (cases_Bool (passes s n 0 (column s leaf 0) (row s leaf 0))) [
      | inl through ↦ absurd (let e = only_leaf s n leaf through in omega (arith, e))
      | inr past ↦
          let none : cond (passes s n 0 (column s leaf 0) (row s leaf 0)) (slice_index leaves n) 65535 ≡ 65535 = ap (λ (b : Bool). cond b (slice_index leaves n) 65535) past in
          ap (λ k. least_under s leaves k 0 (column s leaf 0) (row s leaf 0)) at ∙ omega (arith, rest, none, fits)
    ]

pub written_leaf : (s : Shape) (leaves : List ℕ) (leaf : ℕ) → leaf < s.width * s.height → slice_index leaves leaf < 65536 → written s leaves 0 (column s leaf 0) (row s leaf 0) ≡ slice_index leaves leaf
written_leaf s leaves leaf less fits =
    ap (λ n. least_under s leaves n 0 (column s leaf 0) (row s leaf 0)) (let e : s.width * s.height ≡ suc leaf + (s.width * s.height - suc leaf) = omega (arith, less) in e)
    ∙ least_after s leaves leaf (s.width * s.height - suc leaf) (omega (arith, fits))
