-- What a written tree tells on the way from the root to a leaf.
use Rattle.std.proofs.Common.{◌≡◌, ℕ, zero, suc, ◌+◌, ◌-◌, ◌*◌, ◌/◌, ◌<◌, ◌≤◌, min, max, Bool, true, false, cond, List, [], ◌∷◌, ◌++◌, length, set, replicate, refl, sym, ap, ◌∙◌, subst, inl, inr, arith, append_assoc}
use Rattle.std.proofs.lemmas.List.{append-nil}
use Rattle.std.specs.Prelude.{◌==◌, ◌⊎◌, nat_lt}
use Rattle.std.proofs.lemmas.Bool.{cases_lt}
use Rattle.std.proofs.lemmas.Bool.Decides.{nat_tests}
use Rattle.jk_bits.specs.Writing.{Written}
use Rattle.jk_tree.specs.TagTree.{Shape, top, node_number, count, column, row, Values, above, IsTree, Query, passes, asked, rest_of_word, told_below, told}
use Rattle.jk_tree.specs.declared.write.WriteNode.{WriteNode}
use Rattle.jk_tree.specs.Telling.{speaker_at, Speaks}
use Rattle.jk_tree.proofs.Places.{path_node}
use Rattle.jk_tree.proofs.Walks.{asked_push, above_way, below-suc, told_none}
use Rattle.jk_tree.proofs.Visits.{piece-form, piece_asked, piece_known, ending}
use Rattle.jk_tree.proofs.Ways.{Changed, changed_none, changed_all, changed_own, changed_set}

-- what a node has told: before a query, and after it
abbrev pub spoken : Values → (ℕ → ℕ → ℕ → ℕ) → ℕ → ℕ → ℕ → WriteNode
spoken v a = λ j x y. record { value = v j x y; told = a j x y }

abbrev pub silent_node : WriteNode
silent_node = record { value = 0; told = 0 }

-- the value above the levels that are left
abbrev pub IsAbove : Shape → Values → Query → ℕ → ℕ → Type 0
IsAbove s v q zero over = Unit {0}
IsAbove s v q (suc i) over = over ≡ above s v i (column s q.leaf i) (row s q.leaf i)

next_above : (s : Shape) (v : Values) (q : Query) (i over : ℕ) → i ≤ top s → over ≡ v i (column s q.leaf i) (row s q.leaf i) → IsAbove s v q i over
next_above s v q zero over level e = tt
next_above s v q (suc i) over level e = e ∙ sym (above_way s v q.leaf i (omega (arith, level)))

pub record HalfSpoken (s : Shape) (v : Values) (queries : List Query) (q : Query) (i over : ℕ) (nodes : List WriteNode) (old new : Written) : Type 0 where
  pub tree : IsTree s v
  pub changed : Changed WriteNode silent_node s q.leaf (spoken v (asked s queries)) (spoken v (λ j x y. max (asked s queries j x y) q.threshold)) i nodes
  pub over_is : IsAbove s v q i over
  pub bits : old.bits ++ told s v queries q ≡ new.bits ++ told_below s v queries q i
  pub failed : new.failed ≡ old.failed

levels : (s : Shape) → top s + 1 ≡ suc (top s)
levels s = omega arith

pub told_all : (s : Shape) (v : Values) (queries : List Query) (q : Query) → told s v queries q ≡ told_below s v queries q (suc (top s))
unfolding told
told_all s v queries q = ap (told_below s v queries q) (levels s)

pub begin : (s : Shape) (v : Values) (queries : List Query) (q : Query) (nodes : List WriteNode) (w : Written) → q.leaf < s.width * s.height → length nodes ≡ count s → Speaks s v queries nodes
    → HalfSpoken s v queries q (suc (top s)) 0 nodes w w
begin s v queries q nodes w less long sp = record {
  tree = sp.tree;
  changed = changed_none WriteNode silent_node s q.leaf less (spoken v (asked s queries)) (spoken v (λ j x y. max (asked s queries j x y) q.threshold)) nodes long sp.each;
  over_is = ap (λ (b : Bool). cond b 0 (v (top s + 1) (column s q.leaf (top s) / 2) (row s q.leaf (top s) / 2))) (sym (same_test (top s)));
  bits = ap (λ (bs : List Bool). w.bits ++ bs) (told_all s v queries q);
  failed = refl;
}
  where
    same_test : (n : ℕ) → (n == n) ≡ true
    same_test n = grind (arith, nat_tests)

pub done : (s : Shape) (v : Values) (queries : List Query) (q : Query) (over : ℕ) (nodes : List WriteNode) (old new : Written) → q.leaf < s.width * s.height → HalfSpoken s v queries q 0 over nodes old new
    → (new ≡ record old { bits = old.bits ++ told s v queries q }) × Speaks s v (queries ++ q ∷ []) nodes
done s v queries q over nodes old new less h = (
  ap (λ (bs : List Bool). record { bits = bs; failed = new.failed }) (sym (h.bits ∙ ap (λ (bs : List Bool). new.bits ++ bs) (told_none s v queries q) ∙ append-nil new.bits))
      ∙ ap (λ (f : Bool). record { bits = old.bits ++ told s v queries q; failed = f }) h.failed,
  record {
    tree = h.tree;
    each = λ j x y n.
        changed_all WriteNode silent_node s q.leaf less (spoken v (asked s queries)) (spoken v (λ j x y. max (asked s queries j x y) q.threshold)) nodes h.changed j x y n
        ∙ pushed (passes s q.leaf j x y) (v j x y) (asked s queries j x y) q.threshold
        ∙ ap (λ a. record { value = v j x y; told = a }) (sym (asked_push s queries q j x y));
  },
)
  where
    pushed : (b : Bool) (w a t : ℕ) → ◌≡◌ {A = WriteNode} (cond b (record { value = w; told = max a t }) (record { value = w; told = a })) (record { value = w; told = max a (cond b t 0) })
    pushed true w a t = refl
    pushed false w a t = ap (λ k. record { value = w; told = k }) (omega arith)

-- one level told
pub speak_level : (s : Shape) (v : Values) (queries : List Query) (q : Query) (i over : ℕ) (nodes : List WriteNode) (old mid new : Written) (node : WriteNode) → q.leaf < s.width * s.height → i ≤ top s
    → HalfSpoken s v queries q (suc i) over nodes old mid → node ≡ speaker_at nodes (node_number s i (column s q.leaf i) (row s q.leaf i))
    → (over ≤ node.value → new ≡ record mid { bits = mid.bits ++ rest_of_word over node.value node.told q.threshold })
    → HalfSpoken s v queries q i node.value (set nodes (node_number s i (column s q.leaf i) (row s q.leaf i)) (record { value = node.value; told = max node.told q.threshold })) old new
speak_level s v queries q i over nodes old mid new node less level h is tells =
    let x = column s q.leaf i in
    let y = row s q.leaf i in
    let f = spoken v (asked s queries) in
    let g = spoken v (λ j x y. max (asked s queries j x y) q.threshold) in
    let own : node ≡ f i x y = is ∙ changed_own WriteNode silent_node s q.leaf less f g i nodes level h.changed in
    let value_is : node.value ≡ v i x y = ap (λ (n : WriteNode). n.value) own in
    let told_is : node.told ≡ asked s queries i x y = ap (λ (n : WriteNode). n.told) own in
    let under : over ≤ node.value = (let a = h.tree i x y (path_node s q.leaf i less level) in let b = h.over_is in omega (arith, a, b, value_is)) in
    let said : new ≡ record mid { bits = mid.bits ++ rest_of_word over node.value node.told q.threshold } = tells under in
    let piece_is : rest_of_word over node.value node.told q.threshold ≡ rest_of_word (above s v i x y) (v i x y) (asked s queries i x y) q.threshold =
    ap (λ o. rest_of_word o node.value node.told q.threshold) h.over_is ∙ ap (λ w. rest_of_word (above s v i x y) w node.told q.threshold) value_is ∙ ap (λ a. rest_of_word (above s v i x y) (v i x y) a q.threshold) told_is in
    let more = told_below s v queries q i in
    record {
      tree = h.tree;
      changed = subst (λ (n : WriteNode). Changed WriteNode silent_node s q.leaf f g i (set nodes (node_number s i x y) n))
          (ap (λ w. record { value = w; told = max (asked s queries i x y) q.threshold }) (sym value_is) ∙ ap (λ a. record { value = node.value; told = max a q.threshold }) (sym told_is))
          (changed_set WriteNode silent_node s q.leaf less f g i nodes level h.changed);
      over_is = next_above s v q i node.value level value_is;
      bits =
          h.bits
          ∙ ap (λ (bs : List Bool). mid.bits ++ bs) (below-suc s v queries q i ∙ ap (λ (bs : List Bool). bs ++ more) (sym piece_is))
          ∙ sym (append_assoc mid.bits (rest_of_word over node.value node.told q.threshold) more)
          ∙ ap (λ (w : Written). w.bits ++ more) (sym said);
      failed = ap (λ (w : Written). w.failed) said ∙ h.failed;
    }

-- The piece that speak tells.
pub spoken_piece : (over value told threshold : ℕ) → over ≤ value → told < threshold → told ≤ value
    → (bits : List Bool) → (bits ++ replicate (min value threshold - max told (min over threshold)) false) ++ ending (nat_lt value threshold) ≡ bits ++ rest_of_word over value told threshold
spoken_piece over value told threshold tree less open_value bits =
    append_assoc bits (replicate (min value threshold - max told (min over threshold)) false) (ending (nat_lt value threshold))
    ∙ ap (λ (bs : List Bool). bits ++ bs) (sym (piece-form over value told threshold tree less open_value))

pub silent_piece : (over value told threshold : ℕ) → over ≤ value → (threshold ≤ told) ⊎ (value < told) → rest_of_word over value told threshold ≡ []
silent_piece over value told threshold tree (inl enough) = piece_asked over value told threshold enough
silent_piece over value told threshold tree (inr known) =
    elim (cases_lt told threshold) [
      | inl less ↦ piece_known over value told threshold tree known less
      | inr enough ↦ piece_asked over value told threshold enough
    ]
