-- Precinct sizes by chance.
use Rattle.std.proofs.Common.{◌≡◌, ℕ, ◌+◌, ◌<◌, ◌≤◌, ◌⊎◌, inl, inr, List, [], ◌∷◌, ◌++◌, length, get_or, set, take, sym, ◌∙◌, subst, arith, length-set, get_or-set_same, get_or-set_other, length-append}
use Rattle.std.proofs.lemmas.List.{get_or-take, get_or_append_left}
use Rattle.std.proofs.Math.Seq.{get_or-append_seam}
use Rattle.std.proofs.lemmas.Bool.{cases_eq, cases_lt}
use Rattle.jk_marks.specs.declared.coding.Coding.{Coding}
use Rattle.jk_marks.specs.Coding.{IsCoding}
use Rattle.jk_geom.specs.TileShapes.{coding_of, no_coding}

-- eleven sizes, of which only the first may be 0
pub record AreSizes (sizes : List (ℕ × ℕ)) : Type 0 where
  pub count : length sizes ≡ 11
  pub small : (j : ℕ) → j < 11 → ((get_or sizes j (0, 0)).0 < 16) × ((get_or sizes j (0, 0)).1 < 16)
  pub whole : (j : ℕ) → 0 < j → j < 11 → (0 < (get_or sizes j (0, 0)).0) × (0 < (get_or sizes j (0, 0)).1)

pub sizes_set : (sizes : List (ℕ × ℕ)) (r : ℕ) (p : ℕ × ℕ) → AreSizes sizes → r < 11 → p.0 < 16 → p.1 < 16 → (0 < r → (0 < p.0) × (0 < p.1)) → AreSizes (set sizes r p)
sizes_set sizes r p are low a b more = record {
  count = length-set sizes r p ∙ are.count;
  small = λ j h. small j h (cases_eq j r);
  whole = λ j some h. whole j some h (cases_eq j r);
}
  where
    here : get_or (set sizes r p) r (0, 0) ≡ p
    here = get_or-set_same sizes r p (0, 0) (let e = are.count in omega arith)

    small : (j : ℕ) → j < 11 → (j ≡ r) ⊎ (j ≡ r → ⊥) → ((get_or (set sizes r p) j (0, 0)).0 < 16) × ((get_or (set sizes r p) j (0, 0)).1 < 16)
    small j h (inl e) = subst (λ i. ((get_or (set sizes r p) i (0, 0)).0 < 16) × ((get_or (set sizes r p) i (0, 0)).1 < 16)) (sym e) (subst (λ (q : ℕ × ℕ). (q.0 < 16) × (q.1 < 16)) (sym here) (a, b))
    small j h (inr ne) = subst (λ (q : ℕ × ℕ). (q.0 < 16) × (q.1 < 16)) (sym (get_or-set_other sizes r j p (0, 0) ne)) (are.small j h)

    whole : (j : ℕ) → 0 < j → j < 11 → (j ≡ r) ⊎ (j ≡ r → ⊥) → (0 < (get_or (set sizes r p) j (0, 0)).0) × (0 < (get_or (set sizes r p) j (0, 0)).1)
    whole j some h (inl e) =
        let above : 0 < r = omega arith in
        subst (λ i. (0 < (get_or (set sizes r p) i (0, 0)).0) × (0 < (get_or (set sizes r p) i (0, 0)).1)) (sym e) (subst (λ (q : ℕ × ℕ). (0 < q.0) × (0 < q.1)) (sym here) (more above))
    whole j some h (inr ne) = subst (λ (q : ℕ × ℕ). (0 < q.0) × (0 < q.1)) (sym (get_or-set_other sizes r j p (0, 0) ne)) (are.whole j some h)

pub sizes_small : (sizes : List (ℕ × ℕ)) (levels : ℕ) → AreSizes sizes → levels ≤ 10
    → (r : ℕ) → r ≤ levels → ((get_or (take (levels + 1) sizes) r (0, 0)).0 < 16) × ((get_or (take (levels + 1) sizes) r (0, 0)).1 < 16)
sizes_small sizes levels are few r h = subst (λ (q : ℕ × ℕ). (q.0 < 16) × (q.1 < 16)) (sym (get_or-take (levels + 1) sizes r (0, 0) (omega arith))) (are.small r (omega arith))

pub sizes_whole : (sizes : List (ℕ × ℕ)) (levels : ℕ) → AreSizes sizes → levels ≤ 10
    → (r : ℕ) → 0 < r → r ≤ levels → (0 < (get_or (take (levels + 1) sizes) r (0, 0)).0) × (0 < (get_or (take (levels + 1) sizes) r (0, 0)).1)
sizes_whole sizes levels are few r some h = subst (λ (q : ℕ × ℕ). (0 < q.0) × (0 < q.1)) (sym (get_or-take (levels + 1) sizes r (0, 0) (omega arith))) (are.whole r some (omega arith))

-- one coding more
pub codings_more : (ks : List Coding) (k : Coding) → ((c : ℕ) → c < length ks → IsCoding (coding_of ks c)) → IsCoding k
    → (c : ℕ) → c < length (ks ++ k ∷ []) → IsCoding (coding_of (ks ++ k ∷ []) c)
codings_more ks k each is c h = by (cases_lt c (length ks))
  where
    by : (c < length ks) ⊎ (length ks ≤ c) → IsCoding (coding_of (ks ++ k ∷ []) c)
    by (inl less) = subst (λ (x : Coding). IsCoding x) (sym (get_or_append_left ks (k ∷ []) no_coding c less)) (each c less)
    by (inr last) =
        let long = length-append ks (k ∷ []) in
        let same : c ≡ length ks = omega arith in
        subst (λ i. IsCoding (coding_of (ks ++ k ∷ []) i)) (sym same) (subst (λ (x : Coding). IsCoding x) (sym (get_or-append_seam ks k [] no_coding)) is)
