-- Values turned into samples one after another.
use Rattle.std.proofs.Common.{◌≡◌, ◌≢◌, ℕ, ℤ, List, [], ◌+◌, ◌^◌, ◌<◌, ◌≤◌, pos, All, length, map, set, get_or, refl, sym, ap, subst, ◌∙◌, inl, inr, arith, w32, to_z, of_z}
use Rattle.std.proofs.lemmas.Bool.{cases_eq}
use Rattle.std.proofs.lemmas.Int.{ints, to_z-of_z}
use Rattle.std.proofs.lemmas.List.{get_or-set_same, get_or-set_other, length-set, length-map, get_or-map, ext_get_or}
use mir.Val.{SFits}
use Rattle.std.specs.Global.{Vec}
use Rattle.jk_math.specs.Lists.{lists_of, list_at}
use Rattle.jk_tile.proofs.Showing.{vector_items, put_here, put_there}
use Rattle.jk_math.specs.Signed.{IsBelow, signed_at}

-- The first k values are mapped, and the others as given.
pub record IsMapped (f : ℤ → ℤ) (k : ℕ) (old new : List ℤ) : Type 0 where
  pub long : length new ≡ length old
  pub done : (j : ℕ) → j < k → signed_at new j ≡ f (signed_at old j)
  pub rest : (j : ℕ) → k ≤ j → signed_at new j ≡ signed_at old j

pub mapped_none : (f : ℤ → ℤ) (old : List ℤ) → IsMapped f 0 old old
mapped_none f old = record { long = refl; done = λ j lt. absurd (omega (arith, lt)); rest = λ j le. refl }

pub mapped_more : (f : ℤ → ℤ) (k : ℕ) (old new : List ℤ) (v : ℤ) → IsMapped f k old new → k < length old → v ≡ f (signed_at new k) → IsMapped f (k + 1) old (set new k v)
mapped_more f k old new v is lt e = record {
  long = length-set new k v ∙ is.long;
  done = λ j less. elim (cases_eq j k) [
    | inl same ↦ ap (λ n. signed_at (set new k v) n) same ∙ get_or-set_same new k v (pos 0) (omega (arith, lt, is.long)) ∙ e ∙ ap f (is.rest k (omega arith)) ∙ ap (λ n. f (signed_at old n)) (sym same)
    | inr other ↦ get_or-set_other new k j v (pos 0) other ∙ is.done j (omega (arith, less, other))
  ];
  rest = λ j le. let other : j ≢ k = omega (arith, le) in get_or-set_other new k j v (pos 0) other ∙ is.rest j (omega (arith, le));
}

pub mapped_all : (f : ℤ → ℤ) (k : ℕ) (old new : List ℤ) → IsMapped f k old new → length old ≤ k → new ≡ map f old
mapped_all f k old new is le = ext_get_or (pos 0) new (map f old) (is.long ∙ sym (length-map old f)) (λ i lt.
    is.done i (omega (arith, lt, is.long, le)) ∙ sym (get_or-map f old i (pos 0) (pos 0) (omega (arith, lt, is.long))))

-- a value below 2^30 is passed on as it is
pub small_fits : (z : ℤ) → IsBelow (2 ^ 30) z → SFits w32 z
small_fits z h = let low = h.0 in let high = h.1 in omega (arith, ints, low, high)

pub passed : (z : ℤ) → IsBelow (2 ^ 30) z → to_z w32 (of_z w32 z) ≡ z
passed z h = to_z-of_z w32 z (small_fits z h)

pub small_at : (f : ℤ → ℤ) (k : ℕ) (old new : List ℤ) → IsMapped f k old new → All (IsBelow (2 ^ 30)) old → k < length old → IsBelow (2 ^ 30) (signed_at new k)
small_at f k old new is small lt = subst (IsBelow (2 ^ 30)) (sym (is.rest k (omega arith))) (small k (pos 0) lt)

-- ---- all components

-- The first n lists are mapped, and the others as given.
pub record AreMapped (f : ℤ → ℤ) (n : ℕ) (old new : List (Vec ℤ)) : Type 0 where
  pub count : length new ≡ length old
  pub done : (c : ℕ) → c < n → c < length old → list_at new c ≡ map f (list_at old c)
  pub rest : (c : ℕ) → n ≤ c → list_at new c ≡ list_at old c

pub lists_none : (f : ℤ → ℤ) (old : List (Vec ℤ)) → AreMapped f 0 old old
lists_none f old = record { count = refl; done = λ c lt few. absurd (omega (arith, lt)); rest = λ c le. refl }

pub lists_more : (f : ℤ → ℤ) (n : ℕ) (old now : List (Vec ℤ)) (v w : Vec ℤ) (lent new : List ℤ) → AreMapped f n old now → n < length old → v ≡ get_or now n v → lent ≡ v.items → new ≡ map f lent → w.items ≡ new
    → AreMapped f (n + 1) old (set now n w)
lists_more f n old now v w lent new is lt e el en ew = record {
  count = length-set now n w ∙ is.count;
  done = λ c less few. elim (cases_eq c n) [
    | inl same ↦ ap (list_at (set now n w)) same ∙ put_here now n w (omega (arith, lt, is.count)) ∙ ew ∙ en ∙ ap (map f) (el ∙ vector_items now n v (omega (arith, lt, is.count)) e ∙ is.rest n (omega arith)) ∙ ap (λ k. map f (list_at old k)) (sym same)
    | inr other ↦ put_there now n c w other ∙ is.done c (omega (arith, less, other)) few
  ];
  rest = λ c le. put_there now n c w (λ same. absurd (omega (arith, le, same))) ∙ is.rest c (omega (arith, le));
}

pub lists_all : (f : ℤ → ℤ) (n : ℕ) (old new : List (Vec ℤ)) → AreMapped f n old new → length old ≤ n → lists_of new ≡ map (map f) (lists_of old)
lists_all f n old new is le = ext_get_or [] (lists_of new) (map (map f) (lists_of old)) (length-map new (λ v. v.items) ∙ is.count ∙ sym (length-map old (λ v. v.items)) ∙ sym (length-map (lists_of old) (map f))) (λ c lt.
    let few : c < length old = omega (arith, lt, length-map new (λ (v : Vec ℤ). v.items), is.count) in
    is.done c (omega (arith, few, le)) few ∙ sym (get_or-map (map f) (lists_of old) c [] [] (omega (arith, few, length-map old (λ (v : Vec ℤ). v.items)))))

pub lent_small : (m n : ℕ) (f : ℤ → ℤ) (old now : List (Vec ℤ)) (v : Vec ℤ) (lent : List ℤ) → AreMapped f n old now → n < length old → v ≡ get_or now n v → lent ≡ v.items → ((c : ℕ) → All (IsBelow m) (list_at old c)) → All (IsBelow m) lent
lent_small m n f old now v lent is lt e el small = subst (All (IsBelow m)) (sym (el ∙ vector_items now n v (omega (arith, lt, is.count)) e ∙ is.rest n (omega arith))) (small n)
