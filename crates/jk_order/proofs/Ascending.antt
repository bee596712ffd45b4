-- Lists that ascend strictly by a number of each element.
use Rattle.std.proofs.Common.{◌≡◌, ℕ, ◌<◌, ◌≤◌, ◌⊎◌, inl, inr, Bool, true, false, cond, nat_lt, List, [], ◌∷◌, map, refl, ap, subst, arith}
use Rattle.std.specs.Prelude.{◌==◌, Contains}
use Rattle.std.specs.Ordering.{nat_cmp}
use Rattle.std.specs.declared.cmp.Ordering.{Ordering}
use Rattle.std.specs.declared.cmp.Ordering.TheVariants.{Less, Equal, Greater}
use Rattle.std.specs.List.{AllByRecursion}
use Rattle.std.specs.List.Sorted.{IsStrictlySortedBy}
use Rattle.std.proofs.lemmas.Bool.{ltb-true, lt-ltb}
use Rattle.std.proofs.lemmas.List.Elements.{Contains-append_cases, Contains-append_left, Contains-append_right, Contains-push, Contains-push_cases}

-- what nat_cmp answers
pub less_than : (a b : ℕ) → nat_cmp a b ≡ Less → a < b
less_than a b e = by (nat_lt a b) refl
  where
    neither : (d : Bool) → cond d Equal Greater ≡ Less → a < b
    neither true h = absurd cc
    neither false h = absurd cc

    by : (d : Bool) → nat_lt a b ≡ d → a < b
    by true h = ltb-true a b h
    by false h = neither (a == b) (rw h at e)

pub than_less : (a b : ℕ) → a < b → nat_cmp a b ≡ Less
than_less a b h = rw (lt-ltb a b h) refl

-- the elements of a list with a first one
pub none_in : {A : Type 0} (x : A) → Contains [] x → ⊥
none_in x (k, less, is) = omega arith

pub one_in : {A : Type 0} (x y : A) → Contains (x ∷ []) y → x ≡ y
one_in x y h = by (Contains-push_cases [] x y h)
  where
    by : Contains [] y ⊎ (x ≡ y) → x ≡ y
    by (inl none) = absurd (none_in y none)
    by (inr same) = same

pub first_in : {A : Type 0} (x : A) (xs : List A) → Contains (x ∷ xs) x
first_in x xs = Contains-append_left (x ∷ []) xs x (Contains-push [] x)

pub later_in : {A : Type 0} (x : A) (xs : List A) (y : A) → Contains xs y → Contains (x ∷ xs) y
later_in x xs y h = Contains-append_right (x ∷ []) xs y h

pub in_cases : {A : Type 0} (x : A) (xs : List A) (y : A) → Contains (x ∷ xs) y → (x ≡ y) ⊎ Contains xs y
in_cases x xs y h = by (Contains-append_cases (x ∷ []) xs y h)
  where
    by : Contains (x ∷ []) y ⊎ Contains xs y → (x ≡ y) ⊎ Contains xs y
    by (inl here) = inl (one_in x y here)
    by (inr later) = inr later

-- what holds of each mapped element
pub each_in : {A B : Type 0} (P : B → Type 0) (f : A → B) (xs : List A) (y : A) → AllByRecursion P (map f xs) → Contains xs y → P (f y)
each_in P f [] y all h = absurd (none_in y h)
each_in {A} {B} P f (x ∷ xs) y all h = by (λ later. each_in P f xs y all.1 later) (in_cases x xs y h)
  where
    by : (Contains xs y → P (f y)) → (x ≡ y) ⊎ Contains xs y → P (f y)
    by rest (inl same) = subst (λ (z : A). P (f z)) same all.0
    by rest (inr later) = rest later

-- the first of an ascending list comes before all others
pub first_below : {A B : Type 0} (c : B → B → Ordering) (f : A → B) (x : A) (xs : List A) (y : A) → IsStrictlySortedBy c (map f (x ∷ xs)) → Contains xs y → c (f x) (f y) ≡ Less
unfolding IsStrictlySortedBy
first_below c f x xs y up h = each_in (λ b. c (f x) b ≡ Less) f xs y up.0 h

pub rest_up : {A B : Type 0} (c : B → B → Ordering) (f : A → B) (x : A) (xs : List A) → IsStrictlySortedBy c (map f (x ∷ xs)) → IsStrictlySortedBy c (map f xs)
unfolding IsStrictlySortedBy
rest_up c f x xs up = up.1

-- what is least is the first
pub least_first : {A : Type 0} (f : A → ℕ) (xs : List A) (n : A) → IsStrictlySortedBy nat_cmp (map f xs) → Contains xs n → ((m : A) → Contains xs m → f n ≤ f m)
    → (rest : List A) × (xs ≡ n ∷ rest)
least_first f [] n up h least = absurd (none_in n h)
least_first {A} f (x ∷ xs) n up h least = by (in_cases x xs n h)
  where
    by : (x ≡ n) ⊎ Contains xs n → (rest : List A) × ((x ∷ xs) ≡ n ∷ rest)
    by (inl same) = (xs, ap (λ (y : A). y ∷ xs) same)
    by (inr later) =
        let below : f x < f n = less_than (f x) (f n) (first_below nat_cmp f x xs n up later) in
        let above : f n ≤ f x = least x (first_in x xs) in
        absurd (omega arith)
