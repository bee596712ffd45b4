-- Lists of packets in the order of their keys.
use Rattle.std.proofs.Common.{◌≡◌, ℕ, zero, suc, ◌<◌, ◌≤◌, ◌⊎◌, inl, inr, List, [], ◌∷◌, ◌++◌, map, refl, ap, sym, ◌∙◌, subst, arith}
use Rattle.std.specs.Prelude.{Contains}
use Rattle.std.specs.Ordering.{ordering_reverse}
use Rattle.std.specs.declared.cmp.Ordering.{Ordering}
use Rattle.std.specs.declared.cmp.Ordering.TheVariants.{Less, Equal, Greater}
use Rattle.std.specs.List.{AllByRecursion}
use Rattle.std.specs.List.Sorted.{IsStrictlySortedBy}
use Rattle.std.proofs.lemmas.Cmp.{nat_list_cmp_total}
use Rattle.std.proofs.lemmas.Bool.{cases_lt}
use Rattle.std.proofs.lemmas.List.Elements.{Contains-append_cases, Contains-append_left, Contains-append_right}
use Rattle.jk_geom.specs.declared.shape.PacketName.{PacketName}
use Rattle.jk_order.specs.PacketOrder.{key_cmp, by_order, inserted, sorted, joined}
use Rattle.jk_order.proofs.Ascending.{none_in, first_in, later_in, in_cases, first_below, rest_up}

-- no key is below itself, and of two keys only one is below the other
pub below_itself : (k : List ℕ) → key_cmp k k ≡ Less → ⊥
below_itself k e =
    let turned = nat_list_cmp_total.antisymm k k in
    let both : Less ≡ Greater = sym e ∙ (turned ∙ ap ordering_reverse e) in
    absurd cc

pub below_both : (k j : List ℕ) → key_cmp k j ≡ Less → key_cmp j k ≡ Less → ⊥
below_both k j a b = below_itself k (nat_list_cmp_total.trans k j k a b)

-- the other way round
pub above_below : (k j : List ℕ) → key_cmp k j ≡ Greater → key_cmp j k ≡ Less
above_below k j e = nat_list_cmp_total.antisymm j k ∙ ap ordering_reverse e

-- how two keys compare
pub cases_of : (o : Ordering) → (o ≡ Less) ⊎ ((o ≡ Equal) ⊎ (o ≡ Greater))
cases_of Less = inl refl
cases_of Equal = inr (inl refl)
cases_of Greater = inr (inr refl)

-- what holds of each element holds of each mapped one
pub all_mapped : {A B : Type 0} (P : B → Type 0) (f : A → B) (xs : List A) → ((y : A) → Contains xs y → P (f y)) → AllByRecursion P (map f xs)
all_mapped P f [] h = tt
all_mapped P f (x ∷ xs) h = (h x (first_in x xs), all_mapped P f xs (λ y c. h y (later_in x xs y c)))

pub up_cons : {A B : Type 0} (c : B → B → Ordering) (f : A → B) (x : A) (xs : List A) → ((y : A) → Contains xs y → c (f x) (f y) ≡ Less) → IsStrictlySortedBy c (map f xs) → IsStrictlySortedBy c (map f (x ∷ xs))
unfolding IsStrictlySortedBy
up_cons c f x xs h up = (all_mapped (λ b. c (f x) b ≡ Less) f xs h, up)

pub up_none : {A B : Type 0} (c : B → B → Ordering) (f : A → B) → IsStrictlySortedBy c (map f [])
unfolding IsStrictlySortedBy
up_none c f = tt

-- lists that ascend one way ascend another way that follows from it
pub up_other : {A B C : Type 0} (c : B → B → Ordering) (f : A → B) (d : C → C → Ordering) (g : A → C) (xs : List A)
    → ((x y : A) → Contains xs x → Contains xs y → c (f x) (f y) ≡ Less → d (g x) (g y) ≡ Less) → IsStrictlySortedBy c (map f xs) → IsStrictlySortedBy d (map g xs)
up_other c f d g [] h up = up_none d g
up_other c f d g (x ∷ xs) h up =
    up_cons d g x xs (λ y k. h x y (first_in x xs) (later_in x xs y k) (first_below c f x xs y up k))
    (up_other c f d g xs (λ a b i j. h a b (later_in x xs a i) (later_in x xs b j)) (rest_up c f x xs up))

-- one list of ascending keys for one set of elements
pub one_list : {A : Type 0} (f : A → List ℕ) (xs ys : List A) → IsStrictlySortedBy key_cmp (map f xs) → IsStrictlySortedBy key_cmp (map f ys)
    → ((n : A) → Contains xs n → Contains ys n) → ((n : A) → Contains ys n → Contains xs n) → xs ≡ ys
one_list f [] [] up down there back = refl
one_list f [] (y ∷ ys) up down there back = absurd (none_in y (back y (first_in y ys)))
one_list f (x ∷ xs) [] up down there back = absurd (none_in x (there x (first_in x xs)))
one_list {A} f (x ∷ xs) (y ∷ ys) up down there back =
    let same = heads (in_cases y ys x (there x (first_in x xs))) (in_cases x xs y (back y (first_in y ys))) in
    let rest : xs ≡ ys = one_list f xs ys (rest_up key_cmp f x xs up) (rest_up key_cmp f y ys down)
    (λ n c. forth same n c (in_cases y ys n (there n (later_in x xs n c))))
    (λ n c. home same n c (in_cases x xs n (back n (later_in y ys n c)))) in
    ap (λ (z : A). z ∷ xs) same ∙ ap (λ (zs : List A). y ∷ zs) rest
  where
    heads : (y ≡ x) ⊎ Contains ys x → (x ≡ y) ⊎ Contains xs y → x ≡ y
    heads (inl same) other = sym same
    heads (inr later) (inl same) = same
    heads (inr later) (inr further) = absurd (below_both (f y) (f x) (first_below key_cmp f y ys x down later) (first_below key_cmp f x xs y up further))

    forth : x ≡ y → (n : A) → Contains xs n → (y ≡ n) ⊎ Contains ys n → Contains ys n
    forth same n c (inl is) =
        let below = first_below key_cmp f x xs n up c in
        absurd (below_itself (f n) (subst (λ (z : A). key_cmp (f z) (f n) ≡ Less) (same ∙ is) below))
    forth same n c (inr later) = later

    home : x ≡ y → (n : A) → Contains ys n → (x ≡ n) ⊎ Contains xs n → Contains xs n
    home same n c (inl is) =
        let below = first_below key_cmp f y ys n down c in
        absurd (below_itself (f n) (subst (λ (z : A). key_cmp (f z) (f n) ≡ Less) (sym same ∙ is) below))
    home same n c (inr later) = later

-- what is in a list after an insertion
inserted_is : (f : PacketName → List ℕ) (n m : PacketName) (ms : List PacketName) → inserted f n (m ∷ ms) ≡ by_order (key_cmp (f n) (f m)) (n ∷ m ∷ ms) (m ∷ ms) (m ∷ inserted f n ms)
unfolding inserted
inserted_is f n m ms = refl

pub inserted_none : (f : PacketName → List ℕ) (n : PacketName) → inserted f n [] ≡ n ∷ []
unfolding inserted
inserted_none f n = refl

pub inserted_by : (f : PacketName → List ℕ) (n m : PacketName) (ms : List PacketName) (o : Ordering) → key_cmp (f n) (f m) ≡ o → inserted f n (m ∷ ms) ≡ by_order o (n ∷ m ∷ ms) (m ∷ ms) (m ∷ inserted f n ms)
inserted_by f n m ms o e = inserted_is f n m ms ∙ ap (λ r. by_order r (n ∷ m ∷ ms) (m ∷ ms) (m ∷ inserted f n ms)) e

-- nothing else comes in
from_inserted : (f : PacketName → List ℕ) (n : PacketName) (ms : List PacketName) (y : PacketName) → Contains (inserted f n ms) y → (n ≡ y) ⊎ Contains ms y
from_inserted f n [] y h = in_cases n [] y (subst (λ (xs : List PacketName). Contains xs y) (inserted_none f n) h)
from_inserted f n (m ∷ ms) y h = by (λ d. from_inserted f n ms y d) (cases_of (key_cmp (f n) (f m)))
  where
    later : (n ≡ y) ⊎ Contains ms y → (n ≡ y) ⊎ Contains (m ∷ ms) y
    later (inl same) = inl same
    later (inr c) = inr (later_in m ms y c)

    below : (Contains (inserted f n ms) y → (n ≡ y) ⊎ Contains ms y) → (m ≡ y) ⊎ Contains (inserted f n ms) y → (n ≡ y) ⊎ Contains (m ∷ ms) y
    below rest (inl same) = inr (subst (λ (z : PacketName). Contains (m ∷ ms) z) same (first_in m ms))
    below rest (inr c) = later (rest c)

    by : (Contains (inserted f n ms) y → (n ≡ y) ⊎ Contains ms y) → (key_cmp (f n) (f m) ≡ Less) ⊎ ((key_cmp (f n) (f m) ≡ Equal) ⊎ (key_cmp (f n) (f m) ≡ Greater)) → (n ≡ y) ⊎ Contains (m ∷ ms) y
    by rest (inl e) = in_cases n (m ∷ ms) y (subst (λ (xs : List PacketName). Contains xs y) (inserted_by f n m ms Less e) h)
    by rest (inr (inl e)) = inr (subst (λ (xs : List PacketName). Contains xs y) (inserted_by f n m ms Equal e) h)
    by rest (inr (inr e)) = below rest (in_cases m (inserted f n ms) y (subst (λ (xs : List PacketName). Contains xs y) (inserted_by f n m ms Greater e) h))

-- and all stays
kept_inserted : (f : PacketName → List ℕ) (n : PacketName) (ms : List PacketName) (y : PacketName) → Contains ms y → Contains (inserted f n ms) y
kept_inserted f n [] y h = absurd (none_in y h)
kept_inserted f n (m ∷ ms) y h = by (λ c. kept_inserted f n ms y c) (cases_of (key_cmp (f n) (f m)))
  where
    below : (Contains ms y → Contains (inserted f n ms) y) → (m ≡ y) ⊎ Contains ms y → Contains (m ∷ inserted f n ms) y
    below rest (inl same) = subst (λ (z : PacketName). Contains (m ∷ inserted f n ms) z) same (first_in m (inserted f n ms))
    below rest (inr c) = later_in m (inserted f n ms) y (rest c)

    by : (Contains ms y → Contains (inserted f n ms) y) → (key_cmp (f n) (f m) ≡ Less) ⊎ ((key_cmp (f n) (f m) ≡ Equal) ⊎ (key_cmp (f n) (f m) ≡ Greater)) → Contains (inserted f n (m ∷ ms)) y
    by rest (inl e) = subst (λ (xs : List PacketName). Contains xs y) (sym (inserted_by f n m ms Less e)) (later_in n (m ∷ ms) y h)
    by rest (inr (inl e)) = subst (λ (xs : List PacketName). Contains xs y) (sym (inserted_by f n m ms Equal e)) h
    by rest (inr (inr e)) = subst (λ (xs : List PacketName). Contains xs y) (sym (inserted_by f n m ms Greater e)) (below rest (in_cases m ms y h))

-- what is inserted is in, where its key is no other's
in_inserted : (f : PacketName → List ℕ) (n : PacketName) (ms : List PacketName) → ((m : PacketName) → Contains ms m → key_cmp (f n) (f m) ≡ Equal → n ≡ m) → Contains (inserted f n ms) n
in_inserted f n [] one = subst (λ (xs : List PacketName). Contains xs n) (sym (inserted_none f n)) (first_in n [])
in_inserted f n (m ∷ ms) one = by (in_inserted f n ms (λ z c. one z (later_in m ms z c))) (cases_of (key_cmp (f n) (f m)))
  where
    by : Contains (inserted f n ms) n → (key_cmp (f n) (f m) ≡ Less) ⊎ ((key_cmp (f n) (f m) ≡ Equal) ⊎ (key_cmp (f n) (f m) ≡ Greater)) → Contains (inserted f n (m ∷ ms)) n
    by rest (inl e) = subst (λ (xs : List PacketName). Contains xs n) (sym (inserted_by f n m ms Less e)) (first_in n (m ∷ ms))
    by rest (inr (inl e)) = subst (λ (xs : List PacketName). Contains xs n) (sym (inserted_by f n m ms Equal e)) (subst (λ (z : PacketName). Contains (m ∷ ms) z) (sym (one m (first_in m ms) e)) (first_in m ms))
    by rest (inr (inr e)) = subst (λ (xs : List PacketName). Contains xs n) (sym (inserted_by f n m ms Greater e)) (later_in m (inserted f n ms) n rest)

-- an ascending list stays so
up_inserted : (f : PacketName → List ℕ) (n : PacketName) (ms : List PacketName) → IsStrictlySortedBy key_cmp (map f ms) → IsStrictlySortedBy key_cmp (map f (inserted f n ms))
up_inserted f n [] up =
    subst (λ (xs : List PacketName). IsStrictlySortedBy key_cmp (map f xs)) (sym (inserted_none f n))
    (up_cons key_cmp f n [] (λ y c. absurd (none_in y c)) (up_none key_cmp f))
up_inserted f n (m ∷ ms) up = by (up_inserted f n ms (rest_up key_cmp f m ms up)) (cases_of (key_cmp (f n) (f m)))
  where
    after : key_cmp (f n) (f m) ≡ Less → (y : PacketName) → (m ≡ y) ⊎ Contains ms y → key_cmp (f n) (f y) ≡ Less
    after e y (inl same) = subst (λ (z : PacketName). key_cmp (f n) (f z) ≡ Less) same e
    after e y (inr c) = nat_list_cmp_total.trans (f n) (f m) (f y) e (first_below key_cmp f m ms y up c)

    before : key_cmp (f n) (f m) ≡ Greater → (y : PacketName) → (n ≡ y) ⊎ Contains ms y → key_cmp (f m) (f y) ≡ Less
    before e y (inl same) = subst (λ (z : PacketName). key_cmp (f m) (f z) ≡ Less) same (above_below (f n) (f m) e)
    before e y (inr c) = first_below key_cmp f m ms y up c

    by : IsStrictlySortedBy key_cmp (map f (inserted f n ms)) → (key_cmp (f n) (f m) ≡ Less) ⊎ ((key_cmp (f n) (f m) ≡ Equal) ⊎ (key_cmp (f n) (f m) ≡ Greater)) → IsStrictlySortedBy key_cmp (map f (inserted f n (m ∷ ms)))
    by rest (inl e) = subst (λ (xs : List PacketName). IsStrictlySortedBy key_cmp (map f xs)) (sym (inserted_by f n m ms Less e)) (up_cons key_cmp f n (m ∷ ms) (λ y c. after e y (in_cases m ms y c)) up)
    by rest (inr (inl e)) = subst (λ (xs : List PacketName). IsStrictlySortedBy key_cmp (map f xs)) (sym (inserted_by f n m ms Equal e)) up
    by rest (inr (inr e)) = subst (λ (xs : List PacketName). IsStrictlySortedBy key_cmp (map f xs)) (sym (inserted_by f n m ms Greater e)) (up_cons key_cmp f m (inserted f n ms) (λ y c. before e y (from_inserted f n ms y c)) rest)

-- sorting
pub sorted_is : (f : PacketName → List ℕ) (n : PacketName) (ns : List PacketName) → sorted f (n ∷ ns) ≡ inserted f n (sorted f ns)
unfolding sorted
sorted_is f n ns = refl

pub sorted_none : (f : PacketName → List ℕ) → sorted f [] ≡ []
unfolding sorted
sorted_none f = refl

pub up_sorted : (f : PacketName → List ℕ) (ns : List PacketName) → IsStrictlySortedBy key_cmp (map f (sorted f ns))
up_sorted f [] = subst (λ (xs : List PacketName). IsStrictlySortedBy key_cmp (map f xs)) (sym (sorted_none f)) (up_none key_cmp f)
up_sorted f (n ∷ ns) = subst (λ (xs : List PacketName). IsStrictlySortedBy key_cmp (map f xs)) (sym (sorted_is f n ns)) (up_inserted f n (sorted f ns) (up_sorted f ns))

pub from_sorted : (f : PacketName → List ℕ) (ns : List PacketName) (y : PacketName) → Contains (sorted f ns) y → Contains ns y
from_sorted f [] y h = subst (λ (xs : List PacketName). Contains xs y) (sorted_none f) h
from_sorted f (n ∷ ns) y h = by (λ c. from_sorted f ns y c) (from_inserted f n (sorted f ns) y (subst (λ (xs : List PacketName). Contains xs y) (sorted_is f n ns) h))
  where
    by : (Contains (sorted f ns) y → Contains ns y) → (n ≡ y) ⊎ Contains (sorted f ns) y → Contains (n ∷ ns) y
    by rest (inl same) = subst (λ (z : PacketName). Contains (n ∷ ns) z) same (first_in n ns)
    by rest (inr c) = later_in n ns y (rest c)

pub in_sorted : (f : PacketName → List ℕ) (ns : List PacketName) → ((n m : PacketName) → Contains ns n → Contains ns m → key_cmp (f n) (f m) ≡ Equal → n ≡ m)
    → (y : PacketName) → Contains ns y → Contains (sorted f ns) y
in_sorted f [] one y h = absurd (none_in y h)
in_sorted f (n ∷ ns) one y h =
    subst (λ (xs : List PacketName). Contains xs y) (sym (sorted_is f n ns))
    (by (λ c. in_sorted f ns (λ a b i j. one a b (later_in n ns a i) (later_in n ns b j)) y c) (in_cases n ns y h))
  where
    here : Contains (inserted f n (sorted f ns)) n
    here = in_inserted f n (sorted f ns) (λ m c. one n m (first_in n ns) (later_in n ns m (from_sorted f ns m c)))

    by : (Contains ns y → Contains (sorted f ns) y) → (n ≡ y) ⊎ Contains ns y → Contains (inserted f n (sorted f ns)) y
    by rest (inl same) = subst (λ (z : PacketName). Contains (inserted f n (sorted f ns)) z) same here
    by rest (inr c) = kept_inserted f n (sorted f ns) y (rest c)

-- joined lists
pub joined_is : {A : Type 0} (f : ℕ → List A) (n : ℕ) → joined f (suc n) ≡ joined f n ++ f n
unfolding joined
joined_is f n = refl

pub joined_none : {A : Type 0} (f : ℕ → List A) → joined f zero ≡ []
unfolding joined
joined_none f = refl

pub from_joined : {A : Type 0} (f : ℕ → List A) (n : ℕ) (y : A) → Contains (joined f n) y → (i : ℕ) × (i < n) × Contains (f i) y
from_joined {A} f zero y h = absurd (none_in y (subst (λ (xs : List A). Contains xs y) (joined_none f) h))
from_joined {A} f (suc n) y h = by (λ c. from_joined f n y c) (Contains-append_cases (joined f n) (f n) y (subst (λ (xs : List A). Contains xs y) (joined_is f n) h))
  where
    by : (Contains (joined f n) y → (i : ℕ) × (i < n) × Contains (f i) y) → Contains (joined f n) y ⊎ Contains (f n) y → (i : ℕ) × (i < suc n) × Contains (f i) y
    by rest (inl c) = let r = rest c in let less = r.1 in (r.0, omega arith, r.2)
    by rest (inr c) = (n, omega arith, c)

pub in_joined : {A : Type 0} (f : ℕ → List A) (n i : ℕ) (y : A) → i < n → Contains (f i) y → Contains (joined f n) y
in_joined f zero i y h c = absurd (omega arith)
in_joined {A} f (suc n) i y h c = subst (λ (xs : List A). Contains xs y) (sym (joined_is f n)) (by (λ less. in_joined f n i y less c) (cases_lt i n))
  where
    by : (i < n → Contains (joined f n) y) → (i < n) ⊎ (n ≤ i) → Contains (joined f n ++ f n) y
    by rest (inl less) = Contains-append_left (joined f n) (f n) y (rest less)
    by rest (inr last) = let same : i ≡ n = omega arith in Contains-append_right (joined f n) (f n) y (subst (λ j. Contains (f j) y) same c)
