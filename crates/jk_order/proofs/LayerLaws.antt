-- The packets of a precinct come layer by layer, from layer 0 on.
use Rattle.std.proofs.Common.{◌≡◌, ℕ, zero, suc, ◌<◌, ◌⊎◌, inl, inr, Bool, true, false, List, [], ◌∷◌, ◌++◌, map, refl, ap, sym, ◌∙◌, subst}
use Rattle.std.specs.Prelude.{◌==◌, ◌&&◌, Contains, filter}
use Rattle.std.specs.Ordering.{nat_cmp, ordering_then}
use Rattle.std.specs.declared.cmp.Ordering.{Ordering}
use Rattle.std.specs.declared.cmp.Ordering.TheVariants.{Less, Equal}
use Rattle.std.specs.Cmp.{nat_cmp_is}
use Rattle.std.specs.Cmp.Lexicographic.{slice_cmp}
use Rattle.std.specs.List.Sorted.{IsStrictlySortedBy}
use Rattle.std.proofs.lemmas.Bool.{cond_both, cond-true, cond-false, cases_Bool, and_parts, and_from, eqb-true, eq-eqb}
use Rattle.std.proofs.lemmas.List.Elements.{Contains-append_cases}
use Rattle.jk_marks.specs.declared.segments.Order.{Order}
use Rattle.jk_marks.specs.declared.segments.Order.TheVariants.{Lrcp, Rlcp, Rpcl, Pcrl, Cprl}
use Rattle.jk_geom.specs.declared.shape.TileShape.{TileShape}
use Rattle.jk_geom.specs.declared.shape.PacketName.{PacketName}
use Rattle.jk_geom.specs.TileShapes.{coding_of}
use Rattle.jk_order.specs.PacketOrder.{IsName, IsPacketOrder, IsPrecinct, key, key_at, key_cmp, precinct_x, precinct_y, is_of, layer_name, layer_names}
use Rattle.jk_order.proofs.Keys.{then_less}
use Rattle.jk_order.proofs.Ascending.{none_in, one_in, first_in, later_in, in_cases, first_below, rest_up}
use Rattle.jk_order.proofs.Sorting.{up_cons, up_none, up_other, one_list, from_joined, in_joined, joined_is, joined_none}

-- ---- parts of a list

in_filter : {A : Type 0} (p : A → Bool) (xs : List A) (y : A) → Contains xs y → p y ≡ true → Contains (filter p xs) y
in_filter p [] y h e = absurd (none_in y h)
in_filter {A} p (x ∷ xs) y h e = by (λ c. in_filter p xs y c e) (in_cases x xs y h)
  where
    by : (Contains xs y → Contains (filter p xs) y) → (x ≡ y) ⊎ Contains xs y → Contains (filter p (x ∷ xs)) y
    by rest (inl same) =
        subst (λ (zs : List A). Contains zs y) (sym (cond-true (p x) (x ∷ filter p xs) (filter p xs) (ap p same ∙ e)))
        (subst (λ (z : A). Contains (x ∷ filter p xs) z) same (first_in x (filter p xs)))
    by rest (inr later) =
        cond_both (p x) (x ∷ filter p xs) (filter p xs) (λ (zs : List A). Contains zs y) (λ t. later_in x (filter p xs) y (rest later)) (λ f. rest later)

from_filter : {A : Type 0} (p : A → Bool) (xs : List A) (y : A) → Contains (filter p xs) y → Contains xs y × (p y ≡ true)
from_filter p [] y h = absurd (none_in y h)
from_filter {A} p (x ∷ xs) y h = by (λ c. from_filter p xs y c) (cases_Bool (p x))
  where
    further : Contains xs y × (p y ≡ true) → Contains (x ∷ xs) y × (p y ≡ true)
    further c = (later_in x xs y c.0, c.1)

    here : p x ≡ true → (Contains (filter p xs) y → Contains xs y × (p y ≡ true)) → (x ≡ y) ⊎ Contains (filter p xs) y → Contains (x ∷ xs) y × (p y ≡ true)
    here e rest (inl same) = (subst (λ (z : A). Contains (x ∷ xs) z) same (first_in x xs), ap p (sym same) ∙ e)
    here e rest (inr later) = further (rest later)

    by : (Contains (filter p xs) y → Contains xs y × (p y ≡ true)) → (p x ≡ true) ⊎ (p x ≡ false) → Contains (x ∷ xs) y × (p y ≡ true)
    by rest (inl e) = here e rest (in_cases x (filter p xs) y (subst (λ (zs : List A). Contains zs y) (cond-true (p x) (x ∷ filter p xs) (filter p xs) e) h))
    by rest (inr e) = further (rest (subst (λ (zs : List A). Contains zs y) (cond-false (p x) (x ∷ filter p xs) (filter p xs) e) h))

up_filter : {A B : Type 0} (c : B → B → Ordering) (f : A → B) (p : A → Bool) (xs : List A) → IsStrictlySortedBy c (map f xs) → IsStrictlySortedBy c (map f (filter p xs))
up_filter c f p [] up = up
up_filter {A} c f p (x ∷ xs) up =
    let rest = up_filter c f p xs (rest_up c f x xs up) in
    cond_both (p x) (x ∷ filter p xs) (filter p xs) (λ (zs : List A). IsStrictlySortedBy c (map f zs))
    (λ t. up_cons c f x (filter p xs) (λ y h. first_below c f x xs y up (from_filter p xs y h).0) rest) (λ n. rest)

-- one more at the end
up_push : {A B : Type 0} (c : B → B → Ordering) (f : A → B) (xs : List A) (z : A) → IsStrictlySortedBy c (map f xs) → ((y : A) → Contains xs y → c (f y) (f z) ≡ Less)
    → IsStrictlySortedBy c (map f (xs ++ z ∷ []))
up_push c f [] z up below = up_cons c f z [] (λ y h. absurd (none_in y h)) (up_none c f)
up_push {A} c f (x ∷ xs) z up below =
    up_cons c f x (xs ++ z ∷ []) (λ y h. by y (Contains-append_cases xs (z ∷ []) y h)) (up_push c f xs z (rest_up c f x xs up) (λ y h. below y (later_in x xs y h)))
  where
    by : (y : A) → Contains xs y ⊎ Contains (z ∷ []) y → c (f x) (f y) ≡ Less
    by y (inl h) = first_below c f x xs y up h
    by y (inr h) = subst (λ (w : A). c (f x) (f w) ≡ Less) (one_in z y h) (below x (first_in x xs))

-- ---- layers

-- an equal number doesn't decide
skip_less : (a : ℕ) (o : Ordering) → ordering_then (nat_cmp a a) o ≡ Less → o ≡ Less
skip_less a o e = subst (λ r. ordering_then r o ≡ Less) (sym (nat_cmp_is a a Equal refl)) e

-- of one precinct a lower key is of a lower layer
layer_lower : (o : Order) (l m r c k x y : ℕ) → key_cmp (key_at o l r c k x y) (key_at o m r c k x y) ≡ Less → l < m
layer_lower Lrcp l m r c k x y h = by (then_less l m (slice_cmp nat_cmp (r ∷ c ∷ k ∷ []) (r ∷ c ∷ k ∷ [])) h)
  where
    by : (l < m) ⊎ ((l ≡ m) × (slice_cmp nat_cmp (r ∷ c ∷ k ∷ []) (r ∷ c ∷ k ∷ []) ≡ Less)) → l < m
    by (inl less) = less
    by (inr same) = let none : Equal ≡ Less = skip_less k Equal (skip_less c _ (skip_less r _ same.1)) in absurd cc
layer_lower Rlcp l m r c k x y h = by (then_less l m (slice_cmp nat_cmp (c ∷ k ∷ []) (c ∷ k ∷ [])) (skip_less r _ h))
  where
    by : (l < m) ⊎ ((l ≡ m) × (slice_cmp nat_cmp (c ∷ k ∷ []) (c ∷ k ∷ []) ≡ Less)) → l < m
    by (inl less) = less
    by (inr same) = let none : Equal ≡ Less = skip_less k Equal (skip_less c _ same.1) in absurd cc
layer_lower Rpcl l m r c k x y h = by (then_less l m Equal (skip_less c _ (skip_less x _ (skip_less y _ (skip_less r _ h)))))
  where
    by : (l < m) ⊎ ((l ≡ m) × (Equal ≡ Less)) → l < m
    by (inl less) = less
    by (inr same) = let none = same.1 in absurd cc
layer_lower Pcrl l m r c k x y h = by (then_less l m Equal (skip_less r _ (skip_less c _ (skip_less x _ (skip_less y _ h)))))
  where
    by : (l < m) ⊎ ((l ≡ m) × (Equal ≡ Less)) → l < m
    by (inl less) = less
    by (inr same) = let none = same.1 in absurd cc
layer_lower Cprl l m r c k x y h = by (then_less l m Equal (skip_less r _ (skip_less x _ (skip_less y _ (skip_less c _ h)))))
  where
    by : (l < m) ⊎ ((l ≡ m) × (Equal ≡ Less)) → l < m
    by (inl less) = less
    by (inr same) = let none = same.1 in absurd cc

-- the layer as a key
abbrev layer_key : PacketName → List ℕ
layer_key n = n.layer ∷ []

lower_layer : (l m : ℕ) → l < m → key_cmp (l ∷ []) (m ∷ []) ≡ Less
lower_layer l m h = ap (λ o. ordering_then o Equal) (sym (nat_cmp_is l m Less h))

-- a packet of a precinct
named_is : (c r k : ℕ) (n : PacketName) → is_of c r k n ≡ true → n ≡ layer_name c r k n.layer
named_is c r k n e =
    let first = and_parts (n.component == c) ((n.resolution == r) && (n.precinct == k)) e in
    let second = and_parts (n.resolution == r) (n.precinct == k) first.1 in
    let component = eqb-true _ _ first.0 in
    let resolution = eqb-true _ _ second.0 in
    let precinct = eqb-true _ _ second.1 in
    λ i. record { layer = n.layer; resolution = resolution i; component = component i; precinct = precinct i }

is_named : (c r k l : ℕ) → is_of c r k (layer_name c r k l) ≡ true
is_named c r k l = and_from (c == c) ((r == r) && (k == k)) (eq-eqb c c refl) (and_from (r == r) (k == k) (eq-eqb r r refl) (eq-eqb k k refl))

key_lower : (s : TileShape) (c r k : ℕ) (n m : PacketName) → is_of c r k n ≡ true → is_of c r k m ≡ true → key_cmp (key s n) (key s m) ≡ Less → n.layer < m.layer
unfolding key
key_lower s c r k n m e d h =
    let kd = coding_of s.codings c in
    layer_lower s.order n.layer m.layer r c k (precinct_x s.rect kd r k) (precinct_y s.rect kd r k)
    (subst (λ (z : PacketName). key_cmp (key s (layer_name c r k n.layer)) (key s z) ≡ Less) (named_is c r k m d)
    (subst (λ (z : PacketName). key_cmp (key s z) (key s m) ≡ Less) (named_is c r k n e) h))

layers_up : (c r k n : ℕ) → IsStrictlySortedBy key_cmp (map layer_key (layer_names c r k n))
layers_up c r k zero = subst (λ (xs : List PacketName). IsStrictlySortedBy key_cmp (map layer_key xs)) (sym (joined_none (λ l. layer_name c r k l ∷ []))) (up_none key_cmp layer_key)
layers_up c r k (suc n) =
    subst (λ (xs : List PacketName). IsStrictlySortedBy key_cmp (map layer_key xs)) (sym (joined_is (λ l. layer_name c r k l ∷ []) n))
    (up_push key_cmp layer_key (layer_names c r k n) (layer_name c r k n) (layers_up c r k n) (λ y h. below y (from_joined (λ l. layer_name c r k l ∷ []) n y h)))
  where
    below : (y : PacketName) → (i : ℕ) × (i < n) × Contains (layer_name c r k i ∷ []) y → key_cmp (layer_key y) (n ∷ []) ≡ Less
    below y (i, less, in_one) = subst (λ (z : PacketName). key_cmp (layer_key z) (n ∷ []) ≡ Less) (one_in (layer_name c r k i) y in_one) (lower_layer i n less)

-- the law
pub layers_of : (s : TileShape) (names : List PacketName) (c r k : ℕ) → IsPacketOrder s names → IsPrecinct s c r k → filter (is_of c r k) names ≡ layer_names c r k s.layers
layers_of s names c r k o p =
    one_list layer_key (filter (is_of c r k) names) (layer_names c r k s.layers)
    (up_other key_cmp (key s) key_cmp layer_key (filter (is_of c r k) names)
    (λ x y i j h. lower_layer x.layer y.layer (key_lower s c r k x y (from_filter (is_of c r k) names x i).1 (from_filter (is_of c r k) names y j).1 h))
    (up_filter key_cmp (key s) (is_of c r k) names o.ascending))
    (layers_up c r k s.layers) there back
  where
    there : (n : PacketName) → Contains (filter (is_of c r k) names) n → Contains (layer_names c r k s.layers) n
    there n h =
        let from = from_filter (is_of c r k) names n h in
        let is = (o.members n).0 from.0 in
        in_joined (λ l. layer_name c r k l ∷ []) s.layers n.layer n is.layer
        (subst (λ (z : PacketName). Contains (layer_name c r k n.layer ∷ []) z) (sym (named_is c r k n from.1)) (first_in (layer_name c r k n.layer) []))

    found : (n : PacketName) → (i : ℕ) × (i < s.layers) × Contains (layer_name c r k i ∷ []) n → Contains (filter (is_of c r k) names) n
    found n (i, less, in_one) =
        let is : IsName s (layer_name c r k i) = record { layer = less; component = p.component; resolution = p.resolution; precinct = p.precinct } in
        subst (λ (z : PacketName). Contains (filter (is_of c r k) names) z) (one_in (layer_name c r k i) n in_one)
        (in_filter (is_of c r k) names (layer_name c r k i) ((o.members (layer_name c r k i)).1 is) (is_named c r k i))

    back : (n : PacketName) → Contains (layer_names c r k s.layers) n → Contains (filter (is_of c r k) names) n
    back n h = found n (from_joined (λ l. layer_name c r k l ∷ []) s.layers n h)
