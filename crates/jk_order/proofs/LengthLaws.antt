-- A tile has as many packets as the formula says.
use Rattle.std.proofs.Common.{◌≡◌, ℕ, zero, suc, ◌+◌, ◌*◌, ◌<◌, ◌≤◌, ◌⊎◌, inl, inr, List, [], ◌∷◌, ◌++◌, map, length, take, refl, ap, sym, ◌∙◌, subst, arith, length-append}
use Rattle.std.specs.Prelude.{Contains, sum_by}
use Rattle.std.specs.Ordering.{nat_cmp, ordering_then}
use Rattle.std.specs.declared.cmp.Ordering.{Ordering}
use Rattle.std.specs.declared.cmp.Ordering.TheVariants.{Less, Equal, Greater}
use Rattle.std.specs.Cmp.{nat_cmp_is}
use Rattle.std.specs.Cmp.Lexicographic.{slice_cmp}
use Rattle.std.specs.List.Sorted.{IsStrictlySortedBy}
use Rattle.std.proofs.Math.Seq.{take-suc}
use Rattle.std.proofs.lemmas.List.{take_all}
use Rattle.std.proofs.lemmas.List.Sums.{sum_by_push}
use Rattle.std.proofs.lemmas.List.Elements.{Contains-append_cases}
use Rattle.jk_marks.specs.declared.coding.Coding.{Coding}
use Rattle.jk_geom.specs.declared.shape.TileShape.{TileShape}
use Rattle.jk_geom.specs.declared.shape.PacketName.{PacketName}
use Rattle.jk_geom.specs.TileShapes.{coding_of, no_coding}
use Rattle.jk_geom.specs.Precincts.{precinct_number}
use Rattle.jk_geom.specs.Counts.{precincts_below}
use Rattle.jk_order.specs.PacketOrder.{IsPacketOrder, key, key_cmp, inserted, sorted, joined, all_names, order, packet_count, layer_name}
use Rattle.jk_geom.proofs.Laws.{below_more, below_none}
use Rattle.jk_order.proofs.Counts.{count_is}
use Rattle.jk_order.proofs.Ascending.{none_in, one_in, first_in, later_in, first_below, rest_up}
use Rattle.jk_order.proofs.Sorting.{below_itself, up_cons, up_none, cases_of, inserted_none, inserted_by, sorted_is, sorted_none, from_sorted, joined_is, joined_none, from_joined}
use Rattle.jk_order.proofs.OrderLaws.{key_one, from_all, order_is, order_one}

-- ---- lists that ascend, joined

up_append : {A B : Type 0} (c : B → B → Ordering) (f : A → B) (xs ys : List A) → IsStrictlySortedBy c (map f xs) → IsStrictlySortedBy c (map f ys)
    → ((x y : A) → Contains xs x → Contains ys y → c (f x) (f y) ≡ Less) → IsStrictlySortedBy c (map f (xs ++ ys))
up_append c f [] ys a b h = b
up_append {A} c f (x ∷ xs) ys a b h =
    up_cons c f x (xs ++ ys) (λ y m. by y (Contains-append_cases xs ys y m)) (up_append c f xs ys (rest_up c f x xs a) b (λ y z i j. h y z (later_in x xs y i) j))
  where
    by : (y : A) → Contains xs y ⊎ Contains ys y → c (f x) (f y) ≡ Less
    by y (inl i) = first_below c f x xs y a i
    by y (inr j) = h x y (first_in x xs) j

up_joined : {A : Type 0} (f : A → List ℕ) (g : ℕ → List A) (n : ℕ) → ((i : ℕ) → IsStrictlySortedBy key_cmp (map f (g i)))
    → ((i j : ℕ) (x y : A) → i < j → Contains (g i) x → Contains (g j) y → key_cmp (f x) (f y) ≡ Less) → IsStrictlySortedBy key_cmp (map f (joined g n))
up_joined {A} f g zero each cross = subst (λ (xs : List A). IsStrictlySortedBy key_cmp (map f xs)) (sym (joined_none g)) (up_none key_cmp f)
up_joined {A} f g (suc n) each cross =
    subst (λ (xs : List A). IsStrictlySortedBy key_cmp (map f xs)) (sym (joined_is g n))
    (up_append key_cmp f (joined g n) (g n) (up_joined f g n each cross) (each n) (λ x y i j. by x y j (from_joined g n x i)))
  where
    by : (x y : A) → Contains (g n) y → (i : ℕ) × (i < n) × Contains (g i) x → key_cmp (f x) (f y) ≡ Less
    by x y there (i, less, here) = cross i n x y less here there

-- ---- all packets, by component, resolution, precinct and layer

abbrev pub spot : PacketName → List ℕ
spot n = n.component ∷ n.resolution ∷ n.precinct ∷ n.layer ∷ []

same_then : (a : ℕ) (o : Ordering) → ordering_then (nat_cmp a a) o ≡ o
same_then a o = ap (λ r. ordering_then r o) (sym (nat_cmp_is a a Equal refl))

less_then : (a b : ℕ) (o : Ordering) → a < b → ordering_then (nat_cmp a b) o ≡ Less
less_then a b o h = ap (λ r. ordering_then r o) (sym (nat_cmp_is a b Less h))

abbrev pub at_precinct : TileShape → (c r k : ℕ) → List PacketName
at_precinct s c r k = joined (λ l. layer_name c r k l ∷ []) s.layers

abbrev pub at_resolution : TileShape → (c r : ℕ) → List PacketName
at_resolution s c r = joined (at_precinct s c r) (precinct_number s.rect (coding_of s.codings c) r)

abbrev pub at_component : TileShape → ℕ → List PacketName
at_component s c = joined (at_resolution s c) ((coding_of s.codings c).levels + 1)

pub all_is : (s : TileShape) → all_names s ≡ joined (at_component s) (length s.codings)
unfolding all_names
all_is s = refl

-- what a packet of each is called
named_there : (c r k : ℕ) (x : PacketName) (n : ℕ) → Contains (joined (λ l. layer_name c r k l ∷ []) n) x → (l : ℕ) × (layer_name c r k l ≡ x)
named_there c r k x n h = by (from_joined (λ l. layer_name c r k l ∷ []) n x h)
  where
    by : (i : ℕ) × (i < n) × Contains (layer_name c r k i ∷ []) x → (l : ℕ) × (layer_name c r k l ≡ x)
    by (i, less, one) = (i, one_in (layer_name c r k i) x one)

precinct_up : (s : TileShape) (c r k : ℕ) → IsStrictlySortedBy key_cmp (map spot (at_precinct s c r k))
precinct_up s c r k =
    up_joined spot (λ l. layer_name c r k l ∷ []) s.layers
    (λ i. up_cons key_cmp spot (layer_name c r k i) [] (λ y h. absurd (none_in y h)) (up_none key_cmp spot))
    (λ i j x y less a b. by i j x y less (one_in (layer_name c r k i) x a) (one_in (layer_name c r k j) y b))
  where
    by : (i j : ℕ) (x y : PacketName) → i < j → layer_name c r k i ≡ x → layer_name c r k j ≡ y → key_cmp (spot x) (spot y) ≡ Less
    by i j x y less a b =
        subst (λ (z : PacketName). key_cmp (spot z) (spot y) ≡ Less) a
        (subst (λ (z : PacketName). key_cmp (spot (layer_name c r k i)) (spot z) ≡ Less) b
        (same_then c _ ∙ (same_then r _ ∙ (same_then k _ ∙ less_then i j Equal less))))

resolution_up : (s : TileShape) (c r : ℕ) → IsStrictlySortedBy key_cmp (map spot (at_resolution s c r))
resolution_up s c r =
    up_joined spot (at_precinct s c r) (precinct_number s.rect (coding_of s.codings c) r) (precinct_up s c r)
    (λ i j x y less a b. by i j x y less (named_there c r i x s.layers a) (named_there c r j y s.layers b))
  where
    by : (i j : ℕ) (x y : PacketName) → i < j → (l : ℕ) × (layer_name c r i l ≡ x) → (m : ℕ) × (layer_name c r j m ≡ y) → key_cmp (spot x) (spot y) ≡ Less
    by i j x y less (l, a) (m, b) =
        subst (λ (z : PacketName). key_cmp (spot z) (spot y) ≡ Less) a
        (subst (λ (z : PacketName). key_cmp (spot (layer_name c r i l)) (spot z) ≡ Less) b
        (same_then c _ ∙ (same_then r _ ∙ less_then i j _ less)))

-- the component and resolution of a packet
of_resolution : (s : TileShape) (c r : ℕ) (x : PacketName) → Contains (at_resolution s c r) x → (x.component ≡ c) × (x.resolution ≡ r)
of_resolution s c r x h = by (from_joined (at_precinct s c r) (precinct_number s.rect (coding_of s.codings c) r) x h)
  where
    is : (k : ℕ) → (l : ℕ) × (layer_name c r k l ≡ x) → (x.component ≡ c) × (x.resolution ≡ r)
    is k (l, e) = (ap (λ (z : PacketName). z.component) (sym e), ap (λ (z : PacketName). z.resolution) (sym e))

    by : (k : ℕ) × (k < precinct_number s.rect (coding_of s.codings c) r) × Contains (at_precinct s c r k) x → (x.component ≡ c) × (x.resolution ≡ r)
    by (k, less, here) = is k (named_there c r k x s.layers here)

of_component : (s : TileShape) (c : ℕ) (x : PacketName) → Contains (at_component s c) x → x.component ≡ c
of_component s c x h = by (from_joined (at_resolution s c) ((coding_of s.codings c).levels + 1) x h)
  where
    by : (r : ℕ) × (r < (coding_of s.codings c).levels + 1) × Contains (at_resolution s c r) x → x.component ≡ c
    by (r, less, here) = (of_resolution s c r x here).0

-- the first two numbers of two spots decide
component_first : (n m : PacketName) → n.component < m.component → key_cmp (spot n) (spot m) ≡ Less
component_first n m h = less_then n.component m.component _ h

resolution_second : (n m : PacketName) → n.component ≡ m.component → n.resolution < m.resolution → key_cmp (spot n) (spot m) ≡ Less
resolution_second n m e h =
    ap (λ c. ordering_then (nat_cmp c m.component) (slice_cmp nat_cmp (n.resolution ∷ n.precinct ∷ n.layer ∷ []) (m.resolution ∷ m.precinct ∷ m.layer ∷ []))) e
    ∙ (same_then m.component _ ∙ less_then n.resolution m.resolution _ h)

component_up : (s : TileShape) (c : ℕ) → IsStrictlySortedBy key_cmp (map spot (at_component s c))
component_up s c =
    up_joined spot (at_resolution s c) ((coding_of s.codings c).levels + 1) (resolution_up s c)
    (λ i j x y less a b. (let p = of_resolution s c i x a in let q = of_resolution s c j y b in
    resolution_second x y (p.0 ∙ sym q.0) (subst (λ n. n < y.resolution) (sym p.1) (subst (λ n. i < n) (sym q.1) less))))

pub all_up : (s : TileShape) → IsStrictlySortedBy key_cmp (map spot (all_names s))
all_up s =
    subst (λ (xs : List PacketName). IsStrictlySortedBy key_cmp (map spot xs)) (sym (all_is s))
    (up_joined spot (at_component s) (length s.codings) (component_up s)
    (λ i j x y less a b. component_first x y (subst (λ n. n < y.component) (sym (of_component s i x a)) (subst (λ n. i < n) (sym (of_component s j y b)) less))))

-- ---- sorting keeps the length

length_inserted : (f : PacketName → List ℕ) (n : PacketName) (ms : List PacketName) → ((m : PacketName) → Contains ms m → key_cmp (f n) (f m) ≡ Equal → ⊥)
    → length (inserted f n ms) ≡ length ms + 1
length_inserted f n [] none = ap (λ (xs : List PacketName). length xs) (inserted_none f n)
length_inserted f n (m ∷ ms) none = by (length_inserted f n ms (λ y c. none y (later_in m ms y c))) (cases_of (key_cmp (f n) (f m)))
  where
    by : length (inserted f n ms) ≡ length ms + 1 → (key_cmp (f n) (f m) ≡ Less) ⊎ ((key_cmp (f n) (f m) ≡ Equal) ⊎ (key_cmp (f n) (f m) ≡ Greater)) → length (inserted f n (m ∷ ms)) ≡ length (m ∷ ms) + 1
    by rest (inl e) = ap (λ (xs : List PacketName). length xs) (inserted_by f n m ms Less e) ∙ omega arith
    by rest (inr (inl e)) = absurd (none m (first_in m ms) e)
    by rest (inr (inr e)) = ap (λ (xs : List PacketName). length xs) (inserted_by f n m ms Greater e) ∙ omega arith

length_sorted : (f : PacketName → List ℕ) (ns : List PacketName) → IsStrictlySortedBy key_cmp (map spot ns)
    → ((n m : PacketName) → Contains ns n → Contains ns m → key_cmp (f n) (f m) ≡ Equal → n ≡ m) → length (sorted f ns) ≡ length ns
length_sorted f [] up one = ap (λ (xs : List PacketName). length xs) (sorted_none f)
length_sorted f (n ∷ ns) up one =
    let rest = length_sorted f ns (rest_up key_cmp spot n ns up) (λ a b i j. one a b (later_in n ns a i) (later_in n ns b j)) in
    let more = length_inserted f n (sorted f ns) (λ m c e. apart m (from_sorted f ns m c) (one n m (first_in n ns) (later_in n ns m (from_sorted f ns m c)) e)) in
    ap (λ (xs : List PacketName). length xs) (sorted_is f n ns) ∙ omega arith
  where
    apart : (m : PacketName) → Contains ns m → n ≡ m → ⊥
    apart m c same =
        let below = first_below key_cmp spot n ns m up c in
        below_itself (spot m) (subst (λ (z : PacketName). key_cmp (spot z) (spot m) ≡ Less) same below)

-- ---- lengths

length_same : {A : Type 0} (g : ℕ → List A) (n m : ℕ) → ((i : ℕ) → length (g i) ≡ m) → length (joined g n) ≡ n * m
length_same {A} g zero m each = ap (λ (xs : List A). length xs) (joined_none g) ∙ omega arith
length_same {A} g (suc n) m each =
    let rest = length_same g n m each in
    let last = each n in
    let both = length-append (joined g n) (g n) in
    ap (λ (xs : List A). length xs) (joined_is g n) ∙ omega arith

length_precinct : (s : TileShape) (c r k : ℕ) → length (at_precinct s c r k) ≡ s.layers
length_precinct s c r k = length_same (λ l. layer_name c r k l ∷ []) s.layers 1 (λ i. omega arith) ∙ omega arith

length_resolution : (s : TileShape) (c r : ℕ) → length (at_resolution s c r) ≡ precinct_number s.rect (coding_of s.codings c) r * s.layers
length_resolution s c r = length_same (at_precinct s c r) (precinct_number s.rect (coding_of s.codings c) r) s.layers (length_precinct s c r)

length_resolutions : (s : TileShape) (c n : ℕ) → length (joined (at_resolution s c) n) ≡ precincts_below s.rect (coding_of s.codings c) n * s.layers
length_resolutions s c zero =
    let none = below_none s.rect (coding_of s.codings c) in
    ap (λ (xs : List PacketName). length xs) (joined_none (at_resolution s c)) ∙ sym (ap (λ p. p * s.layers) none ∙ omega arith)
length_resolutions s c (suc n) =
    let k = coding_of s.codings c in
    let rest = length_resolutions s c n in
    let last = length_resolution s c n in
    let both = length-append (joined (at_resolution s c) n) (at_resolution s c n) in
    let more : precincts_below s.rect k (suc n) * s.layers ≡ (precincts_below s.rect k n + precinct_number s.rect k n) * s.layers = ap (λ p. p * s.layers) (below_more s.rect k n) in
    ap (λ (xs : List PacketName). length xs) (joined_is (at_resolution s c) n) ∙ omega arith

abbrev share : TileShape → Coding → ℕ
share s k = precincts_below s.rect k (k.levels + 1)

length_components : (s : TileShape) (n : ℕ) → n ≤ length s.codings → length (joined (at_component s) n) ≡ sum_by (share s) (take n s.codings) * s.layers
length_components s zero h = ap (λ (xs : List PacketName). length xs) (joined_none (at_component s)) ∙ omega arith
length_components s (suc n) h =
    let k = coding_of s.codings n in
    let rest = length_components s n (omega arith) in
    let last : length (at_component s n) ≡ share s k * s.layers = length_resolutions s n (k.levels + 1) in
    let both = length-append (joined (at_component s) n) (at_component s n) in
    let more : sum_by (share s) (take (suc n) s.codings) ≡ sum_by (share s) (take n s.codings) + share s k =
    ap (λ (ks : List Coding). sum_by (share s) ks) (take-suc s.codings n no_coding (omega arith)) ∙ sum_by_push (share s) (take n s.codings) k in
    let times : sum_by (share s) (take (suc n) s.codings) * s.layers ≡ (sum_by (share s) (take n s.codings) + share s k) * s.layers = ap (λ p. p * s.layers) more in
    ap (λ (xs : List PacketName). length xs) (joined_is (at_component s) n) ∙ omega arith

length_all : (s : TileShape) → length (all_names s) ≡ packet_count s
length_all s =
    let n = length_components s (length s.codings) (omega arith) in
    let whole : take (length s.codings) s.codings ≡ s.codings = take_all (length s.codings) s.codings (omega arith) in
    let sums : sum_by (share s) (take (length s.codings) s.codings) * s.layers ≡ sum_by (share s) s.codings * s.layers = ap (λ (ks : List Coding). sum_by (share s) ks * s.layers) whole in
    let count = count_is s in
    ap (λ (xs : List PacketName). length xs) (all_is s) ∙ omega arith

length_order : (s : TileShape) → length (order s) ≡ packet_count s
unfolding order
length_order s = length_sorted (key s) (all_names s) (all_up s) (λ n m a b e. key_one s n m (from_all s n a) (from_all s m b) e) ∙ length_all s

-- the law
pub length_of : (s : TileShape) (names : List PacketName) → IsPacketOrder s names → length names ≡ packet_count s
length_of s names o = ap (λ (xs : List PacketName). length xs) (order_one s names (order s) o (order_is s)) ∙ length_order s
