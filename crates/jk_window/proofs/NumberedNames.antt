-- Packets of a tile by their numbers: each has one, and those that stand together have numbers one after another.
use Rattle.std.proofs.Common.{◌≡◌, ℕ, zero, suc, ◌+◌, ◌*◌, ◌<◌, ◌≤◌, inl, inr, List, [], ◌∷◌, length, map, Some, refl, sym, ap, ◌∙◌, arith}
use Rattle.std.specs.Prelude.{slice_get, sum_by}
use Rattle.std.specs.declared.cmp.Ordering.TheVariants.{Less, Equal}
use Rattle.std.specs.List.{AllByRecursion}
use Rattle.std.specs.List.Sorted.{IsStrictlySortedBy}
use Rattle.std.proofs.lemmas.Bool.{cases_lt}
use Rattle.std.proofs.Math.Nat.{mul-le-mul_right}
use Rattle.std.proofs.lemmas.Cmp.{tied_itself, nat_list_cmp_total}
use Rattle.std.proofs.lemmas.Option.{slice_get_within, get_or_from_slice_get}
use Rattle.std.proofs.lemmas.List.Sums.{sum_by-cons}
use Rattle.jk_math.specs.declared.rect.Rect.{Rect}
use Rattle.jk_marks.specs.declared.coding.Coding.{Coding}
use Rattle.jk_geom.specs.declared.shape.PacketName.{PacketName}
use Rattle.jk_geom.specs.declared.shape.TileShape.{TileShape}
use Rattle.jk_geom.specs.Precincts.{precinct_number}
use Rattle.jk_geom.specs.TileShapes.{IsTileShape, coding_of}
use Rattle.jk_geom.specs.Counts.{packet_number, precincts_below}
use Rattle.jk_order.specs.PacketOrder.{IsName, order, packet_count, key, key_cmp}
use Rattle.jk_order.proofs.Laws.{order_is, length_of}

-- ---- a packet has one number

later_above : {A : Type 0} (f : A → List ℕ) (k : List ℕ) (xs : List A) (i : ℕ) (n : A) → AllByRecursion (λ y. key_cmp k y ≡ Less) (map f xs) → slice_get xs i ≡ Some n → key_cmp k (f n) ≡ Less
later_above f k [] i n all e = absurd cc
later_above f k (x ∷ xs) zero n all e = let is : x ≡ n = cc in ap (λ y. key_cmp k (f y)) (sym is) ∙ all.0
later_above f k (x ∷ xs) (suc i) n all e = later_above f k xs i n all.1 e

-- an element of a list that ascends stands there once
never_later : {A : Type 0} (f : A → List ℕ) (x : A) (xs : List A) (i : ℕ) → AllByRecursion (λ y. key_cmp (f x) y ≡ Less) (map f xs) → slice_get xs i ≡ Some x → ⊥
never_later f x xs i all e =
    let less : key_cmp (f x) (f x) ≡ Less = later_above f (f x) xs i x all e in
    let tie : key_cmp (f x) (f x) ≡ Equal = tied_itself nat_list_cmp_total (f x) in
    let never : Less ≡ Equal = sym less ∙ tie in
    absurd cc

once : {A : Type 0} (f : A → List ℕ) (xs : List A) (i j : ℕ) (n : A) → IsStrictlySortedBy key_cmp (map f xs) → slice_get xs i ≡ Some n → slice_get xs j ≡ Some n → i ≡ j
unfolding IsStrictlySortedBy
once f [] i j n up e g = absurd cc
once f (x ∷ xs) zero zero n up e g = refl
once f (x ∷ xs) zero (suc j) n up e g = let is : n ≡ x = cc in absurd (never_later f x xs j up.0 (g ∙ ap Some is))
once f (x ∷ xs) (suc i) zero n up e g = let is : n ≡ x = cc in absurd (never_later f x xs i up.0 (e ∙ ap Some is))
once f (x ∷ xs) (suc i) (suc j) n up e g = ap suc (once f xs i j n up.1 e g)

pub number_once : (s : TileShape) (i j : ℕ) (n : PacketName) → slice_get (order s) i ≡ Some n → slice_get (order s) j ≡ Some n → i ≡ j
number_once s i j n e g = once (key s) (order s) i j n (order_is s).ascending e g

pub number_names : (s : TileShape) (i : ℕ) (n : PacketName) → slice_get (order s) i ≡ Some n → IsName s n
number_names s i n e = ((order_is s).members n).0 (i, slice_get_within (order s) i n e, get_or_from_slice_get (order s) i n n e)

pub number_least : (s : TileShape) (i : ℕ) (n : PacketName) → slice_get (order s) i ≡ Some n → i < packet_count s
number_least s i n e =
    let within = slice_get_within (order s) i n e in
    let long = length_of s (order s) (order_is s) in
    omega (arith, within, long)

-- ---- a resolution has no more precincts than the tile has packets

some_below : (a : Rect) (k : Coding) (r n : ℕ) → r < n → precinct_number a k r ≤ precincts_below a k n
unfolding precincts_below
some_below a k r zero lt = absurd (omega arith)
some_below a k r (suc n) lt = elim (cases_lt r n) [
  | inl less ↦ (let more = some_below a k r n less in omega (arith, more))
  | inr same ↦ (let is : r ≡ n = omega (arith, same, lt) in
      let here : precinct_number a k r ≡ precinct_number a k n = ap (precinct_number a k) is in
      omega (arith, here))
]

some_of : (f : Coding → ℕ) (ks : List Coding) (c : ℕ) → c < length ks → f (coding_of ks c) ≤ sum_by f ks
some_of f [] c lt = absurd (omega arith)
some_of f (k ∷ ks) zero lt = (let sum = sum_by-cons f k ks in omega (arith, sum))
some_of f (k ∷ ks) (suc c) lt =
    let sum = sum_by-cons f k ks in
    let more = some_of f ks c (omega arith) in
    omega (arith, sum, more)

pub precincts_few : (s : TileShape) (c r : ℕ) → IsTileShape s → c < length s.codings → r ≤ (coding_of s.codings c).levels → precinct_number s.rect (coding_of s.codings c) r ≤ packet_count s
unfolding packet_count packet_number
precincts_few s c r shape lt le =
    let k = coding_of s.codings c in
    let own = some_below s.rect k r (k.levels + 1) (omega arith) in
    let f = λ (x : Coding). precincts_below s.rect x (x.levels + 1) in
    let all : f k ≤ sum_by f s.codings = some_of f s.codings c lt in
    let layers = shape.some_layers in
    let whole : 1 * sum_by f s.codings ≤ s.layers * sum_by f s.codings = mul-le-mul_right (sum_by f s.codings) layers in
    omega (arith, own, all, whole)
