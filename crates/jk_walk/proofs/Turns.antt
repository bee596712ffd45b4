-- The packets of a tile in their order: each is of the next layer of its precinct.
use Rattle.std.proofs.Common.{◌≡◌, ℕ, zero, suc, ◌+◌, ◌<◌, inl, inr, true, cond, List, [], ◌∷◌, length, get_or, drop, refl, sym, ap, ◌∙◌, subst, arith}
use Rattle.std.specs.Prelude.{◌==◌, ◌&&◌, Contains, filter}
use Rattle.std.specs.List.{AllByRecursion}
use Rattle.std.proofs.lemmas.Bool.{cases_lt, cases_Bool, cond-true, cond-false, and_parts, and_from, eqb-true, eq-eqb}
use Rattle.std.proofs.lemmas.List.{length_push, get_or_append_left, get_or_push, drop_more, drop_all}
use Rattle.std.proofs.lemmas.List.Elements.{Contains-append_left, Contains-append_right, Contains-push}
use Rattle.jk_geom.specs.declared.shape.TileShape.{TileShape}
use Rattle.jk_geom.specs.declared.shape.PacketName.{PacketName}
use Rattle.jk_order.specs.PacketOrder.{IsName, IsPrecinct, is_of, layer_name, layer_names, joined, order}
use Rattle.jk_order.proofs.Laws.{order_is, layers_of}
use Rattle.jk_packet.specs.Reading.{PrecinctState}
use Rattle.jk_walk.specs.WalkReading.{States, with_state}

-- how many layers were read, by component, resolution and precinct
abbrev pub Counts : Type 0
Counts = ℕ → ℕ → ℕ → ℕ

-- one more of the precinct of a packet
abbrev pub one_more : Counts → PacketName → Counts
one_more counts n = λ c r k. cond (is_of c r k n) (counts c r k + 1) (counts c r k)

-- Packets of the tile, each of the next layer of its precinct.
abbrev pub AreTurns : TileShape → Counts → List PacketName → Type 0
AreTurns s counts [] = Unit {0}
AreTurns s counts (n ∷ names) = IsName s n × (n.layer ≡ counts n.component n.resolution n.precinct) × AreTurns s (one_more counts n) names

-- the precinct of a packet
pub its_precinct : (s : TileShape) (n : PacketName) → IsName s n → IsPrecinct s n.component n.resolution n.precinct
its_precinct s n is = record { component = is.component; resolution = is.resolution; precinct = is.precinct }

pub is_own : (n : PacketName) → is_of n.component n.resolution n.precinct n ≡ true
is_own n =
    and_from (n.component == n.component) ((n.resolution == n.resolution) && (n.precinct == n.precinct)) (eq-eqb n.component n.component refl)
    (and_from (n.resolution == n.resolution) (n.precinct == n.precinct) (eq-eqb n.resolution n.resolution refl) (eq-eqb n.precinct n.precinct refl))

-- what is of the precinct of a packet is of its numbers
pub at_own : {A : Type 0} (f : ℕ → ℕ → ℕ → A) (c r k : ℕ) (n : PacketName) → is_of c r k n ≡ true → f n.component n.resolution n.precinct ≡ f c r k
at_own f c r k n e =
    let first = and_parts (n.component == c) ((n.resolution == r) && (n.precinct == k)) e in
    let second = and_parts (n.resolution == r) (n.precinct == k) first.1 in
    let component = eqb-true n.component c first.0 in
    let resolution = eqb-true n.resolution r second.0 in
    let precinct = eqb-true n.precinct k second.1 in
    λ i. f (component i) (resolution i) (precinct i)

-- ---- the layers of a precinct

layers_length : (c r k n : ℕ) → length (layer_names c r k n) ≡ n
unfolding joined
layers_length c r k zero = refl
layers_length c r k (suc n) =
    let before = layers_length c r k n in
    let push = length_push (layer_names c r k n) (layer_name c r k n) in
    omega (arith, before, push)

layer_at : (c r k n m : ℕ) (d : PacketName) → m < n → get_or (layer_names c r k n) m d ≡ layer_name c r k m
unfolding joined
layer_at c r k zero m d less = absurd (omega (arith, less))
layer_at c r k (suc n) m d less =
    let long = layers_length c r k n in
    elim (cases_lt m n) [
      | inl before ↦ get_or_append_left (layer_names c r k n) (layer_name c r k n ∷ []) d m (omega (arith, long, before)) ∙ layer_at c r k n m d before
      | inr same ↦ let at : n ≡ m = omega (arith, less, same) in get_or_push (layer_names c r k n) (layer_name c r k n) d m (long ∙ at) ∙ ap (layer_name c r k) at
    ]

-- the first of the layers that are left
first_left : (c r k m l : ℕ) (n : PacketName) (xs : List PacketName) → n ∷ xs ≡ drop m (layer_names c r k l) → (n.layer ≡ m) × (xs ≡ drop (m + 1) (layer_names c r k l))
first_left c r k m l n xs e = elim (cases_lt m l) [
  | inl less ↦ (let long = layers_length c r k l in
      let next = drop_more (layer_names c r k l) m n (omega (arith, long, less)) in
      let own : n ≡ get_or (layer_names c r k l) m n = cc in
      let rest : xs ≡ drop (m + 1) (layer_names c r k l) = cc in
      (ap (λ (x : PacketName). x.layer) (own ∙ layer_at c r k l m n less), rest))
  | inr none ↦ (let long = layers_length c r k l in
      let past = drop_all m (layer_names c r k l) (omega (arith, long, none)) in
      let clash : n ∷ xs ≡ [] = e ∙ past in
      absurd cc)
]

-- ---- from the order

abbrev InTurn : TileShape → Counts → List PacketName → Type 0
InTurn s counts names = (c r k : ℕ) → IsPrecinct s c r k → filter (is_of c r k) names ≡ drop (counts c r k) (layer_names c r k s.layers)

next_turn : (s : TileShape) (counts : Counts) (n : PacketName) (names : List PacketName) → InTurn s counts (n ∷ names) → InTurn s (one_more counts n) names
next_turn s counts n names h c r k is = elim (cases_Bool (is_of c r k n)) [
  | inl own ↦ (let all : n ∷ filter (is_of c r k) names ≡ drop (counts c r k) (layer_names c r k s.layers) = sym (cond-true (is_of c r k n) (n ∷ filter (is_of c r k) names) (filter (is_of c r k) names) own) ∙ h c r k is in
      (first_left c r k (counts c r k) s.layers n (filter (is_of c r k) names) all).1
      ∙ ap (λ m. drop m (layer_names c r k s.layers)) (sym (cond-true (is_of c r k n) (counts c r k + 1) (counts c r k) own)))
  | inr other ↦
      sym (cond-false (is_of c r k n) (n ∷ filter (is_of c r k) names) (filter (is_of c r k) names) other) ∙ h c r k is
      ∙ ap (λ m. drop m (layer_names c r k s.layers)) (sym (cond-false (is_of c r k n) (counts c r k + 1) (counts c r k) other))
]

in_turns : (s : TileShape) (counts : Counts) (names : List PacketName) → AllByRecursion (IsName s) names → InTurn s counts names → AreTurns s counts names
in_turns s counts [] all h = tt
in_turns s counts (n ∷ names) all h =
    let c = n.component in
    let r = n.resolution in
    let k = n.precinct in
    let here : n ∷ filter (is_of c r k) names ≡ drop (counts c r k) (layer_names c r k s.layers) =
    sym (cond-true (is_of c r k n) (n ∷ filter (is_of c r k) names) (filter (is_of c r k) names) (is_own n)) ∙ h c r k (its_precinct s n all.0) in
    (all.0, (first_left c r k (counts c r k) s.layers n (filter (is_of c r k) names) here).0, in_turns s (one_more counts n) names all.1 (next_turn s counts n names h))

pub all_of : {A : Type 0} (P : A → Type 0) (xs : List A) → ((y : A) → Contains xs y → P y) → AllByRecursion P xs
all_of P [] h = tt
all_of P (x ∷ xs) h = (h x (Contains-append_left (x ∷ []) xs x (Contains-push [] x)), all_of P xs (λ y c. h y (Contains-append_right (x ∷ []) xs y c)))

-- nothing was read
abbrev pub no_counts : Counts
no_counts = λ _ _ _. 0

pub order_turns : (s : TileShape) → AreTurns s no_counts (order s)
order_turns s =
    let is = order_is s in
    in_turns s no_counts (order s) (all_of (IsName s) (order s) (λ n c. (is.members n).0 c)) (λ c r k of. layers_of s (order s) c r k is of)

-- ---- counts of states

abbrev pub counts_of : States → Counts
counts_of states = λ c r k. (states c r k).layers

-- a state that has read one layer more
pub counted : (states : States) (n : PacketName) (x : PrecinctState) → x.layers ≡ (states n.component n.resolution n.precinct).layers + 1 → one_more (counts_of states) n ≡ counts_of (with_state states n x)
counted states n x e = λ i c r k. (at c r k) i
  where
    at : (c r k : ℕ) → one_more (counts_of states) n c r k ≡ counts_of (with_state states n x) c r k
    at c r k = elim (cases_Bool (is_of c r k n)) [
      | inl own ↦ cond-true (is_of c r k n) ((states c r k).layers + 1) ((states c r k).layers) own ∙ ap (λ m. m + 1) (sym (at_own (counts_of states) c r k n own)) ∙ sym e
          ∙ ap (λ (y : PrecinctState). y.layers) (sym (cond-true (is_of c r k n) x (states c r k) own))
      | inr other ↦ cond-false (is_of c r k n) ((states c r k).layers + 1) ((states c r k).layers) other ∙ ap (λ (y : PrecinctState). y.layers) (sym (cond-false (is_of c r k n) x (states c r k) other))
    ]

pub next_counts : (s : TileShape) (states : States) (n : PacketName) (names : List PacketName) (x : PrecinctState) → x.layers ≡ (states n.component n.resolution n.precinct).layers + 1
    → AreTurns s (one_more (counts_of states) n) names → AreTurns s (counts_of (with_state states n x)) names
next_counts s states n names x e turns = subst (λ (c : Counts). AreTurns s c names) (counted states n x e) turns
