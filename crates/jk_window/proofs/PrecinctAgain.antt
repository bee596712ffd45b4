-- What is left of the packets of a precinct of which the first layers are kept.
use Rattle.std.proofs.Common.{◌≡◌, ℕ, zero, suc, ◌+◌, ◌<◌, ◌≤◌, Bool, true, false, cond, List, [], ◌∷◌, ◌++◌, length, map, take, drop, get_or, None, refl, sym, ap, ◌∙◌, subst, inl, inr, arith}
use Rattle.std.specs.List.{flat_map, range_with_len}
use Rattle.std.proofs.lemmas.Bool.{cases_lt, lt-ltb, le-ltb}
use Rattle.std.proofs.lemmas.List.{length-map, take_all}
use Rattle.std.proofs.lemmas.List.FromFn.{length-map-range_with_len, map-range_with_len_more}
use Rattle.jk_geom.specs.declared.shape.TileShape.{TileShape}
use Rattle.jk_geom.specs.declared.shape.PacketName.{PacketName}
use Rattle.jk_order.specs.PacketOrder.{IsPacketOrder, IsPrecinct, is_of, layer_name, layer_names, joined}
use Rattle.jk_order.proofs.Laws.{layers_of}
use Rattle.jk_packet.specs.declared.shape.BandShape.{BandShape}
use Rattle.jk_packet.specs.PacketText.{Layer, Trees, header_bits, IsLayer}
use Rattle.jk_walk.specs.TilePackets.{Body, Packet, IsToldPrecinct, of_precinct}
use Rattle.jk_window.specs.Emptied.{emptied_packet, emptied_run, of_fronts}
use Rattle.jk_window.proofs.EmptiedLaws.{no_packet}
use Rattle.jk_window.proofs.KeptPackets.{filter_mapped, of_kept}

-- of packets, the first n, and the others emptied
abbrev front : (sop eph : Bool) → (n : ℕ) → List Packet → List Packet
front sop eph zero packets = map (emptied_packet sop eph) packets
front sop eph (suc n) [] = []
front sop eph (suc n) (p ∷ packets) = p ∷ front sop eph n packets

-- ---- the layers of a precinct

layers_named : (c r k n : ℕ) → layer_names c r k n ≡ map (layer_name c r k) (range_with_len 0 n)
unfolding joined
layers_named c r k zero = refl
layers_named c r k (suc n) =
    let one : suc n ≡ n + 1 = omega arith in
    ap (λ (ns : List PacketName). ns ++ layer_name c r k n ∷ []) (layers_named c r k n)
    ∙ sym (map-range_with_len_more (layer_name c r k) 0 n n (omega arith)) ∙ ap (λ m. map (layer_name c r k) (range_with_len 0 m)) (sym one)

-- The packets of a precinct stand layer by layer.
names_are : (s : TileShape) (packets : List Packet) (c r k : ℕ) → IsPacketOrder s (map (λ (p : Packet). p.name) packets) → IsPrecinct s c r k
    → map (λ (p : Packet). p.name) (of_precinct c r k packets) ≡ map (layer_name c r k) (range_with_len 0 s.layers)
names_are s packets c r k order precinct =
    sym (filter_mapped (λ (p : Packet). p.name) (is_of c r k) (λ (p : Packet). is_of c r k p.name) packets (λ p. refl))
    ∙ layers_of s (map (λ (p : Packet). p.name) packets) c r k order precinct ∙ layers_named c r k s.layers

-- the packets are those of a precinct from layer l on
abbrev Ascend : (c r k l : ℕ) → List Packet → Type 0
Ascend c r k l [] = Unit {0}
Ascend c r k l (p ∷ packets) = (p.name ≡ layer_name c r k l) × Ascend c r k (l + 1) packets

ascend_from : (c r k l n : ℕ) (packets : List Packet) → map (λ (p : Packet). p.name) packets ≡ map (layer_name c r k) (range_with_len l n) → Ascend c r k l packets
ascend_from c r k l n [] e = tt
ascend_from c r k l zero (p ∷ packets) e = absurd (let f = ap (λ (ns : List PacketName). length ns) e in omega (arith, f))
ascend_from c r k l (suc n) (p ∷ packets) e =
    (ap (λ (ns : List PacketName). get_or ns 0 p.name) e, ascend_from c r k (l + 1) n packets (ap (λ (ns : List PacketName). drop 1 ns) e))

-- ---- what is kept of it

none_kept : (fronts : ℕ → ℕ → ℕ → ℕ) (sop eph : Bool) (c r k l : ℕ) (packets : List Packet) → fronts c r k ≤ l → Ascend c r k l packets
    → emptied_run (of_fronts fronts) sop eph packets ≡ map (emptied_packet sop eph) packets
none_kept fronts sop eph c r k l [] le up = refl
none_kept fronts sop eph c r k l (p ∷ packets) le up =
    let past : of_fronts fronts p.name ≡ false = ap (of_fronts fronts) up.0 ∙ le-ltb l (fronts c r k) le in
    let more = none_kept fronts sop eph c r k (l + 1) packets (omega (arith, le)) up.1 in
    λ i. cond (past i) p (emptied_packet sop eph p) ∷ more i

front_kept : (fronts : ℕ → ℕ → ℕ → ℕ) (sop eph : Bool) (c r k l n : ℕ) (packets : List Packet) → fronts c r k ≡ l + n → Ascend c r k l packets
    → emptied_run (of_fronts fronts) sop eph packets ≡ front sop eph n packets
front_kept fronts sop eph c r k l zero packets e up = none_kept fronts sop eph c r k l packets (omega (arith, e)) up
front_kept fronts sop eph c r k l (suc n) [] e up = refl
front_kept fronts sop eph c r k l (suc n) (p ∷ packets) e up =
    let kept : of_fronts fronts p.name ≡ true = ap (of_fronts fronts) up.0 ∙ lt-ltb l (fronts c r k) (omega (arith, e)) in
    let more = front_kept fronts sop eph c r k (l + 1) n packets (omega (arith, e)) up.1 in
    λ i. cond (kept i) p (emptied_packet sop eph p) ∷ more i

-- What is left of a precinct: the packets of its first layers, and the others empty.
front_left : (s : TileShape) (sop eph : Bool) (packets : List Packet) (fronts : ℕ → ℕ → ℕ → ℕ) (c r k : ℕ) → IsPacketOrder s (map (λ (p : Packet). p.name) packets) → IsPrecinct s c r k
    → of_precinct c r k (emptied_run (of_fronts fronts) sop eph packets) ≡ front sop eph (fronts c r k) (of_precinct c r k packets)
front_left s sop eph packets fronts c r k order precinct =
    of_kept (of_fronts fronts) sop eph c r k packets
    ∙ front_kept fronts sop eph c r k 0 (fronts c r k) (of_precinct c r k packets) (omega arith) (ascend_from c r k 0 s.layers (of_precinct c r k packets) (names_are s packets c r k order precinct))

-- ---- its headers

front_length : (sop eph : Bool) (n : ℕ) (packets : List Packet) → length (front sop eph n packets) ≡ length packets
front_length sop eph zero packets = length-map packets (emptied_packet sop eph)
front_length sop eph (suc n) [] = refl
front_length sop eph (suc n) (p ∷ packets) = ap suc (front_length sop eph n packets)

-- what the first n say is as it was
front_take : {X : Type 0} (g : Packet → X) (sop eph : Bool) (n i : ℕ) (packets : List Packet) → i ≤ n → take i (map g (front sop eph n packets)) ≡ take i (map g packets)
front_take g sop eph n zero packets le = refl
front_take g sop eph zero (suc i) packets le = absurd (omega (arith, le))
front_take g sop eph (suc n) (suc i) [] le = refl
front_take {X} g sop eph (suc n) (suc i) (p ∷ packets) le = ap (λ (xs : List X). g p ∷ xs) (front_take g sop eph n i packets (omega (arith, le)))

front_at : {X : Type 0} (g : Packet → X) (d : X) (sop eph : Bool) (n i : ℕ) (packets : List Packet) → i < n → get_or (map g (front sop eph n packets)) i d ≡ get_or (map g packets) i d
front_at g d sop eph zero i packets lt = absurd (omega (arith, lt))
front_at g d sop eph (suc n) i [] lt = refl
front_at g d sop eph (suc n) zero (p ∷ packets) lt = refl
front_at g d sop eph (suc n) (suc i) (p ∷ packets) lt = front_at g d sop eph n i packets (omega (arith, lt))

-- and the others say what an empty packet says
front_past : {X : Type 0} (g : Packet → X) (d : X) (sop eph : Bool) (n i : ℕ) (packets : List Packet) → n ≤ i → i < length packets
    → get_or (map g (front sop eph n packets)) i d ≡ g (emptied_packet sop eph (get_or packets i no_packet))
front_past g d sop eph n i [] le lt = absurd (omega (arith, lt))
front_past g d sop eph zero zero (p ∷ packets) le lt = refl
front_past g d sop eph zero (suc i) (p ∷ packets) le lt = front_past g d sop eph zero i packets (omega arith) (omega (arith, lt))
front_past g d sop eph (suc n) zero (p ∷ packets) le lt = absurd (omega (arith, le))
front_past g d sop eph (suc n) (suc i) (p ∷ packets) le lt = front_past g d sop eph n i packets (omega (arith, le)) (omega (arith, lt))

-- what is told of packet i: the layers before it, its own, and its bits
abbrev Told : Type 0
Told = List Layer × Layer × List Bool

abbrev told_at : List Packet → ℕ → Told
told_at packets i =
    let layers = map (λ (p : Packet). p.layer) packets in
    (take i layers, get_or layers i None, get_or (map (λ (p : Packet). p.bits) packets) i [])

abbrev IsTold : List BandShape → Trees → Told → Type 0
IsTold shapes trees q = (q.2 ≡ header_bits shapes trees q.0 q.1) × IsLayer shapes trees q.0 q.1

pub front_told : (s : TileShape) (sop eph : Bool) (packets : List Packet) (fronts : ℕ → ℕ → ℕ → ℕ) (c r k : ℕ) (shapes : List BandShape) → IsPacketOrder s (map (λ (p : Packet). p.name) packets) → IsPrecinct s c r k
    → IsToldPrecinct shapes (of_precinct c r k packets) → IsToldPrecinct shapes (of_precinct c r k (emptied_run (of_fronts fronts) sop eph packets))
front_told s sop eph packets fronts c r k shapes order precinct told =
    let own = of_precinct c r k packets in
    let n = fronts c r k in
    let left = front sop eph n own in
    let layer : Packet → Layer = λ p. p.layer in
    let bits : Packet → List Bool = λ p. p.bits in
    let long = length-map left layer in
    subst (IsToldPrecinct shapes) (sym (front_left s sop eph packets fronts c r k order precinct)) (record {
      trees = told.trees;
      are = told.are;
      told = (
        length-map left bits ∙ sym long,
        λ i lt.
            let less : i < length own = omega (arith, lt, long, front_length sop eph n own) in
            elim (cases_lt i n) [
              | inl first ↦
                  let same : told_at left i ≡ told_at own i = λ j. (front_take layer sop eph n i own (omega (arith, first)) j, front_at layer None sop eph n i own first j, front_at bits [] sop eph n i own first j) in
                  subst (IsTold shapes told.trees) (sym same) (told.told.1 i (omega (arith, less, length-map own layer)))
              | inr past ↦
                  let none : told_at left i ≡ (take i (map layer left), None, false ∷ []) = λ j. (take i (map layer left), front_past layer None sop eph n i own past less j, front_past bits [] sop eph n i own past less j) in
                  subst (IsTold shapes told.trees) (sym none) (refl, tt)
            ],
      );
    })

-- ---- its bodies

none_left : (sop eph : Bool) (packets : List Packet) → flat_map (λ (p : Packet). p.bodies) (map (emptied_packet sop eph) packets) ≡ []
none_left sop eph [] = refl
none_left sop eph (p ∷ packets) = none_left sop eph packets

front_has : (sop eph : Bool) (n : ℕ) (packets : List Packet) → flat_map (λ (p : Packet). p.bodies) (front sop eph n packets) ≡ flat_map (λ (p : Packet). p.bodies) (take n packets)
front_has sop eph zero packets = none_left sop eph packets
front_has sop eph (suc n) [] = refl
front_has sop eph (suc n) (p ∷ packets) = ap (λ (bs : List Body). p.bodies ++ bs) (front_has sop eph n packets)

-- What is left of a precinct has the bodies of its first layers.
pub front_bodies : (s : TileShape) (sop eph : Bool) (packets : List Packet) (fronts : ℕ → ℕ → ℕ → ℕ) (c r k : ℕ) → IsPacketOrder s (map (λ (p : Packet). p.name) packets) → IsPrecinct s c r k
    → flat_map (λ (p : Packet). p.bodies) (of_precinct c r k (emptied_run (of_fronts fronts) sop eph packets)) ≡ flat_map (λ (p : Packet). p.bodies) (take (fronts c r k) (of_precinct c r k packets))
front_bodies s sop eph packets fronts c r k order precinct =
    ap (λ (ps : List Packet). flat_map (λ (p : Packet). p.bodies) ps) (front_left s sop eph packets fronts c r k order precinct) ∙ front_has sop eph (fronts c r k) (of_precinct c r k packets)

-- all its layers are all its packets
pub all_layers : (s : TileShape) (packets : List Packet) (c r k : ℕ) → IsPacketOrder s (map (λ (p : Packet). p.name) packets) → IsPrecinct s c r k → take s.layers (of_precinct c r k packets) ≡ of_precinct c r k packets
all_layers s packets c r k order precinct =
    let own = of_precinct c r k packets in
    let names = ap (λ (ns : List PacketName). length ns) (names_are s packets c r k order precinct) in
    take_all s.layers own (omega (arith, names, length-map own (λ (p : Packet). p.name), length-map-range_with_len (layer_name c r k) 0 s.layers))

-- Where precincts keep their first l layers or nothing, it has the bodies of these layers of one that keeps them, and none of any other.
pub kept_bodies : (s : TileShape) (keep : ℕ → ℕ → ℕ → Bool) (l : ℕ) (sop eph : Bool) (packets : List Packet) (c r k : ℕ) → IsPacketOrder s (map (λ (p : Packet). p.name) packets) → IsPrecinct s c r k
    → flat_map (λ (p : Packet). p.bodies) (of_precinct c r k (emptied_run (of_fronts (λ c r k. cond (keep c r k) l 0)) sop eph packets)) ≡ cond (keep c r k) (flat_map (λ (p : Packet). p.bodies) (take l (of_precinct c r k packets))) []
kept_bodies s keep l sop eph packets c r k order precinct = front_bodies s sop eph packets (λ c r k. cond (keep c r k) l 0) c r k order precinct ∙ by (keep c r k)
  where
    by : (b : Bool) → flat_map (λ (p : Packet). p.bodies) (take (cond b l 0) (of_precinct c r k packets)) ≡ cond b (flat_map (λ (p : Packet). p.bodies) (take l (of_precinct c r k packets))) []
    by true = refl
    by false = refl
