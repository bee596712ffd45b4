-- The header of each packet of a tile has a bit.
use Rattle.std.proofs.Common.{◌≡◌, ℕ, zero, suc, ◌<◌, Bool, true, false, cond, List, [], ◌∷◌, length, map, take, get_or, filter, None, sym, ap, ◌∙◌, subst, arith}
use Rattle.std.specs.Prelude.{Contains}
use Rattle.std.specs.List.{AllByRecursion}
use Rattle.std.proofs.lemmas.List.{length-map}
use Rattle.std.proofs.Math.ListN.{get_or-map}
use Rattle.std.proofs.lemmas.List.Elements.{Contains-get_or}
use Rattle.jk_geom.specs.declared.shape.TileShape.{TileShape}
use Rattle.jk_geom.specs.TileShapes.{coding_of}
use Rattle.jk_order.specs.PacketOrder.{IsName, is_of}
use Rattle.jk_packet.specs.declared.shape.BandShape.{BandShape}
use Rattle.jk_packet.proofs.Laws.{some_bit}
use Rattle.jk_walk.specs.TilePackets.{Packet, IsToldPrecinct, of_precinct, bands_at, IsTile}
use Rattle.jk_walk.proofs.Turns.{is_own, its_precinct}

abbrev pub HasBit : Packet → Type 0
HasBit p = 0 < length p.bits

all_at : {X : Type 0} (P : X → Type 0) (d : X) (xs : List X) → ((i : ℕ) → i < length xs → P (get_or xs i d)) → AllByRecursion P xs
all_at P d [] h = tt
all_at P d (x ∷ xs) h = (h 0 (omega arith), all_at P d xs (λ i lt. h (suc i) (omega (arith, lt))))

-- what holds of those that pass a test
of_filtered : {X : Type 0} (P : X → Type 0) (q : X → Bool) (d : X) (xs : List X) (i : ℕ) → AllByRecursion P (filter q xs) → i < length xs → q (get_or xs i d) ≡ true → P (get_or xs i d)
of_filtered P q d [] i all lt own = absurd (omega (arith, lt))
of_filtered {X} P q d (x ∷ xs) zero all lt own = (subst (AllByRecursion P) (ap (λ b. cond b (x ∷ filter q xs) (filter q xs)) own) all).0
of_filtered {X} P q d (x ∷ xs) (suc i) all lt own = of_filtered P q d xs i (by (q x) all) (omega (arith, lt)) own
  where
    by : (b : Bool) → AllByRecursion P (cond b (x ∷ filter q xs) (filter q xs)) → AllByRecursion P (filter q xs)
    by true h = h.1
    by false h = h

abbrev pub no_packet : Packet
no_packet = record { name = record { layer = 0; resolution = 0; component = 0; precinct = 0 }; layer = None; bits = []; bodies = []; text = [] }

told_bits : (shapes : List BandShape) (packets : List Packet) → IsToldPrecinct shapes packets → AllByRecursion HasBit packets
told_bits shapes packets told = all_at HasBit no_packet packets (λ i lt.
    (let bits = map (λ (p : Packet). p.bits) packets in
    let layers = map (λ (p : Packet). p.layer) packets in
    let long : length layers ≡ length packets = length-map packets (λ (p : Packet). p.layer) in
    let here = (told.told.1 i (omega (arith, lt, long))).0 in
    let own : get_or bits i [] ≡ (get_or packets i no_packet).bits = get_or-map (λ (p : Packet). p.bits) packets i no_packet in
    let some = some_bit shapes told.trees (take i layers) (get_or layers i None) in
    subst (λ (xs : List Bool). 0 < length xs) (sym here ∙ own) some))

-- the packets of a tile
name_at : (s : TileShape) (sop eph : Bool) (packets : List Packet) (parts : List (List ℕ)) (i : ℕ) → IsTile s sop eph packets parts → i < length packets → IsName s (get_or packets i no_packet).name
name_at s sop eph packets parts i tile lt =
    let names = map (λ (q : Packet). q.name) packets in
    let long : length names ≡ length packets = length-map packets (λ (q : Packet). q.name) in
    let has : Contains names (get_or names i no_packet.name) = Contains-get_or names i no_packet.name (omega (arith, lt, long)) in
    let own : get_or names i no_packet.name ≡ (get_or packets i no_packet).name = get_or-map (λ (q : Packet). q.name) packets i no_packet in
    (tile.order.members (get_or packets i no_packet).name).0 (subst (Contains names) own has)

pub tile_layers : (s : TileShape) (sop eph : Bool) (packets : List Packet) (parts : List (List ℕ)) → IsTile s sop eph packets parts → AllByRecursion (λ (p : Packet). p.name.layer < s.layers) packets
tile_layers s sop eph packets parts tile = all_at (λ (p : Packet). p.name.layer < s.layers) no_packet packets (λ i lt. (name_at s sop eph packets parts i tile lt).layer)

pub tile_bits : (s : TileShape) (sop eph : Bool) (packets : List Packet) (parts : List (List ℕ)) → IsTile s sop eph packets parts → AllByRecursion HasBit packets
tile_bits s sop eph packets parts tile = all_at HasBit no_packet packets (λ i lt.
    (let m = (get_or packets i no_packet).name in
    let is = name_at s sop eph packets parts i tile lt in
    let told = tile.told m.component m.resolution m.precinct (its_precinct s m is) in
    let all = told_bits (bands_at s.rect (coding_of s.codings m.component) m.resolution m.precinct) (of_precinct m.component m.resolution m.precinct packets) told in
    of_filtered HasBit (λ (q : Packet). is_of m.component m.resolution m.precinct q.name) no_packet packets i all lt (is_own m)))
