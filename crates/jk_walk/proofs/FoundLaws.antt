-- What is read of a tile are its packets.
use Rattle.std.proofs.Common.{◌≡◌, ℕ, ◌+◌, ◌<◌, ◌≤◌, Bool, true, false, not, cond, eqb, nat_lt, List, [], ◌∷◌, ◌++◌, length, map, take, drop, Result, Ok, refl, sym, ap, ◌∙◌, subst, arith, append_assoc}
use Rattle.std.specs.List.{AllByRecursion, AllZip}
use Rattle.std.proofs.lemmas.Bool.{eqb-true, not-false, ltb-false}
use Rattle.std.proofs.lemmas.List.{nil_from_length}
use Rattle.jk_math.specs.Answer.{◌>>=◌, refuse}
use Rattle.jk_math.specs.Steps.{bind_then, refuse_then, ok_is}
use Rattle.jk_math.specs.declared.fault.Fault.{Fault}
use Rattle.jk_math.specs.declared.fault.Fault.TheVariants.{Truncated, SurplusBytes}
use Rattle.jk_marks.specs.Siz.{tile_count}
use Rattle.jk_geom.specs.declared.shape.TileShape.{TileShape}
use Rattle.jk_geom.specs.declared.shape.PacketName.{PacketName}
use Rattle.jk_geom.specs.TileShapes.{coding_of}
use Rattle.jk_order.specs.PacketOrder.{IsName, IsPacketOrder, is_of, order}
use Rattle.jk_order.proofs.Laws.{order_is}
use Rattle.jk_packet.specs.declared.shape.BandShape.{BandShape}
use Rattle.jk_packet.specs.PacketText.{Layer, IsHeaderText}
use Rattle.jk_packet.specs.Gathering.{IsOfBlock}
use Rattle.jk_packet.specs.Reading.{PrecinctState, HeaderText, header_at}
use Rattle.jk_packet.specs.Standing.{PrecinctReached, ReadsLayer}
use Rattle.jk_packet.proofs.Laws.{reached_read, header_keeps, precinct_found, tells_last, parts_within, fresh_reached}
use Rattle.jk_params.specs.Headers.{Headers, tile_in, AreHeaders}
use Rattle.jk_walk.specs.declared.places.PacketPlace.{PacketPlace}
use Rattle.jk_walk.specs.TilePackets.{slice_of, shape_in, Packet, IsPacket, bands_at, of_precinct}
use Rattle.jk_walk.specs.WalkReading.{bodies_length, place_end, States, blank_states, with_state, begun, in_hand, place_of, packet_at, names_at, packets_at, bodies_at, IsPlaced, StandAt, IsPacketPlace, ArePlaces}
use Rattle.jk_walk.proofs.Slices.{slice_join, slice_front, slice_length, bodies_parts, bodies_long, bodies_join}
use Rattle.jk_walk.proofs.Turns.{AreTurns, counts_of, next_counts, order_turns, at_own}
use Rattle.jk_walk.proofs.Runs.{IsCut, IsPart, AreParts, begun_parts, cut_none, cut_begun, cut_more}

-- the sub-bands of the precincts of a tile
abbrev pub shapes_in : TileShape → ℕ → ℕ → ℕ → List BandShape
shapes_in s = λ c r k. bands_at s.rect (coding_of s.codings c) r k

abbrev pub packet_name : Packet → PacketName
packet_name p = p.name

abbrev pub packet_layer : Packet → Layer
packet_layer p = p.layer

abbrev pub packet_bits : Packet → List Bool
packet_bits p = p.bits

-- A precinct of a tile has read these layers.
pub record Knows (shapes : List BandShape) (sop eph : Bool) (layers : List Layer) (bits : List (List Bool)) (x : PrecinctState) : Type 0 where
  pub reached : PrecinctReached shapes layers bits x
  pub same_sop : x.sop ≡ sop
  pub same_eph : x.eph ≡ eph

-- ---- one packet

-- The packet that was read from the front of what is left of a part.
pub record PacketFound (bytes : List ℕ) (s : TileShape) (sop eph : Bool) (part : ℕ × ℕ) (n : PacketName) (layers : List Layer) (bits : List (List Bool)) (before : PrecinctState) (w : PacketPlace) (after : PrecinctState) : Type 0 where
  pub packet : Packet
  pub name : packet.name ≡ n
  pub is : IsPacket sop eph packet
  pub placed : IsPlaced bytes packet w
  pub place : IsPacketPlace (length bytes) s w
  pub left : IsPart (length bytes) (place_end w, part.1)
  pub text : slice_of bytes part ≡ packet.text ++ slice_of bytes (place_end w, part.1)
  pub knows : Knows (shapes_in s n.component n.resolution n.precinct) sop eph (layers ++ packet.layer ∷ []) (bits ++ packet.bits ∷ []) after
  pub counted : after.layers ≡ before.layers + 1

header_text : (sop eph : Bool) (x : PrecinctState) (bits : List Bool) (text : List ℕ) → x.sop ≡ sop → x.eph ≡ eph → IsHeaderText x.sop x.eph bits text → IsHeaderText sop eph bits text
header_text sop eph x bits text a b is = subst (λ (v : Bool). IsHeaderText sop v bits text) b (subst (λ (v : Bool). IsHeaderText v x.eph bits text) a is)

-- the packet of a header that was read, whose bodies end in the part
packet_of : (bytes : List ℕ) (s : TileShape) (sop eph : Bool) (part : ℕ × ℕ) (n : PacketName) (layers : List Layer) (bits : List (List Bool)) (x : PrecinctState) (o : HeaderText × PrecinctState)
    → IsName s n → IsPart (length bytes) part → Knows (shapes_in s n.component n.resolution n.precinct) sop eph layers bits x → header_at n.layer (slice_of bytes part) x ≡ Ok o
    → ReadsLayer (shapes_in s n.component n.resolution n.precinct) layers bits x o.1 (slice_of bytes part) o.0 → part.0 + o.0.length + bodies_length o.0.parts ≤ part.1
    → PacketFound bytes s sop eph part n layers bits x (place_of n part.0 o.0.length o.0.parts) o.1
packet_of bytes s sop eph part n layers bits x o name in_bytes knows h l fits =
    let shapes = shapes_in s n.component n.resolution n.precinct in
    let start = part.0 in
    let body = start + o.0.length in
    let stop = body + bodies_length o.0.parts in
    let within : stop ≤ length bytes = (let last = in_bytes.1 in omega (arith, last, fits)) in
    let header = slice_of bytes (start, body) in
    let front : take o.0.length (slice_of bytes part) ≡ header = slice_front bytes start part.1 o.0.length (omega (arith, fits)) in
    let keeps = header_keeps n.layer (slice_of bytes part) x o h in
    let some = l.reached.some in
    let last = tells_last shapes some.0 layers bits l.layer l.header_bits some.2 in
    record {
      packet = record { name = n; layer = l.layer; bits = l.header_bits; bodies = bodies_at bytes body o.0.parts; text = slice_of bytes (start, stop) };
      name = refl;
      is = record {
        header = header;
        is_header = subst (λ (t : List ℕ). IsHeaderText sop eph l.header_bits t) front (header_text sop eph x l.header_bits (take o.0.length (slice_of bytes part)) knows.same_sop knows.same_eph l.text);
        parts = bodies_parts bytes body o.0.parts ∙ l.parts;
        lengths = bodies_long bytes body o.0.parts within;
        joins = slice_join bytes start body stop (omega arith) (omega arith) ∙ ap (λ (xs : List ℕ). header ++ xs) (sym (bodies_join bytes body o.0.parts));
      };
      placed = record {
        name = refl;
        size = (let long = slice_length bytes start stop (omega arith) within in omega (arith, long));
        text = refl;
        bodies = refl;
      };
      place = record {
        name = name;
        order = omega arith;
        within = within;
        parts = subst (AllByRecursion (IsOfBlock shapes)) (sym l.parts) (parts_within shapes some.0 layers l.layer last.last);
      };
      left = (fits, in_bytes.1);
      text = slice_join bytes start stop part.1 (omega arith) fits;
      knows = record { reached = l.reached; same_sop = keeps.sop ∙ knows.same_sop; same_eph = keeps.eph ∙ knows.same_eph };
      counted = keeps.layers;
    }

packet_found : (bytes : List ℕ) (s : TileShape) (sop eph : Bool) (part : ℕ × ℕ) (n : PacketName) (layers : List Layer) (bits : List (List Bool)) (x : PrecinctState) (o : PacketPlace × PrecinctState)
    → IsName s n → n.layer ≡ x.layers → IsPart (length bytes) part → Knows (shapes_in s n.component n.resolution n.precinct) sop eph layers bits x → packet_at bytes part n x ≡ Ok o
    → PacketFound bytes s sop eph part n layers bits x o.0 o.1
unfolding packet_at
packet_found bytes s sop eph part n layers bits x o name turn in_bytes knows e =
    bind_then (header_at n.layer (slice_of bytes part) x) _ o e (λ h read k.
    refuse_then (nat_lt part.1 (place_end (place_of n part.0 h.0.length h.0.parts))) Truncated _ o k (λ fits f.
    let l = precinct_found (shapes_in s n.component n.resolution n.precinct) layers bits x (slice_of bytes part) h knows.reached
    (ap (λ m. header_at m (slice_of bytes part) x) (sym (turn ∙ (reached_read (shapes_in s n.component n.resolution n.precinct) layers bits x knows.reached).count)) ∙ read) in
    let made = packet_of bytes s sop eph part n layers bits x h name in_bytes knows read l (ltb-false part.1 (place_end (place_of n part.0 h.0.length h.0.parts)) fits) in
    subst (λ (q : PacketPlace × PrecinctState). PacketFound bytes s sop eph part n layers bits x q.0 q.1) (ok_is (place_of n part.0 h.0.length h.0.parts, h.1) o f) made
    ))

-- ---- all packets

abbrev pub Layers : Type 0
Layers = ℕ → ℕ → ℕ → List Layer

abbrev pub Bits : Type 0
Bits = ℕ → ℕ → ℕ → List (List Bool)

-- The packets of these names, from what the precincts have read before, and what is left of the parts.
pub record Found (bytes : List ℕ) (s : TileShape) (sop eph : Bool) (layers : Layers) (bits : Bits) (names : List PacketName) (parts : List (ℕ × ℕ)) (places : List PacketPlace) : Type 0 where
  pub packets : List Packet
  pub named : map packet_name packets ≡ names
  pub texts : AllByRecursion (IsPacket sop eph) packets
  pub placed : AllZip (IsPlaced bytes) packets places
  pub are : ArePlaces (length bytes) s places
  pub cut : IsCut bytes packets parts
  pub known : (c r k : ℕ) → (x : PrecinctState)
      × PrecinctReached (shapes_in s c r k) (layers c r k ++ map packet_layer (of_precinct c r k packets)) (bits c r k ++ map packet_bits (of_precinct c r k packets)) x

-- one more of the precinct of a packet
abbrev pub pushed : {A : Type 0} → (ℕ → ℕ → ℕ → List A) → PacketName → A → ℕ → ℕ → ℕ → List A
pushed f n y = λ c r k. cond (is_of c r k n) (f c r k ++ y ∷ []) (f c r k)

-- a fact of the precinct of a packet, at the numbers of that precinct
pub own_fact : (P : ℕ → ℕ → ℕ → Type 0) (c r k : ℕ) (n : PacketName) → is_of c r k n ≡ true → P n.component n.resolution n.precinct → P c r k
own_fact P c r k n e h = subst (λ (q : ℕ × ℕ × ℕ). P q.0 q.1 q.2) (at_own {A = ℕ × ℕ × ℕ} (λ c r k. (c, r, k)) c r k n e) h

-- what the precincts know after a packet
knows_more : (s : TileShape) (sop eph : Bool) (layers : Layers) (bits : Bits) (states : States) (n : PacketName) (l : Layer) (b : List Bool) (x : PrecinctState)
    → ((c r k : ℕ) → Knows (shapes_in s c r k) sop eph (layers c r k) (bits c r k) (states c r k))
    → Knows (shapes_in s n.component n.resolution n.precinct) sop eph (layers n.component n.resolution n.precinct ++ l ∷ []) (bits n.component n.resolution n.precinct ++ b ∷ []) x
    → (c r k : ℕ) → Knows (shapes_in s c r k) sop eph (pushed layers n l c r k) (pushed bits n b c r k) (with_state states n x c r k)
knows_more s sop eph layers bits states n l b x all own c r k = by (is_of c r k n) refl
  where
    by : (t : Bool) → is_of c r k n ≡ t → Knows (shapes_in s c r k) sop eph (cond t (layers c r k ++ l ∷ []) (layers c r k)) (cond t (bits c r k ++ b ∷ []) (bits c r k)) (cond t x (states c r k))
    by true e = own_fact (λ c r k. Knows (shapes_in s c r k) sop eph (layers c r k ++ l ∷ []) (bits c r k ++ b ∷ []) x) c r k n e own
    by false e = all c r k

-- the packets of a precinct, the first first
pub of_first : (c r k : ℕ) (p : Packet) (packets : List Packet) (n : PacketName) → p.name ≡ n → of_precinct c r k (p ∷ packets) ≡ cond (is_of c r k n) (p ∷ of_precinct c r k packets) (of_precinct c r k packets)
of_first c r k p packets n e = ap (λ (m : PacketName). cond (is_of c r k m) (p ∷ of_precinct c r k packets) (of_precinct c r k packets)) e

pushed_first : {A : Type 0} (f : ℕ → ℕ → ℕ → List A) (g : Packet → A) (c r k : ℕ) (n : PacketName) (p : Packet) (packets : List Packet) → p.name ≡ n
    → pushed f n (g p) c r k ++ map g (of_precinct c r k packets) ≡ f c r k ++ map g (of_precinct c r k (p ∷ packets))
pushed_first {A} f g c r k n p packets e = by (is_of c r k n) ∙ ap (λ (ps : List Packet). f c r k ++ map g ps) (sym (of_first c r k p packets n e))
  where
    by : (t : Bool) → cond t (f c r k ++ g p ∷ []) (f c r k) ++ map g (of_precinct c r k packets) ≡ f c r k ++ map g (cond t (p ∷ of_precinct c r k packets) (of_precinct c r k packets))
    by true = append_assoc (f c r k) (g p ∷ []) (map g (of_precinct c r k packets))
    by false = refl

-- a packet in front of those that follow
one_found : (bytes : List ℕ) (s : TileShape) (sop eph : Bool) (layers : Layers) (bits : Bits) (n : PacketName) (names : List PacketName) (part : ℕ × ℕ) (later : List (ℕ × ℕ)) (w : PacketPlace) (places : List PacketPlace) (before after : PrecinctState)
    → (f : PacketFound bytes s sop eph part n (layers n.component n.resolution n.precinct) (bits n.component n.resolution n.precinct) before w after)
    → Found bytes s sop eph (pushed layers n f.packet.layer) (pushed bits n f.packet.bits) names ((place_end w, part.1) ∷ later) places
    → Found bytes s sop eph layers bits (n ∷ names) (part ∷ later) (w ∷ places)
one_found bytes s sop eph layers bits n names part later w places before after f more =
    let p = f.packet in
    record {
      packets = p ∷ more.packets;
      named = ap (λ (m : PacketName). m ∷ map packet_name more.packets) f.name ∙ ap (λ (ms : List PacketName). n ∷ ms) more.named;
      texts = (f.is, more.texts);
      placed = (f.placed, more.placed);
      are = (f.place, more.are);
      cut = cut_more bytes p more.packets part.0 (place_end w) part.1 later f.text more.cut;
      known = λ c r k.
          let before = more.known c r k in (
            before.0,
            subst (λ (ls : List Layer). PrecinctReached (shapes_in s c r k) ls (bits c r k ++ map packet_bits (of_precinct c r k (p ∷ more.packets))) before.0)
                (pushed_first layers packet_layer c r k n p more.packets f.name)
                (subst (λ (bs : List (List Bool)). PrecinctReached (shapes_in s c r k) (pushed layers n p.layer c r k ++ map packet_layer (of_precinct c r k more.packets)) bs before.0)
                (pushed_first bits packet_bits c r k n p more.packets f.name) before.1),
          );
    }

-- the packets of a first name and others, where what is left of the parts is begun
abbrev pub names_from : List ℕ → PacketName → List PacketName → States → List (ℕ × ℕ) → Result (List PacketPlace) Fault
names_from bytes n names states left =
    in_hand left
    >>= λ p. packet_at bytes p n (states n.component n.resolution n.precinct)
    >>= λ o. names_at bytes names (with_state states n o.1) ((place_end o.0, p.1) ∷ drop 1 left)
    >>= λ more. Ok (o.0 ∷ more)

pub names-nil : (bytes : List ℕ) (states : States) (parts : List (ℕ × ℕ)) → names_at bytes [] states parts ≡ (refuse (not (eqb (length (begun parts)) 0)) SurplusBytes >>= λ _. Ok [])
unfolding names_at
names-nil bytes states parts = refl

pub names-cons : (bytes : List ℕ) (n : PacketName) (names : List PacketName) (states : States) (parts : List (ℕ × ℕ)) → names_at bytes (n ∷ names) states parts ≡ names_from bytes n names states (begun parts)
unfolding names_at
names-cons bytes n names states parts = refl

names_found : (bytes : List ℕ) (s : TileShape) (sop eph : Bool) (layers : Layers) (bits : Bits) (names : List PacketName) (states : States) (parts : List (ℕ × ℕ)) (places : List PacketPlace)
    → AreTurns s (counts_of states) names → ((c r k : ℕ) → Knows (shapes_in s c r k) sop eph (layers c r k) (bits c r k) (states c r k)) → AreParts (length bytes) parts
    → names_at bytes names states parts ≡ Ok places → Found bytes s sop eph layers bits names parts places
names_found bytes s sop eph layers bits [] states parts places turns knows all e =
    refuse_then (not (eqb (length (begun parts)) 0)) SurplusBytes _ places (sym (names-nil bytes states parts) ∙ e) (λ test f.
    let none : begun parts ≡ [] = nil_from_length (begun parts) (eqb-true (length (begun parts)) 0 (not-false (eqb (length (begun parts)) 0) test)) in
    let empty : [] ≡ places = ok_is [] places f in
    subst (Found bytes s sop eph layers bits [] parts) empty record {
      packets = [];
      named = refl;
      texts = tt;
      placed = tt;
      are = tt;
      cut = cut_none bytes parts none;
      known = λ c r k. (
        states c r k,
        subst (λ (ls : List Layer). PrecinctReached (shapes_in s c r k) ls (bits c r k ++ []) (states c r k)) (sym (none_more (layers c r k)))
            (subst (λ (bs : List (List Bool)). PrecinctReached (shapes_in s c r k) (layers c r k) bs (states c r k)) (sym (none_more (bits c r k))) (knows c r k).reached),
      );
    })
  where
    none_more : {A : Type 0} (xs : List A) → xs ++ [] ≡ xs
    none_more [] = refl
    none_more {A} (x ∷ xs) = ap (λ (ys : List A). x ∷ ys) (none_more xs)
names_found bytes s sop eph layers bits (n ∷ names) states parts places turns knows all e =
    let c = by (λ ls bs x left more. names_found bytes s sop eph ls bs names (with_state states n x) left more) (begun parts) (begun_parts (length bytes) parts all) (sym (names-cons bytes n names states parts) ∙ e) in
    record { packets = c.packets; named = c.named; texts = c.texts; placed = c.placed; are = c.are; cut = cut_begun bytes c.packets parts c.cut; known = c.known }
  where
    by : ((ls : Layers) (bs : Bits) (x : PrecinctState) (left : List (ℕ × ℕ)) (more : List PacketPlace) → AreTurns s (counts_of (with_state states n x)) names
        → ((c r k : ℕ) → Knows (shapes_in s c r k) sop eph (ls c r k) (bs c r k) (with_state states n x c r k)) → AreParts (length bytes) left
        → names_at bytes names (with_state states n x) left ≡ Ok more → Found bytes s sop eph ls bs names left more)
        → (left : List (ℕ × ℕ)) → AreParts (length bytes) left → names_from bytes n names states left ≡ Ok places → Found bytes s sop eph layers bits (n ∷ names) left places
    by others [] in_bytes h = absurd cc
    by others (part ∷ later) in_bytes h =
        bind_then (packet_at bytes part n (states n.component n.resolution n.precinct)) _ places h (λ o read k.
        bind_then (names_at bytes names (with_state states n o.1) ((place_end o.0, part.1) ∷ later)) _ places k (λ more rest f.
        let found = packet_found bytes s sop eph part n (layers n.component n.resolution n.precinct) (bits n.component n.resolution n.precinct) (states n.component n.resolution n.precinct) o
        turns.0 turns.1 in_bytes.0 (knows n.component n.resolution n.precinct) read in
        let after = others (pushed layers n found.packet.layer) (pushed bits n found.packet.bits) o.1 ((place_end o.0, part.1) ∷ later) more
        (next_counts s states n names o.1 found.counted turns.2)
        (knows_more s sop eph layers bits states n found.packet.layer found.packet.bits o.1 knows found.knows) (found.left, in_bytes.1) rest in
        subst (Found bytes s sop eph layers bits (n ∷ names) (part ∷ later)) (ok_is (o.0 ∷ more) places f)
        (one_found bytes s sop eph layers bits n names part later o.0 more (states n.component n.resolution n.precinct) o.1 found after)
        ))

-- ---- a tile

-- where the data of a tile stand
pub tile_parts : (bytes : List ℕ) (h : Headers) (t : ℕ) → AreHeaders (length bytes) h → t < tile_count h.siz → AreParts (length bytes) (tile_in h.tiles t).data_places
tile_parts bytes h t are less = (are.each t less).places

-- nothing was read
knows_nothing : (s : TileShape) (sop eph : Bool) (c r k : ℕ) → Knows (shapes_in s c r k) sop eph [] [] (blank_states s sop eph c r k)
knows_nothing s sop eph c r k = record { reached = fresh_reached (shapes_in s c r k) sop eph; same_sop = refl; same_eph = refl }

tile_found : (bytes : List ℕ) (h : Headers) (t : ℕ) (places : List PacketPlace) → AreHeaders (length bytes) h → t < tile_count h.siz → packets_at bytes h t ≡ Ok places
    → Found bytes (shape_in h.siz (tile_in h.tiles t) t) (tile_in h.tiles t).cod.sop (tile_in h.tiles t).cod.eph (λ _ _ _. []) (λ _ _ _. []) (order (shape_in h.siz (tile_in h.tiles t) t)) (tile_in h.tiles t).data_places places
unfolding packets_at
tile_found bytes h t places are less e =
    let f = tile_in h.tiles t in
    let s = shape_in h.siz f t in
    names_found bytes s f.cod.sop f.cod.eph (λ _ _ _. []) (λ _ _ _. []) (order s) (blank_states s f.cod.sop f.cod.eph) f.data_places places (order_turns s) (knows_nothing s f.cod.sop f.cod.eph) (tile_parts bytes h t are less) e

-- What is read of a tile are its packets, at their places.
pub packets_found : (bytes : List ℕ) (h : Headers) (t : ℕ) (places : List PacketPlace) → AreHeaders (length bytes) h → t < tile_count h.siz → packets_at bytes h t ≡ Ok places → StandAt bytes h t places
packets_found bytes h t places are less e =
    let found = tile_found bytes h t places are less e in
    let s = shape_in h.siz (tile_in h.tiles t) t in (
      found.packets,
      record {
        order = subst (IsPacketOrder s) (sym found.named) (order_is s);
        texts = found.texts;
        told = λ c r k is. let some = (found.known c r k).1.some in record { trees = some.0; are = some.1; told = some.2 };
        runs = found.cut.runs;
        whole = found.cut.whole;
        cut = found.cut.cut;
      },
      found.placed,
    )

-- The places are of packets of the tile, and lie in the bytes.
pub packets_within : (bytes : List ℕ) (h : Headers) (t : ℕ) (places : List PacketPlace) → AreHeaders (length bytes) h → t < tile_count h.siz → packets_at bytes h t ≡ Ok places
    → ArePlaces (length bytes) (shape_in h.siz (tile_in h.tiles t) t) places
packets_within bytes h t places are less e = (tile_found bytes h t places are less e).are
