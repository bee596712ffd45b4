-- The packets of a tile are read.
use Rattle.std.proofs.Common.{◌≡◌, ℕ, ◌+◌, ◌-◌, ◌<◌, ◌≤◌, Bool, true, false, not, cond, eqb, nat_lt, List, [], ◌∷◌, ◌++◌, length, length-append, get_or, map, take, drop, Result, Ok, None, refl, sym, ap, ◌∙◌, subst, arith, append_assoc}
use Rattle.std.specs.List.{AllByRecursion, AllZip, flat_map}
use Rattle.std.proofs.lemmas.Bool.{cond-true, le-ltb}
use Rattle.std.proofs.lemmas.List.{length_push, get_or_at, take_at, take-append-drop, drop_at, drop-drop, append_cancel_left}
use Rattle.jk_math.specs.Answer.{◌>>=◌, refuse}
use Rattle.jk_math.specs.declared.fault.Fault.{Fault}
use Rattle.jk_math.specs.declared.fault.Fault.TheVariants.{Truncated, SurplusBytes}
use Rattle.jk_marks.specs.Siz.{tile_count}
use Rattle.jk_geom.specs.declared.shape.TileShape.{TileShape}
use Rattle.jk_geom.specs.declared.shape.PacketName.{PacketName}
use Rattle.jk_order.specs.PacketOrder.{IsPrecinct, is_of, order}
use Rattle.jk_order.proofs.Laws.{order_is, order_one}
use Rattle.jk_packet.specs.declared.shape.BandShape.{BandShape}
use Rattle.jk_packet.specs.declared.header.BlockContribution.{BlockContribution}
use Rattle.jk_packet.specs.PacketText.{Layer, Trees, header_bits, IsLayer, IsHeaderText, parts_of}
use Rattle.jk_packet.specs.Reading.{PrecinctState, HeaderText, header_at}
use Rattle.jk_packet.specs.Standing.{PrecinctStands, TellsLayers}
use Rattle.jk_packet.proofs.Laws.{header_some, header_keeps, precinct_only, fresh_stands}
use Rattle.jk_params.specs.Headers.{Headers, tile_in, AreHeaders}
use Rattle.jk_walk.specs.declared.places.PacketPlace.{PacketPlace}
use Rattle.jk_walk.specs.TilePackets.{slice_of, shape_in, Packet, IsPacket, of_precinct, IsToldPrecinct}
use Rattle.jk_walk.specs.WalkReading.{bodies_length, place_end, States, blank_states, with_state, place_of, packet_at, names_at, packets_at, bodies_at, IsPlaced, span_of, AreLaid, AreTilePackets}
use Rattle.jk_walk.proofs.Slices.{slice_join, slice_front, slice_length, body_bytes, body_part, bodies_size, bodies_are}
use Rattle.jk_walk.proofs.Turns.{AreTurns, counts_of, next_counts, order_turns, its_precinct, is_own}
use Rattle.jk_walk.proofs.Runs.{IsCut, AreParts, begun_parts, none_begun, some_begun}
use Rattle.jk_walk.proofs.FoundLaws.{shapes_in, packet_name, packet_layer, packet_bits, own_fact, names_from, names-nil, names-cons, tile_parts}

-- ---- what is told, packet by packet

-- Trees tell packets behind layers.
abbrev pub Goes : List BandShape → Trees → List Layer → List Packet → Type 0
Goes shapes trees layers [] = Unit {0}
Goes shapes trees layers (p ∷ packets) = (p.bits ≡ header_bits shapes trees layers p.layer) × IsLayer shapes trees layers p.layer × Goes shapes trees (layers ++ p.layer ∷ []) packets

goes_on : (shapes : List BandShape) (trees : Trees) (layers : List Layer) (bits : List (List Bool)) (packets : List Packet) → length bits ≡ length layers
    → TellsLayers shapes trees (layers ++ map packet_layer packets) (bits ++ map packet_bits packets) → Goes shapes trees layers packets
goes_on shapes trees layers bits [] long tells = tt
goes_on shapes trees layers bits (p ∷ packets) long tells =
    let n = length layers in
    let all = layers ++ p.layer ∷ map packet_layer packets in
    let here = tells.1 n (let size = length-append layers (p.layer ∷ map packet_layer packets) in omega (arith, size)) in
    let front : take n all ≡ layers = take_at layers (p.layer ∷ map packet_layer packets) n refl in
    let own : get_or all n None ≡ p.layer = get_or_at layers p.layer (map packet_layer packets) None n refl in
    let own_bits : get_or (bits ++ p.bits ∷ map packet_bits packets) n [] ≡ p.bits = get_or_at bits p.bits (map packet_bits packets) [] n long in
    let rest : TellsLayers shapes trees ((layers ++ p.layer ∷ []) ++ map packet_layer packets) ((bits ++ p.bits ∷ []) ++ map packet_bits packets) =
    subst (λ (ls : List Layer). TellsLayers shapes trees ls ((bits ++ p.bits ∷ []) ++ map packet_bits packets)) (sym (append_assoc layers (p.layer ∷ []) (map packet_layer packets)))
    (subst (λ (bs : List (List Bool)). TellsLayers shapes trees all bs) (sym (append_assoc bits (p.bits ∷ []) (map packet_bits packets))) tells) in (
      sym own_bits ∙ here.0 ∙ ap (λ (ls : List Layer). header_bits shapes trees ls (get_or all n None)) front ∙ ap (λ (l : Layer). header_bits shapes trees layers l) own,
      subst (λ (l : Layer). IsLayer shapes trees layers l) own (subst (λ (ls : List Layer). IsLayer shapes trees ls (get_or all n None)) front here.1),
      goes_on shapes trees (layers ++ p.layer ∷ []) (bits ++ p.bits ∷ []) packets (length_push bits p.bits ∙ ap (λ m. m + 1) long ∙ sym (length_push layers p.layer)) rest,
    )

-- A precinct stands where trees tell the packets that follow.
pub record Ahead (shapes : List BandShape) (sop eph : Bool) (packets : List Packet) (x : PrecinctState) : Type 0 where
  pub trees : Trees
  pub layers : List Layer
  pub stands : PrecinctStands shapes trees layers x
  pub goes : Goes shapes trees layers packets
  pub same_sop : x.sop ≡ sop
  pub same_eph : x.eph ≡ eph

-- ---- one packet

-- The packet in hand is read at its place.
pub record PacketAgain (bytes : List ℕ) (shapes : List BandShape) (sop eph : Bool) (p : Packet) (packets : List Packet) (part : ℕ × ℕ) (rest : List ℕ) (x : PrecinctState) : Type 0 where
  pub place : PacketPlace
  pub after : PrecinctState
  pub is : packet_at bytes part p.name x ≡ Ok (place, after)
  pub placed : IsPlaced bytes p place
  pub begins : place.start ≡ part.0
  pub left : (place_end place ≤ part.1) × (part.1 ≤ length bytes)
  pub behind : slice_of bytes (place_end place, part.1) ≡ rest
  pub counted : after.layers ≡ x.layers + 1
  pub ahead : Ahead shapes sop eph packets after

pub packet_ok : (bytes : List ℕ) (part : ℕ × ℕ) (n : PacketName) (x after : PrecinctState) (size : ℕ) (parts : List BlockContribution) → header_at n.layer (slice_of bytes part) x ≡ Ok (record { length = size; parts = parts }, after)
    → part.0 + size + bodies_length parts ≤ part.1 → packet_at bytes part n x ≡ Ok (place_of n part.0 size parts, after)
unfolding packet_at
packet_ok bytes part n x after size parts read fits =
    ap (λ (r : Result (HeaderText × PrecinctState) Fault). r
    >>= λ h. refuse (nat_lt part.1 (place_end (place_of n part.0 h.0.length h.0.parts))) Truncated
    >>= λ _. Ok (place_of n part.0 h.0.length h.0.parts, h.1)) read
    ∙ ap (λ (t : Bool). refuse t Truncated >>= λ _. Ok (place_of n part.0 size parts, after)) (le-ltb part.1 (place_end (place_of n part.0 size parts)) fits)

packet_again : (bytes : List ℕ) (shapes : List BandShape) (sop eph : Bool) (p : Packet) (packets : List Packet) (part : ℕ × ℕ) (rest : List ℕ) (x : PrecinctState)
    → p.name.layer ≡ x.layers → IsPacket sop eph p → Ahead shapes sop eph (p ∷ packets) x → (part.0 ≤ part.1) × (part.1 ≤ length bytes) → slice_of bytes part ≡ p.text ++ rest
    → PacketAgain bytes shapes sop eph p packets part rest x
packet_again bytes shapes sop eph p packets part rest x turn is a in_bytes text =
    let bodies = flat_map body_bytes p.bodies in
    let start = part.0 in
    let front : slice_of bytes part ≡ is.header ++ (bodies ++ rest) = text ∙ ap (λ (xs : List ℕ). xs ++ rest) is.joins ∙ append_assoc is.header bodies rest in
    let header_text : IsHeaderText x.sop x.eph (header_bits shapes a.trees a.layers p.layer) is.header =
    subst (λ (bs : List Bool). IsHeaderText x.sop x.eph bs is.header) a.goes.0
    (subst (λ (v : Bool). IsHeaderText x.sop v p.bits is.header) (sym a.same_eph) (subst (λ (v : Bool). IsHeaderText v eph p.bits is.header) (sym a.same_sop) is.is_header)) in
    let on = precinct_only shapes a.trees a.layers p.layer is.header (bodies ++ rest) (slice_of bytes part) x a.stands a.goes.1 header_text front in
    let size = length is.header in
    let parts = parts_of p.layer in
    let read : header_at p.name.layer (slice_of bytes part) x ≡ Ok (record { length = size; parts = parts }, on.after) = ap (λ m. header_at m (slice_of bytes part) x) (turn ∙ a.stands.read) ∙ on.is in
    let keeps = header_keeps p.name.layer (slice_of bytes part) x (record { length = size; parts = parts }, on.after) read in
    let own : map body_part p.bodies ≡ parts = is.parts in
    let total : length bodies ≡ bodies_length parts = bodies_size p.bodies is.lengths ∙ ap bodies_length own in
    let joined : length p.text ≡ size + length bodies = ap length is.joins ∙ length-append is.header bodies in
    let long = slice_length bytes start part.1 in_bytes.0 in_bytes.1 in
    let both : length (slice_of bytes part) ≡ length p.text + length rest = ap length text ∙ length-append p.text rest in
    let first = in_bytes.0 in
    let last = in_bytes.1 in
    let stop : start + size + bodies_length parts ≡ start + length p.text = omega (arith, total, joined) in
    let fits : start + length p.text ≤ part.1 = omega (arith, long, both, first) in
    let within : start + size + bodies_length parts ≤ part.1 = omega (arith, stop, fits) in
    let place = place_of p.name start size parts in
    let here : slice_of bytes (start, place_end place) ≡ p.text =
    ap (λ m. slice_of bytes (start, m)) stop ∙ sym (slice_front bytes start part.1 (length p.text) fits) ∙ ap (take (length p.text)) text ∙ take_at p.text rest (length p.text) refl in
    let all : drop start bytes ≡ (is.header ++ (bodies ++ rest)) ++ drop (part.1 - start) (drop start bytes) =
    sym (take-append-drop (part.1 - start) (drop start bytes)) ∙ ap (λ (xs : List ℕ). xs ++ drop (part.1 - start) (drop start bytes)) front in
    let beyond = drop (part.1 - start) (drop start bytes) in
    let at_bodies : drop (start + size) bytes ≡ bodies ++ (rest ++ beyond) =
    sym (drop-drop size start bytes) ∙ ap (drop size) (all ∙ append_assoc is.header (bodies ++ rest) beyond) ∙ drop_at is.header ((bodies ++ rest) ++ beyond) size refl ∙ append_assoc bodies rest beyond in
    record {
      place = place;
      after = on.after;
      is = packet_ok bytes part p.name x on.after size parts read within;
      placed = record {
        name = refl;
        size = stop;
        text = here;
        bodies = bodies_are bytes (start + size) p.bodies (rest ++ beyond) is.lengths at_bodies ∙ ap (λ (ps : List BlockContribution). bodies_at bytes (start + size) ps) own;
      };
      begins = refl;
      left = (within, last);
      behind =
          append_cancel_left p.text (slice_of bytes (place_end place, part.1)) rest
          (ap (λ (xs : List ℕ). xs ++ slice_of bytes (place_end place, part.1)) (sym here) ∙ sym (slice_join bytes start (place_end place) part.1 (omega arith) within) ∙ text);
      counted = keeps.layers;
      ahead = record {
        trees = a.trees;
        layers = a.layers ++ p.layer ∷ [];
        stands = on.stands;
        goes = a.goes.2;
        same_sop = keeps.sop ∙ a.same_sop;
        same_eph = keeps.eph ∙ a.same_eph;
      };
    }

-- ---- all packets

-- Packets are read at their places.
pub record Again (bytes : List ℕ) (packets : List Packet) (states : States) (parts : List (ℕ × ℕ)) : Type 0 where
  pub places : List PacketPlace
  pub is : names_at bytes (map packet_name packets) states parts ≡ Ok places
  pub placed : AllZip (IsPlaced bytes) packets places
  pub laid : AreLaid (map span_of places) parts

-- what is ahead of each precinct
abbrev AllAhead : TileShape → (sop eph : Bool) → List Packet → States → Type 0
AllAhead s sop eph packets states = (c r k : ℕ) → IsPrecinct s c r k → Ahead (shapes_in s c r k) sop eph (of_precinct c r k packets) (states c r k)

ahead_more : (s : TileShape) (sop eph : Bool) (p : Packet) (packets : List Packet) (states : States) (x : PrecinctState) → AllAhead s sop eph (p ∷ packets) states
    → Ahead (shapes_in s p.name.component p.name.resolution p.name.precinct) sop eph (of_precinct p.name.component p.name.resolution p.name.precinct packets) x → AllAhead s sop eph packets (with_state states p.name x)
ahead_more s sop eph p packets states x all own c r k is = by (is_of c r k p.name) refl (all c r k is)
  where
    by : (t : Bool) → is_of c r k p.name ≡ t → Ahead (shapes_in s c r k) sop eph (cond t (p ∷ of_precinct c r k packets) (of_precinct c r k packets)) (states c r k)
        → Ahead (shapes_in s c r k) sop eph (of_precinct c r k packets) (cond t x (states c r k))
    by true e old = own_fact (λ c r k. Ahead (shapes_in s c r k) sop eph (of_precinct c r k packets) x) c r k p.name e own
    by false e old = old

text_some : (shapes : List BandShape) (sop eph : Bool) (p : Packet) (packets : List Packet) (x : PrecinctState) → IsPacket sop eph p → Ahead shapes sop eph (p ∷ packets) x → 0 < length p.text
text_some shapes sop eph p packets x is a =
    let byte = header_some sop eph shapes a.trees a.layers p.layer is.header (subst (λ (bs : List Bool). IsHeaderText sop eph bs is.header) a.goes.0 is.is_header) in
    let joined : length p.text ≡ length is.header + length (flat_map body_bytes p.bodies) = ap length is.joins ∙ length-append is.header (flat_map body_bytes p.bodies) in
    omega (arith, byte, joined)

names_only : (bytes : List ℕ) (s : TileShape) (sop eph : Bool) (packets : List Packet) (states : States) (parts : List (ℕ × ℕ)) → AreTurns s (counts_of states) (map packet_name packets) → AllByRecursion (IsPacket sop eph) packets
    → AllAhead s sop eph packets states → AreParts (length bytes) parts → IsCut bytes packets parts → Again bytes packets states parts
names_only bytes s sop eph [] states parts turns texts all in_bytes cut =
    let none = none_begun bytes parts in_bytes cut in
    record {
      places = [];
      is = names-nil bytes states parts ∙ ap (λ (ps : List (ℕ × ℕ)). refuse (not (eqb (length ps) 0)) SurplusBytes >>= λ _. Ok []) none;
      placed = tt;
      laid = none;
    }
names_only bytes s sop eph (p ∷ packets) states parts turns texts all in_bytes cut =
    let n = p.name in
    let x = states n.component n.resolution n.precinct in
    let shapes = shapes_in s n.component n.resolution n.precinct in
    let mine = of_precinct n.component n.resolution n.precinct packets in
    let a : Ahead shapes sop eph (p ∷ mine) x =
    subst (λ (ps : List Packet). Ahead shapes sop eph ps x) (cond-true (is_of n.component n.resolution n.precinct n) (p ∷ mine) mine (is_own n))
    (all n.component n.resolution n.precinct (its_precinct s n turns.0)) in
    let some = text_some shapes sop eph p mine x texts.0 a in
    let hand = some_begun bytes p packets parts some in_bytes cut in
    let left = subst (AreParts (length bytes)) hand.begins (begun_parts (length bytes) parts in_bytes) in
    let one = packet_again bytes shapes sop eph p mine hand.part hand.rest x turns.1 texts.0 a left.0 hand.text in
    let states' = with_state states n one.after in
    let more = names_only bytes s sop eph packets states' ((place_end one.place, hand.part.1) ∷ hand.later) (next_counts s states n (map packet_name packets) one.after one.counted turns.2) texts.1
    (ahead_more s sop eph p packets states one.after all one.ahead) (one.left, left.1) (hand.cut (place_end one.place) one.behind) in
    record {
      places = one.place ∷ more.places;
      is =
          names-cons bytes n (map packet_name packets) states parts
          ∙ ap (names_from bytes n (map packet_name packets) states) hand.begins
          ∙ ap (λ (r : Result (PacketPlace × PrecinctState) Fault). r
          >>= λ o. names_at bytes (map packet_name packets) (with_state states n o.1) ((place_end o.0, hand.part.1) ∷ hand.later)
          >>= λ ws. Ok (o.0 ∷ ws)) one.is
          ∙ ap (λ (r : Result (List PacketPlace) Fault). r >>= λ ws. Ok (one.place ∷ ws)) more.is;
      placed = (one.placed, more.placed);
      laid = (hand.part, hand.later, hand.begins, one.begins, (let size = one.placed.size in omega (arith, size, some)), one.left.0, more.laid);
    }

-- ---- a tile

told_ahead : (shapes : List BandShape) (sop eph : Bool) (packets : List Packet) (x : PrecinctState) → (told : IsToldPrecinct shapes packets) → PrecinctStands shapes told.trees [] x → x.sop ≡ sop → x.eph ≡ eph → Ahead shapes sop eph packets x
told_ahead shapes sop eph packets x told stands a b = record { trees = told.trees; layers = []; stands = stands; goes = goes_on shapes told.trees [] [] packets refl told.told; same_sop = a; same_eph = b }

-- The packets of a tile are read, each at its place, one after another in its parts.
pub packets_laid : (bytes : List ℕ) (h : Headers) (t : ℕ) (packets : List Packet) → AreHeaders (length bytes) h → t < tile_count h.siz → AreTilePackets bytes h t packets
    → (places : List PacketPlace) × (packets_at bytes h t ≡ Ok places) × AllZip (IsPlaced bytes) packets places × AreLaid (map span_of places) (tile_in h.tiles t).data_places
unfolding packets_at
packets_laid bytes h t packets are less tile =
    let f = tile_in h.tiles t in
    let s = shape_in h.siz f t in
    let named : map packet_name packets ≡ order s = order_one s (map packet_name packets) (order s) tile.order (order_is s) in
    let again = names_only bytes s f.cod.sop f.cod.eph packets (blank_states s f.cod.sop f.cod.eph) f.data_places
    (subst (AreTurns s (counts_of (blank_states s f.cod.sop f.cod.eph))) (sym named) (order_turns s)) tile.texts
    (λ c r k is. let told = tile.told c r k is in
    told_ahead (shapes_in s c r k) f.cod.sop f.cod.eph (of_precinct c r k packets) (blank_states s f.cod.sop f.cod.eph c r k) told
    (fresh_stands (shapes_in s c r k) f.cod.sop f.cod.eph told.trees told.are) refl refl)
    (tile_parts bytes h t are less) record { runs = tile.runs; whole = tile.whole; cut = tile.cut } in
    (again.places, ap (λ (names : List PacketName). names_at bytes names (blank_states s f.cod.sop f.cod.eph) f.data_places) (sym named) ∙ again.is, again.placed, again.laid)

-- the places alone
pub packets_only : (bytes : List ℕ) (h : Headers) (t : ℕ) (packets : List Packet) → AreHeaders (length bytes) h → t < tile_count h.siz → AreTilePackets bytes h t packets
    → (places : List PacketPlace) × (packets_at bytes h t ≡ Ok places) × AllZip (IsPlaced bytes) packets places
packets_only bytes h t packets are less tile = let all = packets_laid bytes h t packets are less tile in (all.0, all.1, all.2)
