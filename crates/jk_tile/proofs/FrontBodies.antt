-- The bodies of the first layers of a precinct, however its packets are read.
use Rattle.std.proofs.Common.{◌≡◌, ℕ, zero, suc, ◌<◌, Bool, true, false, cond, List, [], ◌∷◌, ◌++◌, length, take, filter, refl, sym, ap, ◌∙◌, subst}
use Rattle.std.specs.List.{flat_map, AllZip}
use Rattle.jk_math.specs.Steps.{ok_is}
use Rattle.jk_marks.specs.Siz.{tile_count}
use Rattle.jk_order.specs.PacketOrder.{is_of}
use Rattle.jk_params.specs.Headers.{Headers, AreHeaders}
use Rattle.jk_walk.specs.declared.places.PacketPlace.{PacketPlace}
use Rattle.jk_walk.specs.TilePackets.{Body, Packet, of_precinct}
use Rattle.jk_walk.specs.WalkReading.{bodies_at, IsPlaced, AreTilePackets}
use Rattle.jk_walk.proofs.Laws.{packets_only}

-- the packets of a precinct at their places
placed_of : (bytes : List ℕ) (packets : List Packet) (places : List PacketPlace) (c r n : ℕ) → AllZip (IsPlaced bytes) packets places
    → AllZip (IsPlaced bytes) (of_precinct c r n packets) (filter (λ (w : PacketPlace). is_of c r n w.name) places)
placed_of bytes [] [] c r n h = tt
placed_of bytes [] (w ∷ places) c r n h = absurd h
placed_of bytes (p ∷ packets) [] c r n h = absurd h
placed_of bytes (p ∷ packets) (w ∷ places) c r n h =
    subst (λ b. AllZip (IsPlaced bytes) (of_precinct c r n (p ∷ packets)) (cond b (w ∷ filter (λ (x : PacketPlace). is_of c r n x.name) places) (filter (λ (x : PacketPlace). is_of c r n x.name) places)))
    (ap (is_of c r n) (sym h.0.name)) (by (is_of c r n p.name) (placed_of bytes packets places c r n h.1))
  where
    by : (b : Bool) → AllZip (IsPlaced bytes) (of_precinct c r n packets) (filter (λ (x : PacketPlace). is_of c r n x.name) places)
        → AllZip (IsPlaced bytes) (cond b (p ∷ of_precinct c r n packets) (of_precinct c r n packets)) (cond b (w ∷ filter (λ (x : PacketPlace). is_of c r n x.name) places) (filter (λ (x : PacketPlace). is_of c r n x.name) places))
    by true more = (h.0, more)
    by false more = more

bodies_by : (bytes : List ℕ) (k : ℕ) (packets : List Packet) (places : List PacketPlace) → AllZip (IsPlaced bytes) packets places
    → flat_map (λ (p : Packet). p.bodies) (take k packets) ≡ flat_map (λ (w : PacketPlace). bodies_at bytes w.body w.parts) (take k places)
bodies_by bytes zero packets places h = refl
bodies_by bytes (suc k) [] [] h = refl
bodies_by bytes (suc k) [] (w ∷ places) h = absurd h
bodies_by bytes (suc k) (p ∷ packets) [] h = absurd h
bodies_by bytes (suc k) (p ∷ packets) (w ∷ places) h =
    ap (λ (bs : List Body). bs ++ flat_map (λ (x : Packet). x.bodies) (take k packets)) h.0.bodies ∙ ap (λ (bs : List Body). bodies_at bytes w.body w.parts ++ bs) (bodies_by bytes k packets places h.1)

-- However the packets of a tile are read, those of the first layers of a precinct have the same bodies.
pub one_front : (bytes : List ℕ) (h : Headers) (t k : ℕ) (packets others : List Packet) → AreHeaders (length bytes) h → t < tile_count h.siz → AreTilePackets bytes h t packets → AreTilePackets bytes h t others
    → (c r n : ℕ) → flat_map (λ (p : Packet). p.bodies) (take k (of_precinct c r n packets)) ≡ flat_map (λ (p : Packet). p.bodies) (take k (of_precinct c r n others))
one_front bytes h t k packets others are lt first second c r n =
    let a = packets_only bytes h t packets are lt first in
    let b = packets_only bytes h t others are lt second in
    let same : a.0 ≡ b.0 = ok_is a.0 b.0 (sym a.1 ∙ b.1) in
    let own : List PacketPlace → List PacketPlace = λ ws. filter (λ (w : PacketPlace). is_of c r n w.name) ws in
    bodies_by bytes k (of_precinct c r n packets) (own a.0) (placed_of bytes packets a.0 c r n a.2)
    ∙ ap (λ (ws : List PacketPlace). flat_map (λ (w : PacketPlace). bodies_at bytes w.body w.parts) (take k (own ws))) same
    ∙ sym (bodies_by bytes k (of_precinct c r n others) (own b.0) (placed_of bytes others b.0 c r n b.2))
