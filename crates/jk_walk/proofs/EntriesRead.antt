-- The entries of a tile are those of its packets.
use Rattle.std.proofs.Common.{◌≡◌, ℕ, ◌<◌, Bool, List, [], ◌∷◌, length, map, Result, Ok, ap, sym, ◌∙◌, subst, arith}
use Rattle.std.specs.List.{AllByRecursion, AllZip, flat_map}
use Rattle.std.proofs.lemmas.List.{length-map}
use Rattle.jk_math.specs.Steps.{bind_then, ok_is}
use Rattle.jk_math.specs.declared.fault.Fault.{Fault}
use Rattle.jk_marks.specs.Siz.{tile_count}
use Rattle.jk_geom.specs.declared.shape.TileShape.{TileShape}
use Rattle.jk_params.specs.Headers.{Headers, tile_in, AreHeaders}
use Rattle.jk_walk.specs.declared.places.PacketPlace.{PacketPlace}
use Rattle.jk_walk.specs.declared.entries.PacketEntry.{PacketEntry}
use Rattle.jk_walk.specs.TilePackets.{slice_of, shape_in, Packet, IsPacket}
use Rattle.jk_walk.specs.WalkReading.{packets_at, each_of, IsPlaced, ArePlaces, AreTilePackets}
use Rattle.jk_walk.specs.Sop.{counter_of, sop_written}
use Rattle.jk_walk.specs.Entries.{packet_entry, entries_at, IsEntry, AreEntries, IsEntered, EnterAt, AreEnteredAt}
use Rattle.jk_walk.proofs.FoundLaws.{packets_found, packets_within}
use Rattle.jk_walk.proofs.OnlyLaws.{packets_only}
use Rattle.jk_walk.proofs.Slices.{bodies_join}
use Rattle.jk_walk.proofs.BitLaws.{HasBit, tile_bits}
use Rattle.jk_walk.proofs.SopLaws.{sop_is_written}
use Rattle.jk_walk.proofs.EntryLaws.{places_count}

-- ---- what is read

pub entries_read : (bytes : List ℕ) (h : Headers) (t : ℕ) (entries : List PacketEntry) → entries_at bytes h t ≡ Ok entries
    → (places : List PacketPlace) × (packets_at bytes h t ≡ Ok places) × (map (packet_entry bytes (tile_in h.tiles t).cod.sop) places ≡ entries)
unfolding entries_at
entries_read bytes h t entries e =
    let f = packet_entry bytes (tile_in h.tiles t).cod.sop in
    bind_then (packets_at bytes h t) _ entries e (λ places read k. (places, read, ok_is (map f places) entries k))

entries_ok : (bytes : List ℕ) (h : Headers) (t : ℕ) (places : List PacketPlace) → packets_at bytes h t ≡ Ok places → entries_at bytes h t ≡ Ok (map (packet_entry bytes (tile_in h.tiles t).cod.sop) places)
unfolding entries_at
entries_ok bytes h t places read = ap (λ (r : Result (List PacketPlace) Fault). each_of (packet_entry bytes (tile_in h.tiles t).cod.sop) r) read

-- ---- within the bytes

places_within : (bytes : List ℕ) (size : ℕ) (sop : Bool) (s : TileShape) (places : List PacketPlace) → ArePlaces size s places → AllByRecursion (IsEntry size) (map (packet_entry bytes sop) places)
places_within bytes size sop s [] all = tt
places_within bytes size sop s (w ∷ places) all = (record { header = all.0.order; body = omega arith; within = all.0.within }, places_within bytes size sop s places all.1)

pub entries_within : (bytes : List ℕ) (h : Headers) (t : ℕ) (entries : List PacketEntry) → AreHeaders (length bytes) h → t < tile_count h.siz → entries_at bytes h t ≡ Ok entries
    → AreEntries (length bytes) (shape_in h.siz (tile_in h.tiles t) t) entries
entries_within bytes h t entries are less e =
    let f = tile_in h.tiles t in
    let s = shape_in h.siz f t in
    let read = entries_read bytes h t entries e in
    let places = read.0 in
    subst (AreEntries (length bytes) s) read.2 record {
      count = length-map places (packet_entry bytes f.cod.sop) ∙ places_count bytes h t places are less read.1;
      each = places_within bytes (length bytes) f.cod.sop s places (packets_within bytes h t places are less read.1);
    }

-- ---- packets and their entries

entered : (bytes : List ℕ) (sop eph : Bool) (p : Packet) (w : PacketPlace) → IsPacket sop eph p → HasBit p → IsPlaced bytes p w → IsEntered bytes sop p (packet_entry bytes sop w)
entered bytes sop eph p w is some at = record {
  size = at.size;
  text = at.text;
  bodies = sym (bodies_join bytes w.body w.parts) ∙ ap (flat_map (λ b. b.bytes)) (sym at.bodies);
  counter = ap (λ (text : List ℕ). sop_written (counter_of sop text)) at.text ∙ sym (sop_is_written sop eph p is some);
}

all_entered : (bytes : List ℕ) (sop eph : Bool) (packets : List Packet) (places : List PacketPlace) → AllByRecursion (IsPacket sop eph) packets → AllByRecursion HasBit packets
    → AllZip (IsPlaced bytes) packets places → AllZip (IsEntered bytes sop) packets (map (packet_entry bytes sop) places)
all_entered bytes sop eph [] [] texts bits zip = tt
all_entered bytes sop eph [] (w ∷ places) texts bits zip = absurd zip
all_entered bytes sop eph (p ∷ packets) [] texts bits zip = absurd zip
all_entered bytes sop eph (p ∷ packets) (w ∷ places) texts bits zip = (entered bytes sop eph p w texts.0 bits.0 zip.0, all_entered bytes sop eph packets places texts.1 bits.1 zip.1)

enter_at : (bytes : List ℕ) (h : Headers) (t : ℕ) (packets : List Packet) (places : List PacketPlace) → AreTilePackets bytes h t packets → AllZip (IsPlaced bytes) packets places
    → EnterAt bytes h t packets (map (packet_entry bytes (tile_in h.tiles t).cod.sop) places)
enter_at bytes h t packets places tile zip =
    let f = tile_in h.tiles t in
    all_entered bytes f.cod.sop f.cod.eph packets places tile.texts (tile_bits (shape_in h.siz f t) f.cod.sop f.cod.eph packets (map (slice_of bytes) f.data_places) tile) zip

-- What is kept of a tile are the places of its packets.
pub entries_found : (bytes : List ℕ) (h : Headers) (t : ℕ) (entries : List PacketEntry) → AreHeaders (length bytes) h → t < tile_count h.siz → entries_at bytes h t ≡ Ok entries
    → AreEnteredAt bytes h t entries
entries_found bytes h t entries are less e =
    let read = entries_read bytes h t entries e in
    let found = packets_found bytes h t read.0 are less read.1 in
    (found.0, found.1, subst (EnterAt bytes h t found.0) read.2 (enter_at bytes h t found.0 read.0 found.1 found.2))

-- The places of the packets of a tile are kept.
pub entries_only : (bytes : List ℕ) (h : Headers) (t : ℕ) (packets : List Packet) → AreHeaders (length bytes) h → t < tile_count h.siz → AreTilePackets bytes h t packets
    → (entries : List PacketEntry) × (entries_at bytes h t ≡ Ok entries) × EnterAt bytes h t packets entries
entries_only bytes h t packets are less tile =
    let only = packets_only bytes h t packets are less tile in
    (map (packet_entry bytes (tile_in h.tiles t).cod.sop) only.0, entries_ok bytes h t only.0 only.1, enter_at bytes h t packets only.0 tile only.2)
