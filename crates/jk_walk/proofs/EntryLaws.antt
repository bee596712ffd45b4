-- What is read of a tile are all its packets in their order, so its entries give their bytes.
use Rattle.std.proofs.Common.{◌≡◌, ℕ, ◌<◌, ◌≤◌, ◌^◌, List, [], ◌∷◌, length, map, Result, Ok, Err, refl, ap, sym, ◌∙◌, subst, arith}
use Rattle.std.specs.List.{AllZip, zip}
use Rattle.std.proofs.lemmas.List.{length-map}
use Rattle.jk_math.specs.Answer.{◌>>=◌}
use Rattle.jk_math.specs.declared.fault.Fault.{Fault}
use Rattle.jk_marks.specs.Siz.{tile_count}
use Rattle.jk_geom.specs.declared.shape.PacketName.{PacketName}
use Rattle.jk_order.specs.PacketOrder.{IsPacketOrder, order, packet_count}
use Rattle.jk_order.proofs.Laws.{length_of, order_is, order_one}
use Rattle.jk_params.specs.Headers.{Headers, tile_in, AreHeaders}
use Rattle.jk_walk.specs.declared.places.PacketPlace.{PacketPlace}
use Rattle.jk_walk.specs.declared.spans.PacketSpan.{PacketSpan}
use Rattle.jk_walk.specs.declared.entries.PacketEntry.{PacketEntry}
use Rattle.jk_walk.specs.TilePackets.{shape_in, Packet}
use Rattle.jk_walk.specs.WalkReading.{packets_at, IsPlaced, span_of, spans_at}
use Rattle.jk_walk.specs.Entries.{packet_entry, entries_at, entry_span, spans_in}
use Rattle.jk_walk.proofs.FoundLaws.{packets_found}
use Rattle.jk_walk.proofs.TileFacts.{tile_few}

abbrev pub place_name : PacketPlace → PacketName
place_name w = w.name

names_placed : (bytes : List ℕ) (packets : List Packet) (places : List PacketPlace) → AllZip (IsPlaced bytes) packets places → map (λ p. p.name) packets ≡ map place_name places
names_placed bytes [] [] all = refl
names_placed bytes [] (w ∷ places) all = absurd all
names_placed bytes (p ∷ packets) [] all = absurd all
names_placed bytes (p ∷ packets) (w ∷ places) all = let first = sym all.0.name in let rest = names_placed bytes packets places all.1 in λ i. first i ∷ rest i

-- what is read are all packets of the tile in their order
pub places_order : (bytes : List ℕ) (h : Headers) (t : ℕ) (places : List PacketPlace) → AreHeaders (length bytes) h → t < tile_count h.siz → packets_at bytes h t ≡ Ok places
    → IsPacketOrder (shape_in h.siz (tile_in h.tiles t) t) (map place_name places)
places_order bytes h t places are less read =
    let found = packets_found bytes h t places are less read in
    subst (IsPacketOrder (shape_in h.siz (tile_in h.tiles t) t)) (names_placed bytes found.0 places found.2) found.1.order

-- by the order that there is
pub places_named : (bytes : List ℕ) (h : Headers) (t : ℕ) (places : List PacketPlace) → AreHeaders (length bytes) h → t < tile_count h.siz → packets_at bytes h t ≡ Ok places
    → order (shape_in h.siz (tile_in h.tiles t) t) ≡ map place_name places
places_named bytes h t places are less read =
    let s = shape_in h.siz (tile_in h.tiles t) t in
    order_one s (order s) (map place_name places) (order_is s) (places_order bytes h t places are less read)

-- as many as the tile has
pub places_count : (bytes : List ℕ) (h : Headers) (t : ℕ) (places : List PacketPlace) → AreHeaders (length bytes) h → t < tile_count h.siz → packets_at bytes h t ≡ Ok places
    → length places ≡ packet_count (shape_in h.siz (tile_in h.tiles t) t)
places_count bytes h t places are less read =
    sym (length-map places place_name) ∙ length_of (shape_in h.siz (tile_in h.tiles t) t) (map place_name places) (places_order bytes h t places are less read)

-- they are few
pub places_few : (bytes : List ℕ) (h : Headers) (t : ℕ) (places : List PacketPlace) → AreHeaders (length bytes) h → t < tile_count h.siz → packets_at bytes h t ≡ Ok places → length places ≤ 2 ^ 24
places_few bytes h t places are less read =
    let count = places_count bytes h t places are less read in
    let few = tile_few (length bytes) h t are less in
    omega (arith, count, few)

-- names and entries of the same packets
spans_are : (f : PacketPlace → PacketEntry) (places : List PacketPlace) → map entry_span (zip (map place_name places) (map f places)) ≡ map (λ w. entry_span (place_name w, f w)) places
spans_are f [] = refl
spans_are f (w ∷ places) = let rest = spans_are f places in λ i. entry_span (place_name w, f w) ∷ rest i

-- The entries of a tile give the spans that a walk gives, or the same fault.
pub entries_spans : (bytes : List ℕ) (h : Headers) (t : ℕ) → AreHeaders (length bytes) h → t < tile_count h.siz
    → spans_at bytes h t ≡ (entries_at bytes h t >>= λ entries. Ok (spans_in (shape_in h.siz (tile_in h.tiles t) t) entries))
unfolding entries_at
entries_spans bytes h t are less = by (packets_at bytes h t) refl
  where
    by : (r : Result (List PacketPlace) Fault) → packets_at bytes h t ≡ r
        → (r >>= λ places. Ok (map span_of places))
        ≡ ((r >>= λ places. Ok (map (packet_entry bytes (tile_in h.tiles t).cod.sop) places)) >>= λ entries. Ok (spans_in (shape_in h.siz (tile_in h.tiles t) t) entries))
    by (Err e) read = refl
    by (Ok places) read =
        let f : PacketPlace → PacketEntry = packet_entry bytes (tile_in h.tiles t).cod.sop in
        let named = ap (λ (names : List PacketName). map entry_span (zip names (map f places))) (places_named bytes h t places are less read) in
        ap (λ (spans : List PacketSpan). Ok spans) (sym (named ∙ spans_are f places))

-- What was kept of a tile gives what a walk over it gives.
pub kept_spans : (bytes : List ℕ) (h : Headers) (t : ℕ) (entries : List PacketEntry) → AreHeaders (length bytes) h → t < tile_count h.siz → entries_at bytes h t ≡ Ok entries
    → spans_at bytes h t ≡ Ok (spans_in (shape_in h.siz (tile_in h.tiles t) t) entries)
kept_spans bytes h t entries are less e =
    entries_spans bytes h t are less ∙ ap (λ (r : Result (List PacketEntry) Fault). r >>= λ es. Ok (spans_in (shape_in h.siz (tile_in h.tiles t) t) es)) e
