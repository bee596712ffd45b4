-- What is kept of each packet of a tile, in the order of the packets.
use Rattle.std.specs.Prelude.{◌≡◌, ℕ, ◌+◌, ◌≤◌, Bool, List, length, map, Result, Ok}
use Rattle.std.specs.List.{AllByRecursion, AllZip, flat_map, zip}
use Rattle.jk_math.specs.Answer.{◌>>=◌}
use Rattle.jk_math.specs.declared.fault.Fault.{Fault}
use Rattle.jk_geom.specs.declared.shape.TileShape.{TileShape}
use Rattle.jk_geom.specs.declared.shape.PacketName.{PacketName}
use Rattle.jk_order.specs.PacketOrder.{order, packet_count}
use Rattle.jk_params.specs.Headers.{Headers, tile_in}
use Rattle.jk_walk.specs.declared.places.PacketPlace.{PacketPlace}
use Rattle.jk_walk.specs.declared.spans.PacketSpan.{PacketSpan}
use Rattle.jk_walk.specs.TilePackets.{slice_of, Packet}
use Rattle.jk_walk.specs.WalkReading.{place_end, packets_at, each_of, AreTilePackets}
use Rattle.jk_walk.specs.declared.entries.PacketEntry.{PacketEntry}
use Rattle.jk_walk.specs.Sop.{sop_of, counter_of, sop_written}

-- what is kept of a packet at a place
abbrev pub packet_entry : List ℕ → (sop : Bool) → PacketPlace → PacketEntry
packet_entry bytes sop w =
    record {
      start = w.start;
      body = w.body;
      end = place_end w;
      counter = counter_of sop (slice_of bytes (w.start, place_end w));
    }

-- the entries of tile t, in the order of its packets
unfoldable pub entries_at : List ℕ → Headers → ℕ → Result (List PacketEntry) Fault
entries_at bytes h t = each_of (packet_entry bytes (tile_in h.tiles t).cod.sop) (packets_at bytes h t)

-- the bytes of a packet, from its name and its entry
abbrev pub entry_span : PacketName × PacketEntry → PacketSpan
entry_span w = record { name = w.0; start = w.1.start; end = w.1.end }

-- the packets of a tile in their order, each by its bytes
abbrev pub spans_in : TileShape → List PacketEntry → List PacketSpan
spans_in s entries = map entry_span (zip (order s) entries)

-- the same of what is read
abbrev pub spans_from : TileShape → Result (List PacketEntry) Fault → Result (List PacketSpan) Fault
spans_from s read = read >>= λ entries. Ok (spans_in s entries)

-- An entry within so many bytes.
pub record IsEntry (size : ℕ) (e : PacketEntry) : Type 0 where
  pub header : e.start ≤ e.body
  pub body : e.body ≤ e.end
  pub within : e.end ≤ size

-- As many entries as the tile has packets, within so many bytes.
pub record AreEntries (size : ℕ) (s : TileShape) (entries : List PacketEntry) : Type 0 where
  pub count : length entries ≡ packet_count s
  pub each : AllByRecursion (IsEntry size) entries

-- A packet has these bytes, its bodies stand from that place on, and the counter tells its SOP.
pub record IsEntered (bytes : List ℕ) (sop : Bool) (p : Packet) (e : PacketEntry) : Type 0 where
  pub size : e.end ≡ e.start + length p.text
  pub text : slice_of bytes (e.start, e.end) ≡ p.text
  pub bodies : slice_of bytes (e.body, e.end) ≡ flat_map (λ b. b.bytes) p.bodies
  pub counter : sop_written e.counter ≡ sop_of sop p.text

-- The packets of tile t stand where their entries say, each where its own does.
abbrev pub EnterAt : List ℕ → Headers → ℕ → List Packet → List PacketEntry → Type 0
EnterAt bytes h t packets entries = AllZip (IsEntered bytes (tile_in h.tiles t).cod.sop) packets entries

-- The packets of tile t have these entries.
abbrev pub AreEnteredAt : List ℕ → Headers → ℕ → List PacketEntry → Type 0
AreEnteredAt bytes h t entries = (packets : List Packet) × AreTilePackets bytes h t packets
    × EnterAt bytes h t packets entries
