-- A codestream in which packets are empty (T.800 B.10.3).
use Rattle.std.specs.Prelude.{ℕ, Bool, false, nat_lt, if◌then◌else◌, List, [], ◌∷◌, ◌++◌, map, None}
use Rattle.std.specs.List.{flat_map}
use Rattle.jk_marks.specs.Markers.{tlm}
use Rattle.jk_marks.specs.Codestream.{CodestreamPart, Tree}
use Rattle.jk_marks.specs.Copying.{kept_segments, part_with}
use Rattle.jk_geom.specs.declared.shape.PacketName.{PacketName}
use Rattle.jk_packet.specs.PacketText.{eph_text}
use Rattle.jk_walk.specs.TilePackets.{Packet}
pub use Rattle.jk_walk.specs.Sop.{begins_sop, sop_of}

-- The text of the empty packet in the place of a packet: its SOP, a header of the bit 0, and EPH
-- where it must stand.
abbrev pub emptied_text : (sop eph : Bool) → List ℕ → List ℕ
emptied_text sop eph text = sop_of sop text ++ (0 ∷ eph_text eph)

abbrev pub emptied_packet : (sop eph : Bool) → Packet → Packet
emptied_packet sop eph p = record p { layer = None; bits = false ∷ []; bodies = []; text = emptied_text sop eph p.text }

-- the packet itself, where its name is kept, and else the empty one
abbrev pub kept_packet : (PacketName → Bool) → (sop eph : Bool) → Packet → Packet
kept_packet keep sop eph p = if keep p.name then p else emptied_packet sop eph p

abbrev pub emptied_run : (PacketName → Bool) → (sop eph : Bool) → List Packet → List Packet
emptied_run keep sop eph run = map (kept_packet keep sop eph) run

-- Packets of the first layers of each precinct of a tile are kept. The fronts say how many layers,
-- by component, resolution and number.
abbrev pub of_fronts : (fronts : ℕ → ℕ → ℕ → ℕ) → PacketName → Bool
of_fronts fronts n = nat_lt n.layer (fronts n.component n.resolution n.precinct)

abbrev pub run_text : List Packet → List ℕ
run_text run = flat_map (λ p. p.text) run

-- a tile-part whose data are those of its tile and number, and which doesn't tell the lengths of
-- packets
abbrev pub emptied_part : (ℕ → ℕ → List ℕ) → CodestreamPart → CodestreamPart
emptied_part content p = part_with p (content p.tile p.number)

-- the same of all tile-parts, whose lengths the main header doesn't tell
abbrev pub emptied_tree : (ℕ → ℕ → List ℕ) → Tree → Tree
emptied_tree content t =
    record t { segments = kept_segments tlm t.segments; parts = map (emptied_part content) t.parts }
