-- The packets of a tile that lies in one tile-part of a stored file.
use Rattle.std.specs.Prelude.{◌≡◌, ℕ, ◌+◌, ◌<◌, Bool, false, List, [], ◌∷◌, Result, Ok}
use Rattle.jk_math.specs.declared.fault.Fault.{Fault}
use Rattle.jk_geom.specs.declared.shape.TileShape.{TileShape}
use Rattle.jk_geom.specs.declared.shape.PacketName.{PacketName}
use Rattle.jk_order.specs.PacketOrder.{IsPrecinct, is_of, order}
use Rattle.jk_packet.specs.Reading.{PrecinctState}
use Rattle.jk_walk.specs.declared.places.PacketPlace.{PacketPlace}
use Rattle.jk_walk.specs.declared.entries.PacketEntry.{PacketEntry}
use Rattle.jk_walk.specs.WalkReading.{blank_states, packet_at, names_at, each_of}
use Rattle.jk_walk.specs.Entries.{packet_entry}
use Rattle.jk_walk.specs.Keeping.{Kept, states_in, IsKept}

-- the entries of the packets of a tile whose data stand at one place of the codestream
abbrev pub entries_in : List ℕ → TileShape → (sop eph : Bool) → ℕ × ℕ → Result (List PacketEntry) Fault
entries_in c s sop eph part =
    each_of (packet_entry c sop) (names_at c (order s) (blank_states s sop eph) (part ∷ []))

-- A packet was read, and its precinct has this state then, which is kept up to its last layer.
pub record HasRead (s : TileShape) (n : PacketName) (old new : Kept) (x : PrecinctState) : Type 0 where
  pub layers : x.layers ≡ n.layer + 1
  pub early : n.layer + 1 < s.layers → states_in s new n.component n.resolution n.precinct ≡ x
  pub others : (c r k : ℕ) → IsPrecinct s c r k → is_of c r k n ≡ false → states_in s new c r k ≡ states_in s old c r k
  pub same : IsKept old new

-- The entry is that of the packet at the front of a part, whose precinct has these states.
abbrev pub IsEntryAt : List ℕ → (sop : Bool) → ℕ × ℕ → PacketName → (before after : PrecinctState) → PacketEntry → Type 0
IsEntryAt c sop part n before after e =
    (w : PacketPlace) × (packet_at c part n before ≡ Ok (w, after)) × (e ≡ packet_entry c sop w)
