-- How the program keeps what headers have told of the precincts of a tile: those of which nothing
-- is kept are blank.
use Rattle.std.specs.Prelude.{◌≡◌, ℕ, ◌+◌, ◌*◌, ◌<◌, Bool, List, [], length, slice_index_or, Option, Some, None}
use Rattle.std.specs.Prelude.{Result, Ok}
use Rattle.std.specs.Global.{Box}
use Rattle.jk_math.specs.Answer.{◌>>=◌}
use Rattle.jk_math.specs.declared.fault.Fault.{Fault}
use Rattle.jk_geom.specs.declared.shape.TileShape.{TileShape}
use Rattle.jk_order.specs.PacketOrder.{IsPrecinct}
use Rattle.jk_packet.specs.Reading.{PrecinctState}
use Rattle.jk_walk.specs.WalkReading.{States, blank_states}

-- what is read, without the state behind it
abbrev pub alone : {A S : Type 0} → Result (A × S) Fault → Result A Fault
alone read = read >>= λ o. Ok o.0

-- what is kept of a precinct, if anything is
abbrev pub Slot : Type 0
Slot = Option (Box PrecinctState)

-- the state that is kept, and a blank one where none is
abbrev pub state_of : Slot → PrecinctState → PrecinctState
state_of (Some b) blank = b.value
state_of None blank = blank

-- the precincts of each resolution of each component, and the markers of their packets
pub record Kept : Type 0 where
  pub sop : Bool
  pub eph : Bool
  pub precincts : List (List Slot)

-- how many resolutions a component may have
abbrev pub most_resolutions : ℕ
most_resolutions = 11

-- where the precincts of resolution r of component c are kept
abbrev pub row_of : (c r : ℕ) → ℕ
row_of c r = c * most_resolutions + r

-- precinct k of a resolution
abbrev pub seen : (ℕ → PrecinctState) → List Slot → ℕ → PrecinctState
seen blank slots k = state_of (slice_index_or slots k None) (blank k)

-- what was read of each precinct
abbrev pub states_in : TileShape → Kept → States
states_in s p = λ c r k. seen (blank_states s p.sop p.eph c r) (slice_index_or p.precincts (row_of c r) []) k

-- the precincts of the tile are kept as these states say, each until its last layer is read
abbrev pub ShowsStates : TileShape → Kept → States → Type 0
ShowsStates s p states = (c r k : ℕ) → IsPrecinct s c r k → (states c r k).layers < s.layers
    → states c r k ≡ states_in s p c r k

-- the same markers, and as many resolutions
pub record IsKept (old new : Kept) : Type 0 where
  pub sop : new.sop ≡ old.sop
  pub eph : new.eph ≡ old.eph
  pub rows : length new.precincts ≡ length old.precincts
