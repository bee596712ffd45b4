-- Reading the packets of a tile from front to back, with the first fault: for each packet, where it
-- stands.
use Rattle.std.specs.Prelude.{◌≡◌, ℕ, ◌+◌, ◌<◌, ◌≤◌, Bool, not, ◌==◌, nat_lt, if◌then◌else◌, List, [], ◌∷◌, length, map}
use Rattle.std.specs.Prelude.{drop, sum_by, Result, Ok, Err}
use Rattle.std.specs.List.{AllByRecursion, AllZip}
use Rattle.jk_math.specs.Answer.{◌>>=◌, refuse}
use Rattle.jk_math.specs.declared.fault.Fault.{Fault}
use Rattle.jk_math.specs.declared.fault.Fault.TheVariants.{Truncated, MissingPackets, SurplusBytes}
use Rattle.jk_geom.specs.declared.shape.TileShape.{TileShape}
use Rattle.jk_geom.specs.declared.shape.PacketName.{PacketName}
use Rattle.jk_geom.specs.TileShapes.{coding_of}
use Rattle.jk_order.specs.PacketOrder.{IsName, is_of, order}
use Rattle.jk_packet.specs.declared.header.BlockContribution.{BlockContribution}
use Rattle.jk_packet.specs.Gathering.{IsOfBlock}
use Rattle.jk_packet.specs.Reading.{PrecinctState, blank_precinct, header_at}
use Rattle.jk_params.specs.Headers.{Headers, tile_in}
use Rattle.jk_walk.specs.declared.places.PacketPlace.{PacketPlace}
use Rattle.jk_walk.specs.declared.spans.PacketSpan.{PacketSpan}
use Rattle.jk_walk.specs.TilePackets.{slice_of, shape_in, Body, Packet, bands_at, IsTile}

-- how many bytes the bodies of parts take
abbrev pub bodies_length : List BlockContribution → ℕ
bodies_length parts = sum_by (λ p. p.length) parts

-- the first byte behind a packet
abbrev pub place_end : PacketPlace → ℕ
place_end w = w.body + bodies_length w.parts

-- what the headers have told of each precinct, by component, resolution and number
abbrev pub States : Type 0
States = ℕ → ℕ → ℕ → PrecinctState

-- no packet was read
abbrev pub blank_states : TileShape → (sop eph : Bool) → States
blank_states s sop eph = λ c r k. blank_precinct (bands_at s.rect (coding_of s.codings c) r k) sop eph

-- with another state of the precinct of a packet
abbrev pub with_state : States → PacketName → PrecinctState → States
with_state states n x = λ c r k. if is_of c r k n then x else states c r k

-- from the first part in which bytes are left
unfoldable pub begun : List (ℕ × ℕ) → List (ℕ × ℕ)
begun [] = []
begun (p ∷ parts) = if nat_lt p.0 p.1 then p ∷ parts else begun parts

-- what is left of the part in which the next packet stands
abbrev pub in_hand : List (ℕ × ℕ) → Result (ℕ × ℕ) Fault
in_hand [] = Err MissingPackets
in_hand (p ∷ parts) = Ok p

-- the place of a packet from its start on
abbrev pub place_of : PacketName → (start header : ℕ) → List BlockContribution → PacketPlace
place_of n start header parts = record { name = n; start = start; body = start + header; parts = parts }

-- the packet at the front of a part, with its precinct after it
unfoldable pub packet_at : List ℕ → ℕ × ℕ → PacketName → PrecinctState → Result (PacketPlace × PrecinctState) Fault
packet_at bytes p n x =
    header_at n.layer (slice_of bytes p) x
    >>= λ h. refuse (nat_lt p.1 (place_end (place_of n p.0 h.0.length h.0.parts))) Truncated
    >>= λ _. Ok (place_of n p.0 h.0.length h.0.parts, h.1)

-- The packets of these names, from the states of their precincts and what is left of the parts.
unfoldable pub names_at : List ℕ → List PacketName → States → List (ℕ × ℕ) → Result (List PacketPlace) Fault
names_at bytes [] states parts = refuse (not (length (begun parts) == 0)) SurplusBytes >>= λ _. Ok []
names_at bytes (n ∷ names) states parts =
    in_hand (begun parts)
    >>= λ p. packet_at bytes p n (states n.component n.resolution n.precinct)
    >>= λ o. names_at bytes names (with_state states n o.1) ((place_end o.0, p.1) ∷ drop 1 (begun parts))
    >>= λ more. Ok (o.0 ∷ more)

-- the packets of tile t
unfoldable pub packets_at : List ℕ → Headers → ℕ → Result (List PacketPlace) Fault
packets_at bytes h t =
    let f = tile_in h.tiles t in
    let s = shape_in h.siz f t in
    names_at bytes (order s) (blank_states s f.cod.sop f.cod.eph) f.data_places

-- the numbers of the packets that have something of a code-block, where `low` is that of the first
abbrev pub full_numbers : (low : ℕ) → List PacketPlace → List ℕ
full_numbers low [] = []
full_numbers low (w ∷ places) =
    if length w.parts == 0 then full_numbers (low + 1) places else low ∷ full_numbers (low + 1) places

-- the bodies of parts, which stand one after another from a place on
abbrev pub bodies_at : List ℕ → ℕ → List BlockContribution → List Body
bodies_at bytes at [] = []
bodies_at bytes at (p ∷ parts) = record { part = p; bytes = slice_of bytes (at, at + p.length) }
    ∷ bodies_at bytes (at + p.length) parts

-- A packet stands at a place.
pub record IsPlaced (bytes : List ℕ) (p : Packet) (w : PacketPlace) : Type 0 where
  pub name : w.name ≡ p.name
  pub size : place_end w ≡ w.start + length p.text
  pub text : slice_of bytes (w.start, place_end w) ≡ p.text
  pub bodies : p.bodies ≡ bodies_at bytes w.body w.parts

-- a packet without its parts: whose it is, where it begins, and where it ends
abbrev pub span_of : PacketPlace → PacketSpan
span_of w = record { name = w.name; start = w.start; end = place_end w }

-- what is made of each place that is read
abbrev pub each_of : {X : Type 0} → (PacketPlace → X) → Result (List PacketPlace) Fault → Result (List X) Fault
each_of f read = read >>= λ places. Ok (map f places)

-- the packets of tile t without their parts
abbrev pub spans_at : List ℕ → Headers → ℕ → Result (List PacketSpan) Fault
spans_at bytes h t = each_of span_of (packets_at bytes h t)

-- A packet has these bytes.
pub record IsSpanned (bytes : List ℕ) (p : Packet) (v : PacketSpan) : Type 0 where
  pub name : v.name ≡ p.name
  pub size : v.end ≡ v.start + length p.text
  pub text : slice_of bytes (v.start, v.end) ≡ p.text

-- Bytes of packets stand one after another in what is left of parts, and leave nothing: each begin
-- where the part in hand goes on, have a byte, and end within the part.
abbrev pub AreLaid : List PacketSpan → List (ℕ × ℕ) → Type 0
AreLaid [] parts = begun parts ≡ []
AreLaid (v ∷ spans) parts =
    (part : ℕ × ℕ) × (later : List (ℕ × ℕ)) × (begun parts ≡ part ∷ later) × (v.start ≡ part.0) × (v.start < v.end)
    × (v.end ≤ part.1) × AreLaid spans ((v.end, part.1) ∷ later)

-- the packets of tile t, in the places of its data
abbrev pub AreTilePackets : List ℕ → Headers → ℕ → List Packet → Type 0
AreTilePackets bytes h t packets =
    let f = tile_in h.tiles t in
    IsTile (shape_in h.siz f t) f.cod.sop f.cod.eph packets (map (slice_of bytes) f.data_places)

-- The packets of tile t stand at these places.
abbrev pub StandAt : List ℕ → Headers → ℕ → List PacketPlace → Type 0
StandAt bytes h t places = (packets : List Packet) × AreTilePackets bytes h t packets
    × AllZip (IsPlaced bytes) packets places

-- The place of a packet of the tile, within so many bytes: its parts are of code-blocks of its
-- precinct.
pub record IsPacketPlace (size : ℕ) (s : TileShape) (w : PacketPlace) : Type 0 where
  pub name : IsName s w.name
  pub order : w.start ≤ w.body
  pub within : place_end w ≤ size
  pub parts : AllByRecursion
      (IsOfBlock (bands_at s.rect (coding_of s.codings w.name.component) w.name.resolution w.name.precinct)) w.parts

abbrev pub ArePlaces : (size : ℕ) → TileShape → List PacketPlace → Type 0
ArePlaces size s places = AllByRecursion (IsPacketPlace size s) places
