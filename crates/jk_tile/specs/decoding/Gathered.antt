-- Packets gathered by their precincts, and bodies by their code-blocks.
use Rattle.std.specs.Prelude.{◌≡◌, ℕ, ◌+◌, ◌<◌, ◌≤◌, List, [], ◌∷◌, length, map, filter, drop, All, slice_index}
use Rattle.std.specs.Prelude.{slice_index_or}
use Rattle.std.specs.List.{flat_map}
use Rattle.std.specs.Global.{Vec}
use Rattle.jk_math.specs.Lists.{list_at}
use Rattle.jk_order.specs.PacketOrder.{is_of}
use Rattle.jk_walk.specs.declared.places.PacketPlace.{PacketPlace}
use Rattle.jk_walk.specs.TilePackets.{slice_of, Body}
use Rattle.jk_walk.specs.WalkReading.{bodies_at}
use Rattle.jk_tile.specs.declared.decoding.bodies.BodyPlace.{BodyPlace}
use Rattle.jk_tile.specs.declared.decoding.chains.PacketChains.{PacketChains}
use Rattle.jk_tile.specs.TileBlocks.{block_bodies}

-- stands where a packet isn't
abbrev pub no_place : PacketPlace
no_place = record {
  name = record { layer = 0; resolution = 0; component = 0; precinct = 0 };
  start = 0;
  body = 0;
  parts = [];
}

-- packet number i
abbrev pub place_in : List PacketPlace → ℕ → PacketPlace
place_in places i = slice_index_or places i no_place

-- the bodies of packets
abbrev pub bodies_in : List ℕ → List PacketPlace → List Body
bodies_in bytes places = flat_map (λ w. bodies_at bytes w.body w.parts) places

-- The packets of these numbers have what the packets of a precinct have among some. Packets that
-- have nothing needn't be told.
pub record AreNumbers (places : List PacketPlace) (of : List PacketPlace) (c r n : ℕ) (numbers : List ℕ) : Type 0 where
  pub small : All (λ i. i < length places) numbers
  pub whose : (bytes : List ℕ)
      → bodies_in bytes (map (place_in places) numbers) ≡ bodies_in bytes (filter (λ w. is_of c r n w.name) of)

-- Numbers from `low` on, which ascend, are told one behind another: `at` tells the first, and the
-- list behind each of them the next. Number m is told by m + 1, and 0 tells that there is none.
abbrev pub IsChain : (next : List ℕ) → (low at : ℕ) → List ℕ → Type 0
IsChain next low at [] = at ≡ 0
IsChain next low at (m ∷ numbers) = (at ≡ m + 1) × (low ≤ m) × (m < length next)
    × IsChain next (m + 1) (slice_index next m) numbers

-- The chains of so many precincts are of their packets, of those from number `low` on.
pub record AreByPrecinct (places : List PacketPlace) (low c r count : ℕ) (chains : PacketChains) : Type 0 where
  pub first : length chains.first.items ≡ count
  pub next : length chains.next.items ≡ length places
  pub each : (n : ℕ) → n < count
      → (numbers : List ℕ) × IsChain chains.next.items low (slice_index chains.first.items n) numbers
      × AreNumbers places (drop low places) c r n numbers

-- what stands at the place of a body
abbrev pub body_of : List ℕ → BodyPlace → Body
body_of bytes b = record { part = b.part; bytes = slice_of bytes (b.start, b.start + b.part.length) }

-- the body's bytes lie within so many
abbrev pub IsInside : ℕ → BodyPlace → Type 0
IsInside size b = b.start + b.part.length ≤ size

-- The lists are what these bodies have of so many code-blocks of sub-band i, from number `first` on.
pub record AreByBlock (size i first count : ℕ) (bodies : List ℕ → List Body) (lists : List (Vec BodyPlace)) : Type 0 where
  pub long : length lists ≡ count
  pub inside : (j : ℕ) → j < count → All (IsInside size) (list_at lists j)
  pub each : (bytes : List ℕ) (j : ℕ) → j < count
      → map (body_of bytes) (list_at lists j) ≡ block_bodies i (first + j) (bodies bytes)
