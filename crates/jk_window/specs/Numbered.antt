-- The packets of a tile that are kept, as intervals of their numbers.
use Rattle.std.specs.Prelude.{◌≡◌, ◌↔◌, ◌<◌, ◌≤◌, ◌⊎◌, ℕ, Bool, true, List, length, Some, slice_get, slice_index_or}
use Rattle.std.specs.List.{Any, zip}
use Rattle.jk_geom.specs.declared.shape.PacketName.{PacketName}
use Rattle.jk_geom.specs.declared.shape.TileShape.{TileShape}
use Rattle.jk_geom.specs.TileShapes.{coding_of}
use Rattle.jk_geom.specs.Precincts.{precinct_number}
use Rattle.jk_order.specs.PacketOrder.{order}
use Rattle.jk_window.specs.declared.contents.TileCut.{TileCut}
use Rattle.jk_window.specs.declared.intervals.Precincts.{Precincts}
use Rattle.jk_window.specs.declared.numbered.Piece.{Piece}
use Rattle.jk_window.specs.NeededNumbers.{IsIn}
use Rattle.jk_window.specs.Needs.{needs}
use Rattle.jk_window.specs.Cutting.{Entered, wanted}

-- a number of one of some intervals
abbrev pub IsAmong : List (ℕ × ℕ) → ℕ → Type 0
IsAmong intervals i = Any (λ s. IsIn s i) intervals

-- Packet i of the order is kept where one of the intervals has its number.
abbrev pub AreWanted : TileCut → List (ℕ × ℕ) → Type 0
AreWanted t intervals = (i : ℕ) (n : PacketName) → slice_get (order t.shape.now) i ≡ Some n
    → (wanted t.shape.now t.top t.reduce t.layers n ≡ true) ↔ IsAmong intervals i

-- Some intervals have the numbers that others have, and those of the packets of which this holds.
abbrev pub Adds : TileShape → (old new : List (ℕ × ℕ)) → (PacketName → Type 0) → Type 0
Adds s old new P = (i : ℕ) (n : PacketName) → slice_get (order s) i ≡ Some n → IsAmong new i ↔ (IsAmong old i ⊎ P n)

-- Precincts of a resolution of a component of a tile, and no more layers than it has.
pub record ArePrecincts (s : TileShape) (p : Precincts) : Type 0 where
  pub component : p.component < length s.codings
  pub resolution : p.resolution ≤ (coding_of s.codings p.component).levels
  pub within : p.numbers.1 ≤ precinct_number s.rect (coding_of s.codings p.component) p.resolution
  pub layers : p.layers ≤ s.layers

-- A packet of one of the first layers of one of these precincts.
pub record IsOf (p : Precincts) (n : PacketName) : Type 0 where
  pub component : n.component ≡ p.component
  pub resolution : n.resolution ≡ p.resolution
  pub layer : n.layer < p.layers
  pub precinct : IsIn p.numbers n.precinct

-- A packet of one of the first l layers, whose precinct the window needs: of the tile, of a
-- component, and of a resolution of it.
pub record IsNeeded (t : TileCut) (l : ℕ) (n : PacketName) : Type 0 where
  pub layer : n.layer < l
  pub precinct : needs t.shape.now.rect (coding_of t.shape.now.codings n.component) t.top t.reduce n.resolution n.precinct ≡ true

pub record IsNeededIn (t : TileCut) (l c : ℕ) (n : PacketName) : Type 0 where
  pub component : n.component ≡ c
  pub needed : IsNeeded t l n

pub record IsNeededOf (t : TileCut) (l c r : ℕ) (n : PacketName) : Type 0 where
  pub resolution : n.resolution ≡ r
  pub needed : IsNeededIn t l c n

-- the packets of a tile in their order, with their entries
abbrev pub packets_in : TileCut → List Entered
packets_in t = zip (order t.shape.now) t.entries.now

-- ---- one interval after another

-- All packets with numbers from one up to another are kept, or none.
abbrev pub AreAll : TileCut → (first behind : ℕ) → Bool → Type 0
AreAll t first behind kept = (i : ℕ) (n : PacketName) → first ≤ i → i < behind → slice_get (order t.shape.now) i ≡ Some n
    → wanted t.shape.now t.top t.reduce t.layers n ≡ kept

-- the intervals before the next one end there or before
abbrev pub EndBefore : List (ℕ × ℕ) → (next at : ℕ) → Type 0
EndBefore intervals next at = (k : ℕ) → k < next → (slice_index_or intervals k (0, 0)).1 ≤ at

-- From a number up to the start of the piece there is none of the intervals, and from there up to
-- its end there are all.
pub record IsPiece (intervals : List (ℕ × ℕ)) (at behind : ℕ) (p : Piece) : Type 0 where
  pub start : at ≤ p.start
  pub order : p.start ≤ p.end
  pub some : at < p.end
  pub end : p.end ≤ behind
  pub gap : (i : ℕ) → at ≤ i → i < p.start → IsAmong intervals i → ⊥
  pub kept : (i : ℕ) → p.start ≤ i → i < p.end → IsAmong intervals i
