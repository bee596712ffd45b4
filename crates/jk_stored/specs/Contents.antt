-- The data of a tile's only part in the codestream of a window.
use Rattle.std.specs.Prelude.{◌≡◌, ℕ, ◌<◌, ◌≤◌, ◌^◌, ◌*◌, ◌/◌, ◌%◌, min, length, slice_index_or, Bool, false, if◌then◌else◌, List, ◌∷◌, ◌++◌, Ok}
use Rattle.std.specs.List.{flat_map, zip}
use Rattle.jk_math.specs.declared.rect.Rect.{Rect}
use Rattle.jk_geom.specs.declared.shape.TileShape.{TileShape}
use Rattle.jk_geom.specs.Rectangles.{is_empty, meet}
use Rattle.jk_geom.specs.Partitions.{reduced_area}
use Rattle.jk_params.specs.Headers.{Headers, tile_in}
use Rattle.jk_stored.specs.Walks.{entries_in}
use Rattle.jk_geom.specs.declared.shape.PacketName.{PacketName}
use Rattle.jk_geom.specs.TileShapes.{IsTileShape, coding_of}
use Rattle.jk_geom.specs.Precincts.{precincts_across}
use Rattle.jk_marks.specs.declared.coding.Coding.{Coding}
use Rattle.jk_order.specs.PacketOrder.{order}
use Rattle.jk_packet.specs.PacketText.{eph_text}
use Rattle.jk_walk.specs.declared.entries.PacketEntry.{PacketEntry}
use Rattle.jk_walk.specs.TilePackets.{slice_of, shape_in}
use Rattle.jk_walk.specs.Sop.{sop_written}
use Rattle.jk_window.specs.Cutting.{Entered, wanted}
use Rattle.jk_window.specs.NeededNumbers.{AreNeeded}
use Rattle.jk_stored.specs.declared.content.Seen.{Seen}
use Rattle.jk_stored.specs.declared.needed.NeededIn.{NeededIn}

-- the coding of the component that a number tells, and the resolution: the highest, where there are fewer
abbrev pub coding_at : TileShape → (i : ℕ) → Coding
coding_at s i = coding_of s.codings (i / 11)

abbrev pub resolution_at : TileShape → (i : ℕ) → ℕ
resolution_at s i = min (i % 11) (coding_at s i).levels

-- what the window needs there of the precincts
pub record IsNeededIn (s : TileShape) (top : Rect) (d i : ℕ) (x : NeededIn) : Type 0 where
  pub needed : AreNeeded s.rect (coding_at s i) top d (resolution_at s i) x.precincts
  pub across : x.across ≡ precincts_across s.rect (coding_at s i) (resolution_at s i)

-- the same of all resolutions of all components
pub record AreNeededIn (s : TileShape) (top : Rect) (d : ℕ) (xs : List NeededIn) : Type 0 where
  pub count : length xs ≡ length s.codings * 11
  pub each : (i : ℕ) (other : NeededIn) → i < length s.codings * 11 → IsNeededIn s top d i (slice_index_or xs i other)

-- a tile, and what is needed of it where something of it is seen
pub record IsSeen (s : Seen) : Type 0 where
  pub shape : IsTileShape s.shape.now
  pub needed : is_empty s.top ≡ false → AreNeededIn s.shape.now s.top s.reduce s.needed.now
  pub right : s.top.x1 < 2 ^ 31
  pub lower : s.top.y1 < 2 ^ 31
  pub few : s.reduce ≤ 10

-- whether the packet of a name is kept
abbrev pub is_kept : Seen → PacketName → Bool
is_kept s n = wanted s.shape.now s.top s.reduce s.shape.now.layers n

-- a packet that is kept, and an empty one in the place of another
abbrev pub packet_of : (c : List ℕ) → (PacketName → Bool) → (eph : Bool) → Entered → List ℕ
packet_of c keep eph v =
    if keep v.0 then slice_of c (v.1.start, v.1.end) else sop_written v.1.counter ++ (0 ∷ eph_text eph)

abbrev pub content_of : (c : List ℕ) → Seen → List PacketName → List PacketEntry → List ℕ
content_of c s names entries = flat_map (packet_of c (is_kept s) s.eph) (zip names entries)

-- the same by the tile, the window on it, and the entries of all packets
abbrev pub tile_content : (c : List ℕ) → TileShape → (top : Rect) → (d : ℕ) → (eph : Bool) → List PacketEntry → List ℕ
tile_content c s top d eph entries = flat_map (packet_of c (wanted s top d s.layers) eph) (zip (order s) entries)

-- A text is the data of tile t at this place in a codestream, as the window w at reduction d keeps them.
abbrev pub IsContent : (c : List ℕ) → Headers → (w : Rect) → (d t : ℕ) → ℕ × ℕ → List ℕ → Type 0
IsContent c h w d t part text =
    let f = tile_in h.tiles t in
    let s = shape_in h.siz f t in
    (entries : List PacketEntry) × (entries_in c s f.cod.sop f.cod.eph part ≡ Ok entries)
    × (text ≡ tile_content c s (meet w (reduced_area s.rect d)) d f.cod.eph entries)
