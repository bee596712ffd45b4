-- The tables and the writers of all precincts of a tile, one behind another: component by
-- component, resolution by resolution, precinct by precinct.
use Rattle.std.specs.Prelude.{◌≡◌, ℕ, ◌+◌, ◌*◌, ◌<◌, ◌≤◌, Bool, false, List, [], length, map, slice_index_or, Option}
use Rattle.std.specs.Prelude.{Some, None}
use Rattle.std.specs.List.{flat_map, range_with_len}
use Rattle.std.specs.Global.{Box}
use Rattle.jk_math.specs.declared.rect.Rect.{Rect}
use Rattle.jk_marks.specs.declared.coding.Coding.{Coding}
use Rattle.jk_geom.specs.declared.shape.TileShape.{TileShape}
use Rattle.jk_geom.specs.declared.shape.PacketName.{PacketName}
use Rattle.jk_geom.specs.Precincts.{precinct_number}
use Rattle.jk_geom.specs.Counts.{precincts_below}
use Rattle.jk_packet.specs.Written.{Table, PrecinctTables, AreTables, block_count, banded, packet_in}
use Rattle.jk_walk.specs.TilePackets.{bands_at}
use Rattle.jk_tile.specs.encoding.PacketsWritten.{Tables, precinct_tables}
use Rattle.jk_tile.specs.encoding.TileWritten.{WrittenBands, coefficient_of}

-- What each precinct has, precinct by precinct, resolution by resolution, and component by
-- component.
abbrev pub resolution_items : {X : Type 0} → Rect → Coding → (ℕ → ℕ → X) → ℕ → List X
resolution_items a k g r = map (g r) (range_with_len 0 (precinct_number a k r))

abbrev pub component_items : {X : Type 0} → Rect → Coding → (ℕ → ℕ → X) → ℕ → List X
component_items a k g n = flat_map (resolution_items a k g) (range_with_len 0 n)

abbrev pub tile_items : {X : Type 0} → Rect → Coding → (ℕ → ℕ → ℕ → X) → ℕ → List X
tile_items a k g n = flat_map (λ c. component_items a k (g c) (k.levels + 1)) (range_with_len 0 n)

-- those of each precinct of a resolution, sub-band behind sub-band
abbrev pub resolution_lists : WrittenBands → ℕ → List (List Table)
resolution_lists s r =
    map (λ n. flat_map (λ ts. ts) (precinct_tables s.layers s.rect s.coding (coefficient_of s) r n))
    (range_with_len 0 (precinct_number s.rect s.coding r))

-- those of a component
abbrev pub component_lists : WrittenBands → List (List Table)
component_lists s = flat_map (resolution_lists s) (range_with_len 0 (s.coding.levels + 1))

-- where a precinct stands among all
abbrev pub index_of : Rect → Coding → (c r n : ℕ) → ℕ
index_of a k c r n = c * precincts_below a k (k.levels + 1) + (precincts_below a k r + n)

-- a writer of a precinct before its first packet
abbrev pub writer_at : Rect → Coding → (sop eph : Bool) → (layers : ℕ) → List Table → (r n : ℕ) → PrecinctTables
writer_at a k sop eph layers tables r n = record {
  shapes = bands_at a k r n;
  sop = sop;
  eph = eph;
  layers = layers;
  tables = banded (bands_at a k r n) tables;
  written = 0;
  failed = false;
}

-- a list of tables is that of a precinct
pub record IsPrecinctList (a : Rect) (k : Coding) (layers r n : ℕ) (tables : List Table) : Type 0 where
  pub whole : length tables ≡ block_count (bands_at a k r n)
  pub are : AreTables (bands_at a k r n) layers (banded (bands_at a k r n) tables)

-- the list of tables that stands where a precinct does, and the tables of its sub-bands
abbrev pub list_of : Rect → Coding → List (List Table) → (c r n : ℕ) → List Table
list_of a k lists c r n = slice_index_or lists (index_of a k c r n) []

abbrev pub tables_in : Rect → Coding → List (List Table) → Tables
tables_in a k lists = λ c r n. banded (bands_at a k r n) (list_of a k lists c r n)

-- Lists of tables for all precincts of so many components.
pub record AreLists (a : Rect) (k : Coding) (layers m : ℕ) (lists : List (List Table)) : Type 0 where
  pub long : length lists ≡ m * precincts_below a k (k.levels + 1)
  pub each : (c r n : ℕ) → c < m → r ≤ k.levels → n < precinct_number a k r
      → IsPrecinctList a k layers r n (list_of a k lists c r n)

-- what is kept of a precinct's writer, if anything is
abbrev pub WriterSlot : Type 0
WriterSlot = Option (Box PrecinctTables)

-- the writer that is kept, and a blank one where none is
abbrev pub writer_of : WriterSlot → PrecinctTables → PrecinctTables
writer_of (Some b) blank = b.value
writer_of None blank = blank

-- the writer at a place
abbrev pub kept_writer : List WriterSlot → ℕ → PrecinctTables → PrecinctTables
kept_writer slots i blank = writer_of (slice_index_or slots i None) blank

-- the writer of a packet's precinct, which has these tables
abbrev pub writer_in : TileShape → Coding → (sop eph : Bool) → List Table → List WriterSlot → ℕ → PacketName
    → PrecinctTables
writer_in s k sop eph tables slots place n =
    kept_writer slots place (writer_at s.rect k sop eph s.layers tables n.resolution n.precinct)

-- the next packet of a writer, which is packet `number` of its tile
abbrev pub text_by : PrecinctTables → ℕ → List ℕ
text_by w number = packet_in w.shapes w.sop w.eph w.tables w.written number
