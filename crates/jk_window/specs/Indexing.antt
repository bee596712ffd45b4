-- What is kept of a file: where its codestream stands, what its headers say, and where each of its
-- packets stands.
use Rattle.std.specs.Prelude.{◌≡◌, ℕ, zero, suc, ◌-◌, ◌<◌, List, [], ◌∷◌, ◌++◌, length, map, slice_range}
use Rattle.std.specs.Prelude.{slice_index_or, Result, Ok}
use Rattle.std.specs.List.{flat_map}
use Rattle.jk_math.specs.Answer.{◌>>=◌}
use Rattle.jk_math.specs.declared.fault.Fault.{Fault}
use Rattle.jk_marks.specs.declared.segments.Order.{Order}
use Rattle.jk_marks.specs.Siz.{tile_count}
use Rattle.jk_marks.specs.HeaderReading.{main_at}
use Rattle.jk_boxes.specs.declared.place.Boxed.{Boxed}
use Rattle.jk_boxes.specs.Boxes.{HoldsCodestream, HoldsAt}
use Rattle.jk_boxes.specs.declared.boxes.Form.{Form}
use Rattle.jk_boxes.specs.Reading.{boxes_at, form_at}
use Rattle.jk_params.specs.Headers.{Headers, tile_in, cod_for, IsHeaders, AreHeaders}
use Rattle.jk_params.specs.HeadersReading.{headers_at}
use Rattle.jk_walk.specs.declared.entries.PacketEntry.{PacketEntry}
use Rattle.jk_walk.specs.TilePackets.{slice_of, shape_in, Packet}
use Rattle.jk_walk.specs.WalkReading.{AreTilePackets}
use Rattle.jk_walk.specs.Entries.{entries_at, AreEntries}
use Rattle.jk_window.specs.Emptied.{run_text}
use Rattle.jk_window.specs.Framing.{Frame, IsFrameOf, frame_at}

-- where the codestream stands in the file, the layers and the order of the main header, what all
-- headers say, for each tile the entries of its packets, and what stands around the packets
pub record IndexFields : Type 0 where
  pub place : Boxed
  pub layers : ℕ
  pub order : Order
  pub headers : Headers
  pub packets : List (List PacketEntry)
  pub frame : Frame

-- the entries of tile t
abbrev pub entries_of : List (List PacketEntry) → ℕ → List PacketEntry
entries_of packets t = slice_index_or packets t []

-- Headers of so many bytes, and an entry within them for each packet of each tile.
pub record AreIndexed (size : ℕ) (h : Headers) (packets : List (List PacketEntry)) : Type 0 where
  pub headers : AreHeaders size h
  pub count : length packets ≡ tile_count h.siz
  pub each : (t : ℕ) → t < tile_count h.siz
      → AreEntries size (shape_in h.siz (tile_in h.tiles t) t) (entries_of packets t)

-- The entries of each tile are those of its packets in the codestream.
abbrev pub AreEntriesOf : List ℕ → Headers → List (List PacketEntry) → Type 0
AreEntriesOf codestream h packets = (t : ℕ) → t < tile_count h.siz
    → entries_at codestream h t ≡ Ok (entries_of packets t)

abbrev pub joined_runs : List (List Packet) → List Packet
joined_runs runs = flat_map (λ run. run) runs

-- The packets of tile t, cut into one run for each part of the tile.
pub record HasRuns (bytes : List ℕ) (h : Headers) (t : ℕ) (runs : List (List Packet)) : Type 0 where
  pub packets : AreTilePackets bytes h t (joined_runs runs)
  pub cut : map run_text runs ≡ map (slice_of bytes) (tile_in h.tiles t).data_places

-- The file holds a codestream at this place, whose headers say this, and which has packets for each
-- tile, with these entries.
pub record IsIndexOf (bytes : List ℕ) (i : IndexFields) : Type 0 where
  pub codestream : List ℕ
  pub holds : HoldsAt bytes codestream i.place
  pub says : IsHeaders codestream i.headers
  pub layers : i.layers ≡ (cod_for says.tree.segments []).layers
  pub order : i.order ≡ (cod_for says.tree.segments []).order
  pub runs : ℕ → List (List Packet)
  pub tiles : (t : ℕ) → t < tile_count i.headers.siz → HasRuns codestream i.headers t (runs t)
  pub count : length i.packets ≡ tile_count i.headers.siz
  pub kept : AreEntriesOf codestream i.headers i.packets
  pub frame : IsFrameOf holds says.tree i.frame

-- The index of some file, and what it has lies in the codestream of that file.
pub record IsIndex (i : IndexFields) : Type 0 where
  pub within : AreIndexed (i.place.end - i.place.start) i.headers i.packets
  pub bytes : List ℕ
  pub indexes : IsIndexOf bytes i

-- A file whose codestream has headers, and packets for each tile, has an index.
abbrev pub HaveIndexes : Type 0
HaveIndexes = (bytes codestream : List ℕ) (h : Headers) → HoldsCodestream bytes codestream → IsHeaders codestream h
    → ((t : ℕ) → t < tile_count h.siz → (packets : List Packet) × AreTilePackets codestream h t packets)
    → (i : IndexFields) × IsIndexOf bytes i

-- the entries of the first n tiles, or the first fault of their packets, tile by tile
unfoldable pub entries_upto : List ℕ → Headers → ℕ → Result (List (List PacketEntry)) Fault
entries_upto bytes h zero = Ok []
entries_upto bytes h (suc n) = entries_upto bytes h n >>= λ before. entries_at bytes h n
    >>= λ last. Ok (before ++ last ∷ [])

-- the index of a codestream at a place of a file of so many bytes, the length of whose box is told
-- so
unfoldable pub fields_at : Boxed → Form → ℕ → List ℕ → Result IndexFields Fault
fields_at place form size codestream = do
  main ← main_at codestream
  headers ← headers_at codestream
  packets ← entries_upto codestream headers (tile_count headers.siz)
  Ok (record {
    place = place;
    layers = main.0.cod.layers;
    order = main.0.cod.order;
    headers = headers;
    packets = packets;
    frame = frame_at codestream headers form size;
  })

-- the index of a file, or the first fault
unfoldable pub index_at : List ℕ → Result IndexFields Fault
index_at bytes = do
  place ← boxes_at bytes
  form ← form_at bytes
  fields_at place form (length bytes) (slice_range bytes place.start place.end)
