-- Reading the headers of a codestream from left to right, with the first fault that is met.
use Rattle.std.specs.Prelude.{ℕ, zero, suc, ◌+◌, ◌<◌, ◌≤◌, Bool, List, [], ◌∷◌, ◌++◌, length, map, replicate, drop, not}
use Rattle.std.specs.Prelude.{◌==◌, nat_lt, ◌&&◌, slice_set, if◌then◌else◌, Result, Ok, Err}
use Rattle.jk_math.specs.Answer.{◌>>=◌, refuse}
use Rattle.jk_math.specs.declared.fault.Fault.{Fault}
use Rattle.jk_math.specs.declared.fault.Fault.TheVariants.{BadMarker, SurplusBytes, Limit, Truncated}
use Rattle.jk_marks.specs.declared.coding.Coding.{Coding}
use Rattle.jk_marks.specs.declared.segments.Cod.{Cod}
use Rattle.jk_marks.specs.declared.main_header.Main.{Main}
use Rattle.jk_marks.specs.declared.tile_part.TilePart.{TilePart}
use Rattle.jk_marks.specs.Markers.{sot, eoc}
use Rattle.jk_marks.specs.Place.{closed}
use Rattle.jk_marks.specs.Siz.{tile_count, IsSiz}
use Rattle.jk_marks.specs.Codestream.{head_of, or_else}
use Rattle.jk_marks.specs.Reading.{number}
use Rattle.jk_marks.specs.HeaderReading.{main_at, part_at}
use Rattle.jk_geom.specs.TileShapes.{AreCodings}
use Rattle.jk_params.specs.CodingReading.{codings_at, HaveStyles}
use Rattle.jk_params.specs.Headers.{Headers, TileFields, tile_in, packets_alike, packets_of, most_packets}

-- Whether the codestream ends at a place: EOC, which is the end, or SOT, which begins a tile-part.
unfoldable pub ends_at : List ℕ → ℕ → Result Bool Fault
ends_at bytes at = do
  marker ← number 2 (closed bytes at)
  _ ← refuse (not (marker.0 == sot) && not (marker.0 == eoc)) BadMarker
  _ ← refuse (not (marker.0 == sot) && not (length marker.1.rest == 0)) SurplusBytes
  Ok (not (marker.0 == sot))

-- where the data of a part stand that begins at a place
abbrev pub place_at : ℕ → TilePart → ℕ × ℕ
place_at at part = (at + part.start, at + part.end)

-- the fields of a tile with one place of data more
abbrev pub with_place : TileFields → ℕ × ℕ → TileFields
with_place f place = record f { data_places = f.data_places ++ place ∷ [] }

-- the fields of a tile with another coding
abbrev pub with_coding : TileFields → Cod → List Coding → TileFields
with_coding f cod codings = record { cod = cod; codings = codings; data_places = f.data_places }

-- The tiles with one part more that begins at a place; the first part of a tile says its coding.
unfoldable pub tiles_with : Main → ℕ → TilePart → List TileFields → Result (List TileFields) Fault
tiles_with main at part tiles =
    if part.part == 0
    then (codings_at main part.head
    >>= λ ks. Ok (slice_set tiles part.tile
    (with_place (with_coding (tile_in tiles part.tile) (or_else main.cod part.head.cod) ks) (place_at at part))))
    else Ok (slice_set tiles part.tile (with_place (tile_in tiles part.tile) (place_at at part)))

-- how many parts of each tile came so far
abbrev pub parts_seen : List TileFields → List ℕ
parts_seen tiles = map (λ f. length f.data_places) tiles

-- the tile-parts from a place on, at most k of them, and the end behind them
unfoldable pub parts_from : ℕ → Main → List ℕ → ℕ → List TileFields → Result (List TileFields) Fault
parts_from zero main bytes at tiles = Err Truncated
parts_from (suc k) main bytes at tiles =
    part_at main.siz (parts_seen tiles) (drop at bytes)
    >>= λ part. tiles_with main at part tiles
    >>= λ more. ends_at bytes (at + part.end)
    >>= λ ends. if ends then Ok more else parts_from k main bytes (at + part.end) more

-- tiles of which no part came: what the main header says
abbrev pub blank_tiles : ℕ → Cod → List Coding → List TileFields
blank_tiles n cod codings = replicate n record { cod = cod; codings = codings; data_places = [] }

-- the main header and its length, and the codings that it says, which make not too many packets
unfoldable pub main_fields_at : List ℕ → Result ((Main × ℕ) × List Coding) Fault
main_fields_at bytes = do
  main ← main_at bytes
  codings ← codings_at main.0 (head_of [])
  _ ← refuse (nat_lt most_packets (packets_alike main.0.siz main.0.cod.layers codings)) Limit
  Ok (main, codings)

-- the tile-parts and the end, after which there are not too many packets
unfoldable pub tiles_at : Main → List ℕ → ℕ → List TileFields → Result (List TileFields) Fault
tiles_at main bytes at blank = do
  tiles ← parts_from (length bytes) main bytes at blank
  _ ← refuse (nat_lt most_packets (packets_of main.siz tiles)) Limit
  Ok tiles

-- the headers of a codestream
unfoldable pub headers_at : List ℕ → Result Headers Fault
headers_at bytes = do
  m ← main_fields_at bytes
  tiles ← tiles_at m.0.0 bytes m.0.1 (blank_tiles (tile_count m.0.0.siz) m.0.0.cod m.1)
  Ok (record { siz = m.0.0.siz; tiles = tiles })

-- the packets of each tile can be counted
abbrev pub AreCountable : List TileFields → Type 0
AreCountable tiles = (t : ℕ) → t < length tiles
    → (1 ≤ (tile_in tiles t).cod.layers) × AreCodings (tile_in tiles t).codings

-- A main header of the profile: its size, a layer or more, its coding styles.
pub record IsProfileMain (main : Main) : Type 0 where
  pub siz : IsSiz main.siz
  pub layers : 1 ≤ main.cod.layers
  pub styles : HaveStyles main (head_of [])
