-- An image that is given in stripes of rows, one below the other, to what takes them.
use Rattle.std.specs.Prelude.{◌≡◌, ℕ, ◌+◌, ◌-◌, ◌*◌, ◌%◌, ◌^◌, ◌<◌, ◌≤◌, ◌⊎◌, List, [], ◌∷◌, length, slice_index_or, Result, Ok, Err}
use Rattle.jk_math.specs.Answer.{Answers}
use Rattle.jk_math.specs.Picture.{Picture}
use Rattle.jk_math.specs.declared.fault.Fault.{Fault}
use Rattle.jk_math.specs.declared.rect.Rect.{Rect}
use Rattle.jk_marks.specs.Siz.{tile_count, tiles_across}
use Rattle.jk_tile.specs.TileMeaning.{shown_area}
use Rattle.jk_tile.specs.decoding.TileReading.{tested, tile_planes_at}
use Rattle.jk_tile.specs.decoding.TileSources.{TileSource}
use Rattle.jk_rows.specs.Components.{IsStepEnd}
use Rattle.jk_rows.specs.declared.tile.TileRows.{TileRows}
use Rattle.jk_rows.specs.Tiles.{IsTileRows, HasFaultIn}
use Rattle.jk_code.specs.declared.row_walk.RowWalk.{RowWalk}
use Rattle.jk_code.specs.declared.rows.TileRow.{TileRow}
use Rattle.jk_code.specs.Made.{rows_of}
use Rattle.jk_code.specs.MeaningReading.{picture_with, planes_of_tiles, tiles_tested}
use Rattle.jk_code.specs.Sources.{ImageSource}

-- From one state of what takes them to another, the rows of a picture from row y up to row z were
-- taken, one stripe after another: `stripes` tells of each its end and the state behind it.
abbrev pub AreTaken : {A : Type 0} → (took : A → Picture → A → Type 0) → Picture → (y z : ℕ) → (from : A)
    → (stripes : List (ℕ × A)) → (to : A) → Type 0
AreTaken took p y z from [] to = (y ≡ z) × (from ≡ to)
AreTaken took p y z from (w ∷ stripes) to =
    (y < w.0) × (w.0 ≤ z) × took from (rows_of p y w.0) w.1 × AreTaken took p w.0 z w.1 stripes to

-- the same, whichever stripes they were
abbrev pub WereTaken : {A : Type 0} → (took : A → Picture → A → Type 0) → Picture → (y z : ℕ) → (from to : A) → Type 0
WereTaken {A} took p y z from to = (stripes : List (ℕ × A)) × AreTaken took p y z from stripes to

-- Rows of a picture were taken from row y on, and those that came next, up to row z at most, were
-- refused with this fault.
pub record WereRefused {A : Type 0} (took : A → Picture → A → Type 0) (refused : A → Picture → Fault → A → Type 0) (p : Picture) (y z : ℕ) (from to : A) (e : Fault) : Type 0 where
  pub next : ℕ
  pub last : ℕ
  pub before : A
  pub low : y ≤ next
  pub more : next < last
  pub high : last ≤ z
  pub taken : WereTaken took p y next from before
  pub why : refused before (rows_of p next last) e to

-- The rows of the picture that is due were refused so, and what refused them is told.
abbrev pub AreRefused : {A : Type 0} → (took : A → Picture → A → Type 0) → (refused : A → Picture → Fault → A → Type 0) → (due : Result Picture Fault) → (from to : A) → Result (Unit {0}) Fault → Type 0
AreRefused took refused due from to result =
    (e : Fault) × (result ≡ Err e) × (p : Picture) × (due ≡ Ok p) × WereRefused took refused p p.y0 (p.y0 + p.height) from to e

-- the picture whose rows are given: that of a source, whatever its code-blocks have
abbrev pub picture_of : ImageSource → Picture
picture_of s = picture_with s.headers.siz s.area (planes_of_tiles s.bytes s.headers s.reduce s.area)

-- tile `number` of it
abbrev pub tile_source : ImageSource → (number : ℕ) → TileSource
tile_source s number = record {
  headers = s.headers;
  bytes = s.bytes;
  number = number;
  packets = slice_index_or s.packets number [];
  reduce = s.reduce;
}

-- the rectangle of it
abbrev pub area_of_tile : ImageSource → (number : ℕ) → Rect
area_of_tile s number = shown_area s.headers.siz number s.reduce

-- what a stripe of rows has of it
abbrev pub part_of_stripe : ImageSource → (number : ℕ) → (stripe : Rect) → Rect
part_of_stripe s number stripe = record { x0 = (area_of_tile s number).x0; y0 = stripe.y0; x1 = (area_of_tile s number).x1; y1 = stripe.y1 }

-- a code-block of tile `number` has this fault
abbrev pub HasFaultAt : ImageSource → Fault → Type 0
HasFaultAt s e = (number : ℕ) × (number < tile_count s.headers.siz) × HasFaultIn (tile_source s number) e

-- So many tiles side by side, from one on, stand before row y of theirs.
pub record IsTileRow (s : ImageSource) (first across y : ℕ) (row : TileRow) : Type 0 where
  pub begins : row.first ≡ first
  pub whole : first + across ≤ tile_count s.headers.siz
  pub count : length row.tiles.items ≡ across
  pub each : (k : ℕ) (other : TileRows) → k < across → IsTileRows (tile_source s (first + k)) y (slice_index_or row.tiles.items k other)

-- no code-block of tile `number` has a fault
abbrev pub IsFineTile : ImageSource → (number : ℕ) → Type 0
IsFineTile s number = tested (tile_planes_at s.bytes s.headers number s.reduce (slice_index_or s.packets number [])) ≡ Ok tt

-- A walk stands in a row of tiles: rows y up to end are a step of it, and there are some, if the row
-- of tiles has rows that weren't given.
pub record IsInRow (s : ImageSource) (walk : RowWalk) : Type 0 where
  pub row : IsTileRow s walk.row.first (tiles_across s.headers.siz) walk.y walk.row
  pub area : walk.area ≡ area_of_tile s walk.row.first
  pub from : IsStepEnd walk.area walk.y
  pub to : IsStepEnd walk.area walk.end
  pub order : walk.y ≤ walk.end
  pub more : walk.y < walk.area.y1 → walk.y < walk.end

-- A walk down the rows of a source stands in a row of tiles, or behind the last row; no code-block of
-- the tiles that are behind it has a fault.
pub record IsRowWalk (s : ImageSource) (walk : RowWalk) : Type 0 where
  pub step : 1 ≤ walk.step
  pub high : walk.area.y1 < 2 ^ 31
  pub begins : walk.row.first % tiles_across s.headers.siz ≡ 0
  pub few : walk.row.first ≤ tile_count s.headers.siz
  pub fine : (t : ℕ) → t < walk.row.first → IsFineTile s t
  pub inside : walk.row.first < tile_count s.headers.siz → IsInRow s walk
  pub end : tile_count s.headers.siz ≤ walk.row.first → walk.y ≡ s.area.y1

-- how much of it is left
abbrev pub rows_left : ImageSource → RowWalk → ℕ
rows_left s walk = (tile_count s.headers.siz - walk.row.first) * 2 ^ 31 + (walk.area.y1 - walk.y)

-- What is told where rows were given so: what is due, or, where no fault is, what the giving ended with.
abbrev pub IsTold : (given result : Result (Unit {0}) Fault) → (due : Result (Unit {0}) Fault) → Type 0
IsTold given result due = Answers (λ _. tt) result due ⊎ ((result ≡ given) × (due ≡ Ok tt))

-- the first fault of all code-blocks of a source
abbrev pub fault_of : ImageSource → Result (Unit {0}) Fault
fault_of s = tiles_tested s.bytes s.headers s.reduce (tile_count s.headers.siz)

-- What is told of the rows of a source: its first fault, or none; or they were refused, where it has none.
abbrev pub AreTold : {A : Type 0} → (took : A → Picture → A → Type 0) → (refused : A → Picture → Fault → A → Type 0) → ImageSource → (from to : A) → Result (Unit {0}) Fault → Type 0
AreTold took refused s from to result = Answers (λ _. tt) result (fault_of s)
    ⊎ ((fault_of s ≡ Ok tt) × (e : Fault) × (result ≡ Err e) × WereRefused took refused (picture_of s) s.area.y0 s.area.y1 from to e)
