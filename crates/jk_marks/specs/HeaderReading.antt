-- Reading the main header and tile-parts from left to right, with the first fault that is met.
use Rattle.std.specs.Prelude.{ℕ, zero, suc, ◌+◌, ◌-◌, ◌*◌, ◌/◌, ◌%◌, ◌^◌, List, length, take, drop, Bool, not, ◌&&◌}
use Rattle.std.specs.Prelude.{◌||◌, ◌==◌, nat_lt, nat_le, is_none, if◌then◌else◌, Result, Ok, Err, slice_index}
use Rattle.byteorder.specs.Endian.{big_number}
use Rattle.jk_math.specs.Answer.{◌>>=◌, refuse}
use Rattle.jk_math.specs.declared.fault.Fault.{Fault}
use Rattle.jk_math.specs.declared.fault.Fault.TheVariants.{Truncated, BadMarker, BadLength, BadValue, Unsupported}
use Rattle.jk_math.specs.declared.fault.Fault.TheVariants.{Limit}
use Rattle.jk_marks.specs.declared.siz.Siz.{Siz}
use Rattle.jk_marks.specs.declared.siz_segment.Area.{Area}
use Rattle.jk_marks.specs.declared.siz_segment.Tiling.{Tiling}
use Rattle.jk_marks.specs.declared.main_header.Main.{Main}
use Rattle.jk_marks.specs.declared.head.TileHead.{TileHead}
use Rattle.jk_marks.specs.declared.head.Heading.TheVariants.{MainHeader}
use Rattle.jk_marks.specs.declared.tile_part.TilePart.{TilePart}
use Rattle.jk_marks.specs.declared.tile_part.Sot.{Sot}
use Rattle.jk_marks.specs.Markers.{soc, siz, sot, sod, eoc}
use Rattle.jk_marks.specs.Place.{ReadingPlace, closed}
use Rattle.jk_marks.specs.Siz.{tile_count}
use Rattle.jk_marks.specs.Codestream.{main_with, heading_of}
use Rattle.jk_marks.specs.Reading.{number, segment_length, header_at}

-- Rsiz to YOsiz: the capabilities and the image on the reference grid
unfoldable pub area_at : ReadingPlace → Result (Area × ReadingPlace) Fault
area_at p = do
  rsiz ← number 2 p
  _ ← refuse (nat_le 16384 rsiz.0) Unsupported
  x1 ← number 4 rsiz.1
  _ ← refuse (nat_le (2 ^ 31) x1.0) Limit
  y1 ← number 4 x1.1
  _ ← refuse (nat_le (2 ^ 31) y1.0) Limit
  x0 ← number 4 y1.1
  _ ← refuse (nat_le x1.0 x0.0) BadValue
  y0 ← number 4 x0.1
  _ ← refuse (nat_le y1.0 y0.0) BadValue
  _ ← refuse (nat_lt (2 ^ 28) ((x1.0 - x0.0) * (y1.0 - y0.0))) Limit
  Ok (record { rsiz = rsiz.0; x1 = x1.0; y1 = y1.0; x0 = x0.0; y0 = y0.0 }, y0.1)

-- whether the first tile of a line reaches over the image's first place
abbrev pub covers : (tile side start : ℕ) → Bool
covers tile side start = nat_le tile start && nat_lt start (tile + side)

-- how many tiles the image has
abbrev pub tiles_of : Area → Tiling → ℕ
tiles_of a t = (a.x1 - t.x0 + t.width - 1) / t.width * ((a.y1 - t.y0 + t.height - 1) / t.height)

-- XTsiz to YTOsiz: the size of a tile, and where the first one begins
unfoldable pub tiling_at : Area → ReadingPlace → Result (Tiling × ReadingPlace) Fault
tiling_at a p = do
  width ← number 4 p
  _ ← refuse (width.0 == 0) BadValue
  height ← number 4 width.1
  _ ← refuse (height.0 == 0) BadValue
  x0 ← number 4 height.1
  _ ← refuse (not (covers x0.0 width.0 a.x0)) BadValue
  y0 ← number 4 x0.1
  _ ← refuse (not (covers y0.0 height.0 a.y0)) BadValue
  _ ← refuse (nat_lt 65535 (tiles_of a (record { width = width.0; height = height.0; x0 = x0.0; y0 = y0.0 }))) BadValue
  Ok (record { width = width.0; height = height.0; x0 = x0.0; y0 = y0.0 }, y0.1)

-- XRsiz or YRsiz
unfoldable pub sampling_at : ReadingPlace → Result (Unit {0} × ReadingPlace) Fault
sampling_at p = do
  step ← number 1 p
  _ ← refuse (step.0 == 0) BadValue
  _ ← refuse (not (step.0 == 1)) Unsupported
  Ok (tt, step.1)

-- Ssiz, XRsiz and YRsiz; all components have one Ssiz
unfoldable pub component_depth_at : ℕ → ReadingPlace → Result (Unit {0} × ReadingPlace) Fault
component_depth_at common p = do
  depth ← number 1 p
  _ ← refuse (nat_lt 37 (depth.0 % 128)) BadValue
  _ ← refuse (nat_lt 15 (depth.0 % 128) || not (depth.0 == common)) Unsupported
  x ← sampling_at depth.1
  sampling_at x.1

-- the same of n components
unfoldable pub components_at : (n common : ℕ) → ReadingPlace → Result (Unit {0} × ReadingPlace) Fault
components_at zero common p = Ok (tt, p)
components_at (suc n) common p = component_depth_at common p >>= λ r. components_at n common r.1

-- Csiz in a segment of that length
unfoldable pub count_at : ℕ → ReadingPlace → Result (ℕ × ReadingPlace) Fault
count_at size p = do
  n ← number 2 p
  _ ← refuse (not (size == 38 + 3 * n.0)) BadLength
  _ ← refuse ((n.0 == 0) || nat_lt 16384 n.0) BadValue
  _ ← refuse (nat_lt 4 n.0) Unsupported
  Ok n

-- the first byte from a place on
abbrev pub next_byte : ReadingPlace → ℕ
next_byte p = slice_index p.rest 0

abbrev pub siz_with : Area → Tiling → (components common : ℕ) → Siz
siz_with a t n common = record {
  rsiz = a.rsiz;
  x1 = a.x1;
  y1 = a.y1;
  x0 = a.x0;
  y0 = a.y0;
  tile_width = t.width;
  tile_height = t.height;
  tile_x0 = t.x0;
  tile_y0 = t.y0;
  components = n;
  depth = common % 128 + 1;
  signed = nat_le 128 common;
}

-- SIZ, from its length on (A.5.1)
unfoldable pub siz_at : ReadingPlace → Result (Siz × ReadingPlace) Fault
siz_at p = do
  size ← segment_length p
  area ← area_at size.1
  tiling ← tiling_at area.0 area.1
  n ← count_at size.0 tiling.1
  rest ← components_at n.0 (next_byte n.1) n.1
  Ok (siz_with area.0 tiling.0 n.0 (next_byte n.1), rest.1)

-- COD and QCD must be there
unfoldable pub main_from : Siz → TileHead → Result Main Fault
main_from siz head = do
  _ ← refuse (is_none head.cod) BadMarker
  _ ← refuse (is_none head.qcd) BadMarker
  Ok (main_with siz head)

-- The main header that begins the bytes, and its length. SOT follows it.
unfoldable pub main_at : List ℕ → Result (Main × ℕ) Fault
main_at bytes = do
  first ← number 2 (closed bytes 0)
  _ ← refuse (not (first.0 == soc)) BadMarker
  second ← number 2 first.1
  _ ← refuse (not (second.0 == siz)) BadMarker
  size ← siz_at second.1
  head ← header_at MainHeader size.0.components sot size.1
  main ← main_from size.0 head.0
  Ok (main, head.1.at - 2)

-- where the data of a tile-part end that says the length psot
unfoldable pub part_end : List ℕ → ℕ → Result ℕ Fault
part_end bytes psot =
    if psot == 0 then (if nat_le 2 (length bytes) && (big_number 2 (drop (length bytes - 2) bytes) == eoc)
    then Ok (length bytes - 2) else Err Truncated)
    else (if nat_lt (length bytes) psot then Err Truncated else Ok psot)

-- SOT, from its marker on (A.4.2): the tile, the end of the part, and its number; `seen` says how
-- many parts of each tile came before
unfoldable pub sot_at : Siz → List ℕ → List ℕ → ReadingPlace → Result (Sot × ReadingPlace) Fault
sot_at siz seen bytes p = do
  marker ← number 2 p
  _ ← refuse (not (marker.0 == sot)) BadMarker
  size ← segment_length marker.1
  _ ← refuse (not (size.0 == 10)) BadLength
  tile ← number 2 size.1
  _ ← refuse (nat_le (tile_count siz) tile.0) BadValue
  psot ← number 4 tile.1
  _ ← refuse (nat_lt 0 psot.0 && nat_lt psot.0 14) BadLength
  end ← part_end bytes psot.0
  part ← number 1 psot.1
  _ ← refuse (not (part.0 == slice_index seen tile.0)) BadValue
  _ ← refuse (nat_lt 254 part.0) BadValue
  total ← number 1 part.1
  Ok (record { tile = tile.0; end = end; part = part.0 }, total.1)

-- a tile-part that begins the bytes; its header and its data lie before its end
unfoldable pub part_at : Siz → List ℕ → List ℕ → Result TilePart Fault
part_at siz seen bytes = do
  sot ← sot_at siz seen bytes (closed bytes 0)
  _ ← refuse (nat_lt sot.0.end sot.1.at) Truncated
  head ← header_at (heading_of sot.0.part) siz.components sod (closed (take sot.0.end bytes) sot.1.at)
  Ok (record { tile = sot.0.tile; part = sot.0.part; head = head.0; start = head.1.at; end = sot.0.end })
