-- The head of a tile-part, SOT to SOD (T.800 A.4.2), without PLT (A.7.3), apart from its data.
use Rattle.std.specs.Prelude.{ℕ, ◌+◌, ◌==◌, nat_lt, is_some, if◌then◌else◌, List, [], ◌∷◌, ◌++◌, length, take}
use Rattle.std.specs.Prelude.{drop, slice_index, Option, Some, None}
use Rattle.std.specs.List.{flat_map}
use Rattle.byteorder.specs.Endian.{big_number}
use Rattle.jk_marks.specs.declared.part_head.PartHead.{PartHead}
use Rattle.jk_marks.specs.Markers.{sot, plt, sod, marker_text}
use Rattle.jk_marks.specs.Segments.{segment_text}
use Rattle.jk_marks.specs.Codestream.{CodestreamPart, sot_text}
use Rattle.jk_marks.specs.Copying.{kept_segments, part_kept_at}

-- the segments of a tile-part without PLT
abbrev pub kept_text : CodestreamPart → List ℕ
kept_text p = flat_map segment_text (kept_segments plt p.segments)

abbrev pub head_of : CodestreamPart → PartHead
head_of p = record {
  tile = p.tile;
  number = p.number;
  total = p.total;
  is_open = p.is_open;
  size = length (kept_text p);
}

-- the head of the tile-part that begins the bytes, where SOT stands there
unfoldable pub part_head_at : List ℕ → Option PartHead
part_head_at bytes =
    if nat_lt (length bytes) 12 then None
    else (if big_number 2 bytes == sot then Some (record {
      tile = big_number 2 (drop 4 bytes);
      number = slice_index bytes 10;
      total = slice_index bytes 11;
      is_open = big_number 4 (drop 6 bytes) == 0;
      size = length (part_kept_at bytes);
    }) else None)

-- its segments, where it is one
abbrev pub kept_after : Option PartHead → List ℕ → List ℕ
kept_after head bytes = if is_some head then part_kept_at bytes else []

-- Psot, where the data have so many bytes
abbrev pub psot_for : PartHead → ℕ → ℕ
psot_for h n = if h.is_open then 0 else 14 + h.size + n

-- the head, with these segments, where the data have so many bytes
abbrev pub part_head : PartHead → (kept : List ℕ) → ℕ → List ℕ
part_head h kept n = sot_text h.tile (psot_for h n) h.number h.total ++ (kept ++ marker_text sod)

-- Tile-parts one after another, from their heads, their segments in one text, and the data of each
-- tile and number.
unfoldable pub heads_text : List PartHead → (segments : List ℕ) → (ℕ → ℕ → List ℕ) → List ℕ
heads_text [] segments content = []
heads_text (h ∷ heads) segments content =
    part_head h (take h.size segments) (length (content h.tile h.number))
    ++ (content h.tile h.number ++ heads_text heads (drop h.size segments) content)
