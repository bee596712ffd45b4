-- The marker segments that are passed over in the headers of a codestream (T.800 A.3, A.4.2): among
-- its segments, and by their places.
use Rattle.std.specs.Prelude.{ℕ, zero, suc, ◌-◌, not, ◌==◌, nat_lt, if◌then◌else◌, Bool, false, List, [], ◌∷◌, ◌++◌}
use Rattle.std.specs.Prelude.{length, drop}
use Rattle.std.specs.List.{flat_map, list_any}
use Rattle.byteorder.specs.Endian.{big_number}
use Rattle.jk_marks.specs.Markers.{siz, cod, coc, qcd, qcc, sot, sod}
use Rattle.jk_marks.specs.Segments.{Segment, CodSegment, CocSegment, QcdSegment, QccSegment, Passed, Alone}
use Rattle.jk_marks.specs.Codestream.{Tree}
use Rattle.jk_marks.specs.Copying.{segment_size}

-- ---- among the segments

-- the segments of all headers
abbrev pub all_segments : Tree → List Segment
all_segments t = t.segments ++ flat_map (λ p. p.segments) t.parts

-- whether a segment is passed over and has this marker
abbrev pub is_passed_over : ℕ → Segment → Bool
is_passed_over m (CodSegment c) = false
is_passed_over m (CocSegment i k) = false
is_passed_over m (QcdSegment q) = false
is_passed_over m (QccSegment i q) = false
is_passed_over m (Passed k bytes) = k == m
is_passed_over m (Alone k) = k == m

-- ---- by their places

-- the markers of the segments at the front, at most n of them, up to the marker `last`
unfoldable pub markers_from : (n last : ℕ) → List ℕ → List ℕ
markers_from zero last bytes = []
markers_from (suc n) last bytes =
    if segment_size last bytes == 0 then []
    else big_number 2 bytes ∷ markers_from n last (drop (segment_size last bytes) bytes)

-- How long the tile-part is that begins the bytes, which go on to the end of the codestream: Psot,
-- or up to EOC where Psot is 0. It is 0 where no tile-part stands there as a whole.
unfoldable pub part_size : List ℕ → ℕ
part_size bytes =
    if nat_lt (length bytes) 14 then 0
    else (if not (big_number 2 bytes == sot) then 0
    else (if big_number 4 (drop 6 bytes) == 0 then length bytes - 2
    else (if nat_lt (length bytes) (big_number 4 (drop 6 bytes)) then 0 else big_number 4 (drop 6 bytes))))

-- what stands from each tile-part on, at most n of them
unfoldable pub parts_from : ℕ → List ℕ → List (List ℕ)
parts_from zero bytes = []
parts_from (suc n) bytes = if part_size bytes == 0 then [] else bytes ∷ parts_from n (drop (part_size bytes) bytes)

-- the markers of a tile-part's header, behind SOT and its segment
abbrev pub part_markers : List ℕ → List ℕ
part_markers bytes = markers_from (length (drop 12 bytes)) sod (drop 12 bytes)

-- the markers of a main header, behind SOC
abbrev pub main_markers : List ℕ → List ℕ
main_markers bytes = markers_from (length (drop 2 bytes)) sot (drop 2 bytes)

-- the tile-parts of a codestream whose main header is so long
abbrev pub parts_in : List ℕ → ℕ → List (List ℕ)
parts_in bytes size = parts_from (length (drop size bytes)) (drop size bytes)

-- the markers of all headers
abbrev pub markers_in : List ℕ → ℕ → List ℕ
markers_in bytes size = main_markers bytes ++ flat_map part_markers (parts_in bytes size)

-- the markers of the segments that say something: SIZ, COD, COC, QCD and QCC; all others in a
-- header are passed over
abbrev pub is_read : ℕ → Bool
is_read m = list_any (λ k. k == m) (siz ∷ cod ∷ coc ∷ qcd ∷ qcc ∷ [])
