-- Headers without the segments that tell lengths: TLM and PLT (T.800 A.7.1, A.7.3).
use Rattle.std.specs.Prelude.{ℕ, zero, suc, ◌+◌, Bool, false, not, ◌==◌, nat_lt, if◌then◌else◌, List, [], ◌++◌, length}
use Rattle.std.specs.Prelude.{take, drop, filter}
use Rattle.byteorder.specs.Endian.{big_number}
use Rattle.jk_marks.specs.Markers.{sot, sod, tlm, plt, is_alone}
use Rattle.jk_marks.specs.Segments.{Segment, CodSegment, CocSegment, QcdSegment, QccSegment, Passed, Alone}
use Rattle.jk_marks.specs.Codestream.{CodestreamPart}

-- whether a segment was passed over that has this marker
abbrev pub is_passed_as : ℕ → Segment → Bool
is_passed_as m (CodSegment c) = false
is_passed_as m (CocSegment i k) = false
is_passed_as m (QcdSegment q) = false
is_passed_as m (QccSegment i q) = false
is_passed_as m (Passed k bytes) = k == m
is_passed_as m (Alone k) = false

-- the segments of a header but those that were passed over and have this marker
abbrev pub kept_segments : ℕ → List Segment → List Segment
kept_segments m segments = filter (λ s. not (is_passed_as m s)) segments

-- a tile-part without PLT, and with other data
abbrev pub part_with : CodestreamPart → List ℕ → CodestreamPart
part_with p content = record p { segments = kept_segments plt p.segments; content = content }

-- How many bytes the marker segment at the front takes; 0 where the marker `last` stands there, or
-- where the bytes end before the segment does.
unfoldable pub segment_size : ℕ → List ℕ → ℕ
segment_size last bytes =
    if nat_lt (length bytes) 2 then 0
    else (if big_number 2 bytes == last then 0
    else (if is_alone (big_number 2 bytes) then 2
    else (if nat_lt (length bytes) 4 then 0
    else (if nat_lt (length bytes) (2 + big_number 2 (drop 2 bytes)) then 0 else 2 + big_number 2 (drop 2 bytes)))))

-- the segment at the front, so long, unless it has a marker
abbrev pub kept_front : (size out : ℕ) → List ℕ → List ℕ
kept_front size out bytes = if big_number 2 bytes == out then [] else take size bytes

-- The segments at the front up to the marker `last`, at most n of them, without those of a marker.
unfoldable pub kept_at : (n last out : ℕ) → List ℕ → List ℕ
kept_at zero last out bytes = []
kept_at (suc n) last out bytes =
    if segment_size last bytes == 0 then []
    else kept_front (segment_size last bytes) out bytes ++ kept_at n last out (drop (segment_size last bytes) bytes)

-- how many bytes all those segments take
unfoldable pub size_at : (n last : ℕ) → List ℕ → ℕ
size_at zero last bytes = 0
size_at (suc n) last bytes =
    if segment_size last bytes == 0 then 0
    else segment_size last bytes + size_at n last (drop (segment_size last bytes) bytes)

-- The segments of a tile-part without PLT, behind SOT and its segment.
abbrev pub part_kept_at : List ℕ → List ℕ
part_kept_at bytes = kept_at (length (drop 12 bytes)) sod plt (drop 12 bytes)

-- a main header without TLM
abbrev pub main_kept_at : List ℕ → List ℕ
main_kept_at bytes = take 2 bytes ++ kept_at (length (drop 2 bytes)) sot tlm (drop 2 bytes)

-- how many bytes it takes with TLM
abbrev pub main_size_at : List ℕ → ℕ
main_size_at bytes = 2 + size_at (length (drop 2 bytes)) sot (drop 2 bytes)
