-- What is written is no longer than what was there.
use Rattle.std.proofs.Common.{ℕ, ◌≤◌, Bool, true, false, not, cond, List, [], ◌∷◌, ◌++◌, length, length-append, arith}
use Rattle.std.specs.List.{flat_map}
use Rattle.jk_marks.specs.Markers.{plt}
use Rattle.jk_marks.specs.Segments.{Segment, segment_text}
use Rattle.jk_marks.specs.Codestream.{CodestreamPart, part_length, psot}
use Rattle.jk_marks.specs.Copying.{is_passed_as, kept_segments, part_with}

-- segments that are left out take no room
pub kept_shorter : (m : ℕ) (ss : List Segment) → length (flat_map segment_text (kept_segments m ss)) ≤ length (flat_map segment_text ss)
kept_shorter m [] = omega arith
kept_shorter m (s ∷ ss) = by (is_passed_as m s) (kept_shorter m ss)
  where
    by : (b : Bool) → length (flat_map segment_text (kept_segments m ss)) ≤ length (flat_map segment_text ss)
        → length (flat_map segment_text (cond (not b) (s ∷ kept_segments m ss) (kept_segments m ss))) ≤ length (segment_text s ++ flat_map segment_text ss)
    by true more = omega (arith, more, length-append (segment_text s) (flat_map segment_text ss))
    by false more = omega (arith, more, length-append (segment_text s) (flat_map segment_text ss), length-append (segment_text s) (flat_map segment_text (kept_segments m ss)))

-- nor does the part
pub part_shorter : (p : CodestreamPart) (content : List ℕ) → length content ≤ length p.content → part_length (part_with p content) ≤ part_length p
part_shorter p content short = let kept = kept_shorter plt p.segments in omega (arith, kept, short)

pub psot_shorter : (p : CodestreamPart) (content : List ℕ) → length content ≤ length p.content → psot (part_with p content) ≤ psot p
psot_shorter p content short = by p.is_open
  where
    by : (b : Bool) → cond b 0 (part_length (part_with p content)) ≤ cond b 0 (part_length p)
    by true = omega arith
    by false = part_shorter p content short
