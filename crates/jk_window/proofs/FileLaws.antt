-- The text of a codestream whose parts have other data, and that it is no longer than it was.
use Rattle.std.proofs.Common.{◌≡◌, ℕ, ◌≤◌, List, ◌++◌, length, length-append, refl, ap, arith}
use Rattle.std.specs.List.{flat_map}
use Rattle.jk_marks.specs.declared.siz.Siz.{Siz}
use Rattle.jk_marks.specs.Markers.{soc, tlm, eoc, marker_text}
use Rattle.jk_marks.specs.Siz.{siz_text}
use Rattle.jk_marks.specs.Segments.{Segment, segment_text}
use Rattle.jk_marks.specs.Codestream.{Tree, part_text, main_text, codestream_text}
use Rattle.jk_marks.specs.Copying.{kept_segments}
use Rattle.jk_params.specs.Headers.{Headers, IsHeaders}
use Rattle.jk_window.specs.Emptied.{emptied_tree}
use Rattle.jk_window.specs.Cutting.{parts_text}
use Rattle.jk_window.proofs.Lengths.{kept_shorter}

-- the text of a tree whose parts have other data
pub emptied_text_is : (content : ℕ → ℕ → List ℕ) (tree : Tree) → codestream_text (emptied_tree content tree) ≡ main_text tree.siz (kept_segments tlm tree.segments) ++ (parts_text content tree.parts ++ marker_text eoc)
unfolding codestream_text
emptied_text_is content tree = refl

-- ---- no longer than it was

main_shorter : (siz : Siz) (segments : List Segment) → length (main_text siz (kept_segments tlm segments)) ≤ length (main_text siz segments)
unfolding main_text
main_shorter siz segments =
    let kept = kept_shorter tlm segments in
    omega (
      arith,
      kept,
      length-append (marker_text soc) (siz_text siz ++ flat_map segment_text segments),
      length-append (siz_text siz) (flat_map segment_text segments),
      length-append (marker_text soc) (siz_text siz ++ flat_map segment_text (kept_segments tlm segments)),
      length-append (siz_text siz) (flat_map segment_text (kept_segments tlm segments)),
    )

pub text_shorter : (bytes : List ℕ) (h : Headers) (is : IsHeaders bytes h) (content : ℕ → ℕ → List ℕ) → length (parts_text content is.tree.parts) ≤ length (flat_map part_text is.tree.parts)
    → length (codestream_text (emptied_tree content is.tree)) ≤ length bytes
unfolding codestream_text
text_shorter bytes h is content parts =
    let tree = is.tree in
    let main = main_shorter tree.siz tree.segments in
    let whole = ap (λ (xs : List ℕ). length xs) is.spelled.text in
    let old = length-append (main_text tree.siz tree.segments) (flat_map part_text tree.parts ++ marker_text eoc) in
    let new = length-append (main_text tree.siz (kept_segments tlm tree.segments)) (parts_text content tree.parts ++ marker_text eoc) in
    omega (arith, parts, main, whole, old, new, length-append (flat_map part_text tree.parts) (marker_text eoc), length-append (parts_text content tree.parts) (marker_text eoc))
