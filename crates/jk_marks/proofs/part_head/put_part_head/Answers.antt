use Rattle.std.proofs.Common.{ℕ, List, ◌++◌, append_assoc, ap, ◌∙◌}
use Rattle.jk_marks.specs.Markers.{sod, marker_text}
use Rattle.jk_marks.specs.Codestream.{sot_text}
use Rattle.jk_marks.proofs.PartHeadLaws.{two_more}
use Rattle.jk_marks.proofs.part_head.put_part_head.Goals as goal

pub returns-clause-ok : goal.returns-clause-ok
returns-clause-ok c =
    let o = c.args.out.now.items in
    let s1 = c.put_sot.new.out.items in
    let s2 = c.extend_from_slice.new.self.items in
    let s3 = c.extend_from_slice-2.new.self.items in
    let a = two_more o s1 s2 _ _ c.in_ok-put_sot.ensures.ok c.in_ok-extend_from_slice.ensures.items in
    let n = c.psot.result in
    let h = c.args.head.now in
    let kept = c.args.segments.now in
    two_more o s2 s3 _ _ a c.in_ok-extend_from_slice-2.ensures.items
    ∙ ap (λ (xs : List ℕ). o ++ ((sot_text h.tile n h.number h.total ++ kept) ++ xs)) c.to_be_bytes.ensures
    ∙ ap (λ (xs : List ℕ). o ++ xs) (append_assoc (sot_text h.tile n h.number h.total) kept (marker_text sod))
    ∙ ap (λ m. o ++ (sot_text h.tile m h.number h.total ++ (kept ++ marker_text sod))) c.psot.ensures
