-- The passes that are coded, one after another.
use Rattle.std.proofs.Common.{◌≡◌, ℕ, Bool, true, false, suc, ◌+◌, List, [], ◌∷◌, ◌++◌, ℤ, sym, ap, ◌∙◌, subst, arith}
use Rattle.std.proofs.lemmas.List.FromFn.{map-range_with_len_more}
use Rattle.jk_mqenc.specs.Encoded.{EncoderView, Codes, written_by}
use Rattle.jk_mqenc.proofs.Laws.{pass-begins}
use Rattle.jk_scan.specs.declared.shape.BlockShape.{BlockShape}
use Rattle.jk_scan.specs.Neighbours.{Field}
use Rattle.jk_scan.specs.Passes.{Decided}
use Rattle.jk_block.specs.Meaning.{plane_of, kind_of, plane_at, whole_decisions, pass_decisions}
use Rattle.jk_block.specs.BlockWritten.{marks_upto}
use Rattle.jk_block.specs.CodedBlocks.{HasCodedPasses}
use Rattle.jk_block.proofs.Whole.{passes_more}

-- one pass more
pub decisions_more : (s : BlockShape) (planes n b pass : ℕ) (q : Field ℤ) → plane_of planes n ≡ b → kind_of n ≡ pass → pass_decisions s planes (n + 1) q ≡ pass_decisions s planes n q ++ whole_decisions s (plane_at s b q) pass ∷ []
decisions_more s planes n b pass q e g =
    ap (λ n. pass_decisions s planes n q) (let one : n + 1 ≡ suc n = omega arith in one) ∙ passes_more s planes n q
    ∙ ap (λ b. pass_decisions s planes n q ++ whole_decisions s (plane_at s b q) (kind_of n) ∷ []) e
    ∙ ap (λ k. pass_decisions s planes n q ++ whole_decisions s (plane_at s b q) k ∷ []) g

pub marks_more : (s : BlockShape) (planes n : ℕ) (q : Field ℤ) → marks_upto s planes (n + 1) q ≡ marks_upto s planes n q ++ written_by s.style.reset (pass_decisions s planes (n + 1) q) ∷ []
unfolding marks_upto
marks_more s planes n q = map-range_with_len_more (λ n. written_by s.style.reset (pass_decisions s planes (n + 1) q)) 0 n n (omega arith)

-- without context reset nothing begins a pass
pub begins_plainly : (r : Bool) (e : EncoderView) (dss : List Decided) → r ≡ false → Codes e r dss → Codes e r (dss ++ [] ∷ [])
begins_plainly true e dss plain c = absurd cc
begins_plainly false e dss plain c = pass-begins e dss c

pub coded_pass : (s : BlockShape) (planes n b pass : ℕ) (q : Field ℤ) (e e' : EncoderView) (marks marks' : List ℕ) → HasCodedPasses s planes n q e marks → plane_of planes n ≡ b → kind_of n ≡ pass
    → ((dss : List Decided) → Codes e s.style.reset dss → Codes e' s.style.reset (dss ++ whole_decisions s (plane_at s b q) pass ∷ []))
    → ((dss : List Decided) → Codes e s.style.reset dss → marks' ≡ marks ++ written_by s.style.reset (dss ++ whole_decisions s (plane_at s b q) pass ∷ []) ∷ []) → HasCodedPasses s planes (n + 1) q e' marks'
coded_pass s planes n b pass q e e' marks marks' h plane kind codes mark =
    let ds = pass_decisions s planes n q in
    let more = decisions_more s planes n b pass q plane kind in
    record {
      codes = subst (λ (dss : List Decided). Codes e' s.style.reset dss) (sym more) (codes ds h.codes);
      marked = mark ds h.codes ∙ ap (λ (ms : List ℕ). ms ++ written_by s.style.reset (ds ++ whole_decisions s (plane_at s b q) pass ∷ []) ∷ []) h.marked
          ∙ ap (λ (dss : List Decided). marks_upto s planes n q ++ written_by s.style.reset dss ∷ []) (sym more) ∙ sym (marks_more s planes n q);
    }
