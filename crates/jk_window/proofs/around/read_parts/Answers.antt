use Rattle.std.proofs.Common.{◌≡◌, ◌-◌, ◌+◌, ◌++◌, List, ℕ, [], ◌∷◌, Some, None, Option, sym, ap, ◌∙◌, arith, append_assoc, take, drop, length}
use Rattle.std.proofs.lemmas.List.{append-nil, take_all, length-drop}
use Rattle.jk_marks.specs.declared.part_head.PartHead.{PartHead}
use Rattle.jk_marks.specs.Copying.{part_kept_at}
use Rattle.jk_marks.specs.PartHeads.{part_head_at, kept_after}
use Rattle.jk_window.specs.Framing.{walked, head_alone, segments_alone, end_of}
use Rattle.jk_window.proofs.FramingLaws.{walked_more, walked_none, walked_over}
use Rattle.jk_window.proofs.around.read_parts.Goals as goal

-- the bytes from a place on
from_on : (bytes : List ℕ) (at : ℕ) → take (length bytes - at) (drop at bytes) ≡ drop at bytes
from_on bytes at = take_all (length bytes - at) (drop at bytes) (omega (arith, length-drop at bytes))

pub loop-preserved : goal.loop-preserved
loop-preserved c =
    let bytes = c.args.bytes.now in
    let h = c.args.headers.now in
    let n = length bytes in
    let at = c.loop.at in
    let head = c.in-Some.head in
    let here : take (n - at) (drop at bytes) ≡ drop at bytes = from_on bytes at in
    let some : Some head ≡ part_head_at (drop at bytes) = sym c.in-Some.is ∙ c.in_ok-head.ensures.exact ∙ ap part_head_at here in
    let kept : c.copy_part_segments.new.out.items ≡ c.loop.segments.items ++ part_kept_at (drop at bytes) =
    c.in_ok-head.ensures.kept
    ∙ ap (λ (o : Option PartHead). c.loop.segments.items ++ kept_after o (take (n - at) (drop at bytes))) c.in-Some.is
    ∙ ap (λ (xs : List ℕ). c.loop.segments.items ++ part_kept_at xs) here in
    let heads = walked_more head_alone n c.loop.counter bytes h at head c.loop-test.true some in
    let segments = walked_more segments_alone n c.loop.counter bytes h at head c.loop-test.true some in
    let left = n - (c.loop.counter + 1) in
    record {
      end_is = c.loop.invariant.end_is;
      within = c.end_of-at.ensures.within;
      heads =
          ap (λ k. c.push.new.self.items ++ walked head_alone left bytes h k) c.end_of-at.ensures.value
          ∙ ap (λ (xs : List PartHead). xs ++ walked head_alone left bytes h (end_of h head)) c.in_ok-push.ensures.items
          ∙ append_assoc c.loop.heads.items (head ∷ []) (walked head_alone left bytes h (end_of h head))
          ∙ ap (λ (xs : List PartHead). c.loop.heads.items ++ xs) (sym heads)
          ∙ c.loop.invariant.heads;
      segments =
          ap (λ k. c.copy_part_segments.new.out.items ++ walked segments_alone left bytes h k) c.end_of-at.ensures.value
          ∙ ap (λ (xs : List ℕ). xs ++ walked segments_alone left bytes h (end_of h head)) kept
          ∙ append_assoc c.loop.segments.items (part_kept_at (drop at bytes)) (walked segments_alone left bytes h (end_of h head))
          ∙ ap (λ (xs : List ℕ). c.loop.segments.items ++ xs) (sym segments)
          ∙ c.loop.invariant.segments;
    }

pub returns-in_default-clause-heads : goal.returns-in_default-clause-heads
returns-in_default-clause-heads c =
    let bytes = c.args.bytes.now in
    let n = length bytes in
    let at = c.loop.at in
    let none : None ≡ part_head_at (drop at bytes) = sym c.in_default.is ∙ c.in_ok-head.ensures.exact ∙ ap part_head_at (from_on bytes at) in
    let over = walked_none head_alone (n - c.loop.counter) bytes c.args.headers.now at none in
    sym (append-nil c.loop.heads.items) ∙ ap (λ (xs : List PartHead). c.loop.heads.items ++ xs) (sym over) ∙ c.loop.invariant.heads

pub returns-in_default-clause-segments : goal.returns-in_default-clause-segments
returns-in_default-clause-segments c =
    let bytes = c.args.bytes.now in
    let n = length bytes in
    let at = c.loop.at in
    let none : None ≡ part_head_at (drop at bytes) = sym c.in_default.is ∙ c.in_ok-head.ensures.exact ∙ ap part_head_at (from_on bytes at) in
    let over = walked_none segments_alone (n - c.loop.counter) bytes c.args.headers.now at none in
    c.in_ok-head.ensures.kept
    ∙ ap (λ (o : Option PartHead). c.loop.segments.items ++ kept_after o (take (n - at) (drop at bytes))) c.in_default.is
    ∙ ap (λ (xs : List ℕ). c.loop.segments.items ++ xs) (sym over)
    ∙ c.loop.invariant.segments

pub returns-clause-heads : goal.returns-clause-heads
returns-clause-heads c =
    let n = length c.args.bytes.now in
    let none = walked_over head_alone n c.loop.counter c.args.bytes.now c.args.headers.now c.loop.at (omega (arith, c.loop-test.false)) in
    sym (append-nil c.loop.heads.items) ∙ ap (λ (xs : List PartHead). c.loop.heads.items ++ xs) (sym none) ∙ c.loop.invariant.heads

pub returns-clause-segments : goal.returns-clause-segments
returns-clause-segments c =
    let n = length c.args.bytes.now in
    let none = walked_over segments_alone n c.loop.counter c.args.bytes.now c.args.headers.now c.loop.at (omega (arith, c.loop-test.false)) in
    sym (append-nil c.loop.segments.items) ∙ ap (λ (xs : List ℕ). c.loop.segments.items ++ xs) (sym none) ∙ c.loop.invariant.segments
